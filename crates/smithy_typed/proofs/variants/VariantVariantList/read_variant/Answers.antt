use Rattle.std.proofs.Common.{◌≡◌, ◌-◌, suc, arith, refl, sym}
use Rattle.std.proofs.lemmas.Result.{err_from_is_err_and}
use Rattle.smithy_shapes.specs.Site.{site_of}
use Rattle.smithy_typed.proofs.SetFields.{first_there, later_there}
use Rattle.smithy_typed.proofs.OneOf.{one_read, one_fails, other_read, other_fails}
use Rattle.smithy_typed.proofs.variants.VariantVariantList.read_variant.Goals as goal

pub read_from-requires : goal.read_from-requires
read_from-requires g c = record {
  due = c.requires.due;
  nulls = c.requires.nulls;
  there = first_there g.T.Typed.place g.R.VariantList.members c.args.position (site_of c.args.member.now) c.requires.there c.if-position-eq0.true;
}

pub returns-in_err-read_from-clause-reads : goal.returns-in_err-read_from-clause-reads
returns-in_err-read_from-clause-reads g c =
    let p = err_from_is_err_and c.from_residual.result c.from_residual.ensures.1 in
    rw (p.1, p.2) (one_fails g.T.Typed.value _ _ _ (site_of c.args.member.now) _ _ _ _ c.in_err-read_from.ensures.reads)

pub returns-then-position-eq0-clause-reads : goal.returns-then-position-eq0-clause-reads
returns-then-position-eq0-clause-reads g c = one_read g.T.Typed.value _ _ _ (site_of c.args.member.now) c.args.position _ _ _ _ (sym c.if-position-eq0.true) refl c.in_ok-read_from.ensures.reads

pub read_variant-requires : goal.read_variant-requires
read_variant-requires g c =
    let next : c.args.position ≡ suc (c.args.position - 1) = omega (arith, c.if-position-eq0.false) in
    record {
      due = c.requires.due;
      nulls = c.requires.nulls;
      there = later_there g.T.Typed.place g.R.VariantList.members (c.args.position - 1) c.args.position (site_of c.args.member.now) c.requires.there next;
    }

pub returns-in_err-read_variant-clause-reads : goal.returns-in_err-read_variant-clause-reads
returns-in_err-read_variant-clause-reads g c =
    let p = err_from_is_err_and c.from_residual-in_err-read_variant.result c.from_residual-in_err-read_variant.ensures.1 in
    rw (p.1, p.2) (other_fails _ _ _ (site_of c.args.member.now) _ _ _ _ _ _ _ c.in_err-read_variant.ensures.reads)

pub returns-clause-reads : goal.returns-clause-reads
returns-clause-reads g c =
    let next : c.args.position ≡ suc (c.args.position - 1) = omega (arith, c.if-position-eq0.false) in
    other_read _ _ _ (site_of c.args.member.now) (c.args.position - 1) c.args.position _ _ _ _ _ _ next refl refl c.in_ok-read_variant.ensures.reads
