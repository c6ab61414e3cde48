use Rattle.std.proofs.Common.{◌≡◌, ◌-◌, suc, arith}
use Rattle.std.proofs.lemmas.Result.{err_from_is_err_and}
use Rattle.smithy_shapes.specs.Site.{site_of}
use Rattle.smithy_typed.proofs.SetFields.{first_set, first_not_set, later_set, first_due, later_due, later_there}
use Rattle.smithy_typed.proofs.fields.FieldFieldList.read_field.Goals as goal

pub read_from-requires : goal.read_from-requires
read_from-requires g c = record {
  due = c.requires.due;
  nulls = c.requires.nulls;
  there = first_due g.T.Typed.place g.R.FieldList.members _ c.args.position (site_of c.args.member.now) c.requires.there c.if-position-eq0.true;
}

pub returns-in_err-read_from-clause-reads : goal.returns-in_err-read_from-clause-reads
returns-in_err-read_from-clause-reads g c =
    let p = err_from_is_err_and c.from_residual.result c.from_residual.ensures.1 in
    λ there. rw (p.1, p.2, c.if-position-eq0.true) (first_not_set g.T.Typed.value _ (site_of c.args.member.now) _ _ _ _ _ _ c.in_err-read_from.ensures.reads)

pub returns-then-position-eq0-clause-reads : goal.returns-then-position-eq0-clause-reads
returns-then-position-eq0-clause-reads g c = λ there. rw c.if-position-eq0.true (first_set g.T.Typed.value _ (site_of c.args.member.now) _ _ _ _ _ c.in_ok-read_from.ensures.reads)

pub read_field-requires : goal.read_field-requires
read_field-requires g c =
    let next : c.args.position ≡ suc (c.args.position - 1) = omega (arith, c.if-position-eq0.false) in
    record {
      due = c.requires.due;
      nulls = c.requires.nulls;
      there = later_due g.T.Typed.place g.R.FieldList.members _ (c.args.position - 1) c.args.position (site_of c.args.member.now) c.requires.there next;
    }

pub returns-clause-reads : goal.returns-clause-reads
returns-clause-reads g c =
    let next : c.args.position ≡ suc (c.args.position - 1) = omega (arith, c.if-position-eq0.false) in
    λ there. later_set _ (site_of c.args.member.now) _ _ _ _ _ (c.args.position - 1) c.args.position _ next
    (c.read_field.ensures.reads (later_there g.T.Typed.place g.R.FieldList.members (c.args.position - 1) c.args.position (site_of c.args.member.now) there next))
