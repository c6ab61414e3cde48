use Rattle.std.proofs.Common.{refl, sym}
use Rattle.std.proofs.lemmas.Result.{err_from_is_err_and}
use Rattle.smithy_shapes.specs.Site.{site_of}
use Rattle.smithy_typed.specs.Places.{named_none}
use Rattle.smithy_typed.proofs.SetFields.{first_there}
use Rattle.smithy_typed.proofs.OneOf.{one_read, one_fails, last_there}
use Rattle.smithy_typed.proofs.variants.LastVariantVariantList.read_variant.Goals as goal

pub read_from-requires : goal.read_from-requires
read_from-requires g c =
    let site = site_of c.args.member.now in
    record {
      due = c.requires.due;
      nulls = c.requires.nulls;
      there = first_there g.T.Typed.place named_none c.args._position site c.requires.there (sym (last_there g.T.Typed.place c.args._position site c.requires.there));
    }

pub returns-in_err-value-clause-reads : goal.returns-in_err-value-clause-reads
returns-in_err-value-clause-reads g c =
    let p = err_from_is_err_and c.from_residual.result c.from_residual.ensures.1 in
    rw (p.1, p.2) (one_fails g.T.Typed.value _ _ _ (site_of c.args.member.now) _ _ _ _ c.in_err-value.ensures.reads)

pub returns-clause-reads : goal.returns-clause-reads
returns-clause-reads g c =
    let site = site_of c.args.member.now in
    one_read g.T.Typed.value _ _ _ site c.args._position _ _ c.in_ok-value.value _ (last_there g.T.Typed.place c.args._position site c.requires.there) refl c.in_ok-value.ensures.reads
