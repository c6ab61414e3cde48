use Rattle.std.proofs.lemmas.Result.{err_from_is_err_and}
use Rattle.smithy_shapes.specs.Site.{site_of}
use Rattle.smithy_typed.proofs.OneOf.{value_of}
use Rattle.smithy_typed.proofs.Made.{made_of, not_made}
use Rattle.smithy_typed.proofs.variants.read_union.Goals as goal

pub read_variants-requires : goal.read_variants-requires
read_variants-requires g c = record { due = c.requires.due; nulls = c.requires.nulls; there = (g.T.FromVariants.names, c.requires.there) }

pub returns-clause-reads : goal.returns-clause-reads
returns-clause-reads g c =
    let V = g.V.VariantList in
    made_of (value_of V.index V.inner) g.T.FromVariants.made _ _ _ (site_of c.args.schema.now) c.in_ok-variant.variant _ c.from_variant.ensures c.in_ok-variant.ensures.reads

pub returns-in_err-variant-clause-reads : goal.returns-in_err-variant-clause-reads
returns-in_err-variant-clause-reads g c =
    let V = g.V.VariantList in
    let p = err_from_is_err_and c.from_residual.result c.from_residual.ensures.1 in
    rw (p.1, p.2) (not_made (value_of V.index V.inner) g.T.FromVariants.made _ _ _ (site_of c.args.schema.now) _ c.in_err-variant.ensures.reads)
