use Rattle.std.proofs.Common.{subst, false}
use Rattle.smithy_shapes.specs.Fits.{Fits}
use Rattle.smithy_shapes.specs.Site.{Site}
use Rattle.smithy_value.specs.View.{view}
use Rattle.smithy_transcode.proofs.Mapped.{mapped_ok}
use Rattle.body_rows.proofs.values.read_by.Goals as goal

-- what was read is a value of the root
pub returns : goal.returns
returns g c =
    mapped_ok c.read_value.result _ _
    (λ v read. subst (λ (x : Site). Fits x.table x.place (view v)) c.schema-schema.ensures.site
    ((g.met.D.ShapeDeserializer.fit (g.D.ShapeDeserializer.with_nulls false (g.D.ShapeDeserializer.settings c.args.source.now))).fits _ _ _ _ _ (view v) _ read.stands))
    c.read_value.ensures.reads.ok
