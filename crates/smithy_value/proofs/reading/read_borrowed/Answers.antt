use Rattle.std.proofs.Common.{rules}
use Rattle.smithy_shapes.specs.Site.{site_of}
use Rattle.smithy_value.specs.View.{view}
use Rattle.smithy_value.proofs.CountedValues.{values_have_bytes}
use Rattle.smithy_value.proofs.reading.read_borrowed.Goals as goal

pub returns-clause-few : goal.returns-clause-few
returns-clause-few g c =
    let d = g.D.ShapeDeserializer in
    let r = d.reading (d.settings c.args.source.now) in
    values_have_bytes r.wire r.lifted r.tells_without_limits r.max_depth (d.state c.args.source.now) (d.state c.read_through.new.texts.source.now) _ (site_of c.args.schema.now) view c.read_through.result
    (g.met.D.ShapeDeserializer.fit (d.settings c.args.source.now)) (search rules) (rw c.new-texts.ensures.same at c.read_through.ensures.reads)
