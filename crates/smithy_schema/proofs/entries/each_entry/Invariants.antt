use Rattle.smithy_shapes.specs.Site.{site_of}
use Rattle.smithy_schema.specs.Consuming.{by_key}
use Rattle.smithy_schema.proofs.ConsumingLemmas.{InEntries, left_in}
use Rattle.smithy_schema.proofs.entries.each_entry.Given as goal

-- the calls for the entries so far
abbrev pub invariant-loop-key : goal.invariant-loop-key
invariant-loop-key g l =
    let d = g.D.ShapeDeserializer in
    let c = d.settings l.fn.source in
    let r = d.reading c in
    InEntries (by_key r (site_of l.schema)) (g.C.MapConsumer.call r) c l.initial.consumer (d.state l.initial.source) (d.settings l.source) l.consumer (d.state l.source)

abbrev pub decreases-loop-key : goal.decreases-loop-key
decreases-loop-key g l = let d = g.D.ShapeDeserializer in left_in (d.reading (d.settings l.fn.source)).wire (d.state l.source)
