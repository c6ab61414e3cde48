use Rattle.smithy_shapes.specs.Site.{site_of}
use Rattle.smithy_schema.specs.Consuming.{by_element}
use Rattle.smithy_schema.proofs.ConsumingLemmas.{InEntries, left_in}
use Rattle.smithy_schema.proofs.entries.each_element.Given as goal

-- the calls for the elements so far
abbrev pub invariant-loop-consumer : goal.invariant-loop-consumer
invariant-loop-consumer g l =
    let d = g.D.ShapeDeserializer in
    let c = d.settings l.fn.source in
    let r = d.reading c in
    InEntries (by_element r (site_of l.schema)) (λ element. g.C.ListConsumer.call r) c l.initial.consumer (d.state l.initial.source) (d.settings l.source) l.consumer (d.state l.source)

abbrev pub decreases-loop-consumer : goal.decreases-loop-consumer
decreases-loop-consumer g l = let d = g.D.ShapeDeserializer in left_in (d.reading (d.settings l.fn.source)).wire (d.state l.source)
