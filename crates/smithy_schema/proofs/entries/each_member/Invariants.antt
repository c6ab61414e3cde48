use Rattle.smithy_shapes.specs.Site.{site_of}
use Rattle.smithy_schema.specs.Consuming.{by_member}
use Rattle.smithy_schema.proofs.ConsumingLemmas.{InEntries, left_past}
use Rattle.smithy_schema.proofs.entries.each_member.Given as goal

-- the calls for the entries so far
abbrev pub invariant-members : goal.invariant-members
invariant-members g l =
    let d = g.D.ShapeDeserializer in
    let c = d.settings l.fn.source in
    let r = d.reading c in
    record {
      inside : InEntries (by_member r (site_of l.schema)) (g.C.StructConsumer.call r) c l.initial.consumer (d.state l.initial.source) (d.settings l.source) l.consumer (d.state l.source);
      allowed : g.C.StructConsumer.can_take l.consumer (site_of l.schema);
    }

abbrev pub decreases-members : goal.decreases-members
decreases-members g l = let d = g.D.ShapeDeserializer in left_past (d.reading (d.settings l.fn.source)).wire (d.state l.source)
