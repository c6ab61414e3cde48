use Rattle.std.proofs.Common.{◌≡◌}
use Rattle.smithy_schema.specs.Reading.{in_map}
use Rattle.smithy_declarations.specs.Table.{kind_of, is_sparse}
use Rattle.smithy_schema.proofs.ReadContainers.{InContainer}
use Rattle.smithy_schema.proofs.ReadMaps.{map_value}
use Rattle.smithy_typed.specs.Values.{entries_with}
use Rattle.smithy_typed.proofs.maps.read_map.Given as goal

-- the entries that were read
abbrev pub invariant-loop-entries : goal.invariant-loop-entries
invariant-loop-entries g l =
    let d = g.D.ShapeDeserializer in
    let c = d.settings l.fn.source in
    record {
      same : d.settings l.source ≡ d.settings l.fn.source;
      half : InContainer (d.reading c).wire (d.reading c).wire (d.reading c).max_depth (d.state l.fn.source) (d.state l.source) l.schema.shapes.now l.schema.place in_map (map_value (is_sparse (kind_of l.schema.shapes.now l.schema.place)) (entries_with g.T.Typed.value l.entries.entries));
    }

abbrev pub decreases-loop-entries : goal.decreases-loop-entries
decreases-loop-entries g l =
    let d = g.D.ShapeDeserializer in
    let s = d.state l.source in
    (d.reading (d.settings l.source)).wire.left s.input s.at s.inner.mark
