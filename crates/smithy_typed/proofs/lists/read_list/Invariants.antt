use Rattle.std.proofs.Common.{◌≡◌, map}
use Rattle.smithy_schema.specs.Reading.{in_list}
use Rattle.smithy_declarations.specs.Table.{kind_of, is_sparse}
use Rattle.smithy_schema.proofs.ReadContainers.{InContainer}
use Rattle.smithy_schema.proofs.ReadLists.{list_value}
use Rattle.smithy_typed.proofs.lists.read_list.Given as goal

-- the elements that were read
abbrev pub invariant-loop-values : goal.invariant-loop-values
invariant-loop-values g l =
    let d = g.D.ShapeDeserializer in
    let c = d.settings l.fn.source in
    record {
      same : d.settings l.source ≡ d.settings l.fn.source;
      half : InContainer (d.reading c).wire (d.reading c).wire (d.reading c).max_depth (d.state l.fn.source) (d.state l.source) l.schema.shapes.now l.schema.place in_list (list_value (is_sparse (kind_of l.schema.shapes.now l.schema.place)) (map g.T.Typed.value l.values.items));
    }

abbrev pub decreases-loop-values : goal.decreases-loop-values
decreases-loop-values g l =
    let d = g.D.ShapeDeserializer in
    let s = d.state l.source in
    (d.reading (d.settings l.source)).wire.left s.input s.at s.inner.mark
