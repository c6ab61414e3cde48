use Rattle.std.proofs.Common.{◌≡◌, ◌+◌, ◌*◌, ◌-◌}
use Rattle.smithy_schema.specs.Reading.{depth, in_list, in_map}
use Rattle.smithy_declarations.specs.Table.{kind_of, is_sparse}
use Rattle.smithy_schema.proofs.ReadContainers.{InContainer}
use Rattle.smithy_schema.proofs.ReadLists.{list_value}
use Rattle.smithy_schema.proofs.ReadMaps.{map_value}
use Rattle.dynamodb_client.specs.Attributes.{attribute_values, attribute_entries}
use Rattle.dynamodb_client.proofs.attribute_value.+read.Given as goal

-- twice the containers that may still be opened
abbrev pub decreases-read_attribute_value : goal.decreases-read_attribute_value
decreases-read_attribute_value g l =
    let d = g.D.ShapeDeserializer in
    2 * ((d.reading (d.settings l.source.now)).max_depth - depth (d.state l.source.now))

abbrev pub decreases-read_variant : goal.decreases-read_variant
decreases-read_variant g l =
    let d = g.D.ShapeDeserializer in
    2 * ((d.reading (d.settings l.source.now)).max_depth - depth (d.state l.source.now)) + 1

abbrev pub decreases-read_attributes : goal.decreases-read_attributes
decreases-read_attributes g l =
    let d = g.D.ShapeDeserializer in
    2 * ((d.reading (d.settings l.source.now)).max_depth - depth (d.state l.source.now))

abbrev pub decreases-read_attribute_list : goal.decreases-read_attribute_list
decreases-read_attribute_list g l =
    let d = g.D.ShapeDeserializer in
    2 * ((d.reading (d.settings l.source.now)).max_depth - depth (d.state l.source.now))

-- the entries that were read
abbrev pub invariant-read_attributes-loop-entries : goal.invariant-read_attributes-loop-entries
invariant-read_attributes-loop-entries g l =
    let d = g.D.ShapeDeserializer in
    let c = d.settings l.fn.source in
    record {
      same : d.settings l.source ≡ d.settings l.fn.source;
      half : InContainer (d.reading c).wire (d.reading c).wire (d.reading c).max_depth (d.state l.fn.source) (d.state l.source) l.schema.shapes.now l.schema.place in_map (map_value (is_sparse (kind_of l.schema.shapes.now l.schema.place)) (attribute_entries l.entries.entries));
    }

abbrev pub decreases-read_attributes-loop-entries : goal.decreases-read_attributes-loop-entries
decreases-read_attributes-loop-entries g l =
    let d = g.D.ShapeDeserializer in
    let s = d.state l.source in
    (d.reading (d.settings l.source)).wire.left s.input s.at s.inner.mark

-- the elements that were read
abbrev pub invariant-read_attribute_list-loop-values : goal.invariant-read_attribute_list-loop-values
invariant-read_attribute_list-loop-values g l =
    let d = g.D.ShapeDeserializer in
    let c = d.settings l.fn.source in
    record {
      same : d.settings l.source ≡ d.settings l.fn.source;
      half : InContainer (d.reading c).wire (d.reading c).wire (d.reading c).max_depth (d.state l.fn.source) (d.state l.source) l.schema.shapes.now l.schema.place in_list (list_value (is_sparse (kind_of l.schema.shapes.now l.schema.place)) (attribute_values l.values.items));
    }

abbrev pub decreases-read_attribute_list-loop-values : goal.decreases-read_attribute_list-loop-values
decreases-read_attribute_list-loop-values g l =
    let d = g.D.ShapeDeserializer in
    let s = d.state l.source in
    (d.reading (d.settings l.source)).wire.left s.input s.at s.inner.mark
