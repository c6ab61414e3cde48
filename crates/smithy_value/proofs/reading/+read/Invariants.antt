use Rattle.std.proofs.Common.{◌≡◌, ◌+◌, ◌*◌, ◌-◌}
use Rattle.smithy_schema.specs.Reading.{depth, in_structure, in_list, in_map}
use Rattle.smithy_declarations.specs.Table.{kind_of, is_sparse}
use Rattle.smithy_schema.proofs.ReadStructures.{structure_value}
use Rattle.smithy_schema.proofs.ReadLists.{list_value}
use Rattle.smithy_schema.proofs.ReadMaps.{map_value}
use Rattle.smithy_value.proofs.HalfRead.{HalfRead}
use Rattle.smithy_value.proofs.reading.+read.Given as goal

-- thrice the containers that may still be opened, as a container's item is read as a part, and this as a container
abbrev pub decreases-read_part : goal.decreases-read_part
decreases-read_part g l =
    let d = g.D.ShapeDeserializer in
    3 * ((d.reading (d.settings l.source.now)).max_depth - depth (d.state l.source.now)) + 1

abbrev pub decreases-read_structure : goal.decreases-read_structure
decreases-read_structure g l =
    let d = g.D.ShapeDeserializer in
    3 * ((d.reading (d.settings l.source.now)).max_depth - depth (d.state l.source.now))

-- the members that were read, in both readings
abbrev pub invariant-read_structure-loop-members : goal.invariant-read_structure-loop-members
invariant-read_structure-loop-members g l =
    let d = g.D.ShapeDeserializer in
    let c = d.settings l.fn.source in
    record {
      same : d.settings l.source ≡ d.settings l.fn.source;
      begun : g.P.Trees.begun_members l.fn.trees l.trees l.members;
      half : HalfRead (d.reading c).wire (d.reading c).lifted (d.reading c).tells_without_limits (d.reading c).max_depth (d.state l.fn.source) (d.state l.source) l.schema.shapes.now l.schema.place in_structure (structure_value (g.P.Trees.view_members l.trees l.members));
    }

abbrev pub decreases-read_structure-loop-members : goal.decreases-read_structure-loop-members
decreases-read_structure-loop-members g l =
    let d = g.D.ShapeDeserializer in
    let s = d.state l.source in
    (d.reading (d.settings l.source)).wire.left s.input s.at s.inner.mark

abbrev pub decreases-read_list : goal.decreases-read_list
decreases-read_list g l =
    let d = g.D.ShapeDeserializer in
    3 * ((d.reading (d.settings l.source.now)).max_depth - depth (d.state l.source.now))

-- the elements that were read, in both readings
abbrev pub invariant-read_list-loop-elements : goal.invariant-read_list-loop-elements
invariant-read_list-loop-elements g l =
    let d = g.D.ShapeDeserializer in
    let c = d.settings l.fn.source in
    record {
      same : d.settings l.source ≡ d.settings l.fn.source;
      begun : g.P.Trees.begun_elements l.fn.trees l.trees l.elements;
      half : HalfRead (d.reading c).wire (d.reading c).lifted (d.reading c).tells_without_limits (d.reading c).max_depth (d.state l.fn.source) (d.state l.source) l.schema.shapes.now l.schema.place in_list (list_value (is_sparse (kind_of l.schema.shapes.now l.schema.place)) (g.P.Trees.view_elements l.trees l.elements));
    }

abbrev pub decreases-read_list-loop-elements : goal.decreases-read_list-loop-elements
decreases-read_list-loop-elements g l =
    let d = g.D.ShapeDeserializer in
    let s = d.state l.source in
    (d.reading (d.settings l.source)).wire.left s.input s.at s.inner.mark

abbrev pub decreases-read_union : goal.decreases-read_union
decreases-read_union g l =
    let d = g.D.ShapeDeserializer in
    3 * ((d.reading (d.settings l.source.now)).max_depth - depth (d.state l.source.now))

abbrev pub decreases-read_map : goal.decreases-read_map
decreases-read_map g l =
    let d = g.D.ShapeDeserializer in
    3 * ((d.reading (d.settings l.source.now)).max_depth - depth (d.state l.source.now))

-- the entries that were read, in both readings
abbrev pub invariant-read_map-loop-entries : goal.invariant-read_map-loop-entries
invariant-read_map-loop-entries g l =
    let d = g.D.ShapeDeserializer in
    let c = d.settings l.fn.source in
    record {
      same : d.settings l.source ≡ d.settings l.fn.source;
      begun : g.P.Trees.begun_entries l.fn.trees l.trees l.entries;
      half : HalfRead (d.reading c).wire (d.reading c).lifted (d.reading c).tells_without_limits (d.reading c).max_depth (d.state l.fn.source) (d.state l.source) l.schema.shapes.now l.schema.place in_map (map_value (is_sparse (kind_of l.schema.shapes.now l.schema.place)) (g.P.Trees.view_entries l.trees l.entries));
    }

abbrev pub decreases-read_map-loop-entries : goal.decreases-read_map-loop-entries
decreases-read_map-loop-entries g l =
    let d = g.D.ShapeDeserializer in
    let s = d.state l.source in
    (d.reading (d.settings l.source)).wire.left s.input s.at s.inner.mark

abbrev pub decreases-read_item : goal.decreases-read_item
decreases-read_item g l =
    let d = g.D.ShapeDeserializer in
    3 * ((d.reading (d.settings l.source.now)).max_depth - depth (d.state l.source.now)) + 2
