use Rattle.std.proofs.Common.{◌≡◌, ◌≤◌, ◌+◌, ◌*◌, false, drop, map as mapped}
use Rattle.smithy_shapes.specs.Fits.{ElementsFit, EntriesFit, MembersFit}
use Rattle.smithy_shapes.specs.Site.{site_of, kind_at}
use Rattle.smithy_declarations.specs.Value.{list, map, structure, union, values_of, nesting, elements_nesting, entries_nesting, members_nesting}
use Rattle.smithy_schema.specs.Writing.{write, run}
use Rattle.smithy_value.specs.Tree.{entries_view, entries_left, members_view, members_left, part_view, Each, EntriesLeftStand, MembersLeftStand}
use Rattle.smithy_schema.proofs.WrittenLists.{list_rest}
use Rattle.smithy_value.proofs.Maps.{map_rest, count as count_entries}
use Rattle.smithy_value.proofs.Structures.{structure_rest, count}
use Rattle.smithy_value.proofs.writing.+write.Given as goal

-- twice the containers that stand in one another
abbrev pub decreases-write_tree : goal.decreases-write_tree
decreases-write_tree g l = 2 * nesting (part_view (g.P.Trees.view l.trees.now) (g.P.Trees.key_of l.trees.now) g.P.Trees.position_of l.part.now) + 1

abbrev pub decreases-write_list : goal.decreases-write_list
decreases-write_list g l = 2 * nesting (list (values_of (mapped (g.P.Trees.view l.trees.now) l.elements.now)))

abbrev pub decreases-write_structure : goal.decreases-write_structure
decreases-write_structure g l = 2 * nesting (structure (members_view (g.P.Trees.view l.trees.now) g.P.Trees.position_of l.members.now))

abbrev pub decreases-write_map : goal.decreases-write_map
decreases-write_map g l = 2 * nesting (map (entries_view (g.P.Trees.view l.trees.now) (g.P.Trees.key_of l.trees.now) l.entries.now))

abbrev pub decreases-write_union : goal.decreases-write_union
decreases-write_union g l = 2 * nesting (union l.index (g.P.Trees.view l.trees.now l.value.now))

-- what the list adds is what the rest of it adds
abbrev pub invariant-write_list-loop-element : goal.invariant-write_list-loop-element
invariant-write_list-loop-element g l =
    let sink = g.S.ShapeSerializer in
    let site = site_of l.schema in
    let all = mapped (g.P.Trees.view l.trees) l.elements in
    let now = mapped (g.P.Trees.view l.trees) (drop l.element-index l.elements) in
    record {
      before : sink.failed l.fn.sink ≡ false;
      failed : sink.failed l.sink ≡ false;
      rest : write sink.after site (list (values_of all)) (sink.state l.fn.sink)
          ≡ run sink.after (list_rest site now) (sink.state l.sink);
      stands : Each (g.P.Trees.stands l.trees) (drop l.element-index l.elements);
      fits : ElementsFit site.table (kind_at site) (values_of now);
      nests : elements_nesting (values_of now) ≤ elements_nesting (values_of all);
    }

-- what the structure adds is what the rest of it adds
abbrev pub invariant-write_structure-loop-position : goal.invariant-write_structure-loop-position
invariant-write_structure-loop-position g l =
    let sink = g.S.ShapeSerializer in
    let site = site_of l.schema in
    let all = members_view (g.P.Trees.view l.trees) g.P.Trees.position_of l.members in
    let now = members_left (g.P.Trees.view l.trees) g.P.Trees.position_of l.left in
    record {
      before : sink.failed l.fn.sink ≡ false;
      failed : sink.failed l.sink ≡ false;
      rest : write sink.after site (structure all) (sink.state l.fn.sink)
          ≡ run sink.after (structure_rest site now) (sink.state l.sink);
      stands : MembersLeftStand (g.P.Trees.stands l.trees) l.left;
      fits : MembersFit site.table (kind_at site) now;
      nests : members_nesting now ≤ members_nesting all;
    }

abbrev pub decreases-write_structure-loop-position : goal.decreases-write_structure-loop-position
decreases-write_structure-loop-position g l = count (members_left (g.P.Trees.view l.trees) g.P.Trees.position_of l.left)

-- what the map adds is what the rest of it adds
abbrev pub invariant-write_map-loop-key : goal.invariant-write_map-loop-key
invariant-write_map-loop-key g l =
    let sink = g.S.ShapeSerializer in
    let site = site_of l.schema in
    let all = entries_view (g.P.Trees.view l.trees) (g.P.Trees.key_of l.trees) l.entries in
    let now = entries_left (g.P.Trees.view l.trees) (g.P.Trees.key_of l.trees) l.left in
    record {
      before : sink.failed l.fn.sink ≡ false;
      failed : sink.failed l.sink ≡ false;
      rest : write sink.after site (map all) (sink.state l.fn.sink)
          ≡ run sink.after (map_rest site now) (sink.state l.sink);
      stands : EntriesLeftStand (g.P.Trees.stands l.trees) l.left;
      fits : EntriesFit site.table (kind_at site) now;
      nests : entries_nesting now ≤ entries_nesting all;
    }

abbrev pub decreases-write_map-loop-key : goal.decreases-write_map-loop-key
decreases-write_map-loop-key g l = count_entries (entries_left (g.P.Trees.view l.trees) (g.P.Trees.key_of l.trees) l.left)
