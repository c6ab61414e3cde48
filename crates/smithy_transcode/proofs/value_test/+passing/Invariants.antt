use Rattle.std.proofs.Common.{◌+◌, ◌*◌, drop, map as mapped}
use Rattle.smithy_shapes.specs.Fits.{MembersFit}
use Rattle.smithy_shapes.specs.Site.{site_of, kind_at}
use Rattle.smithy_declarations.specs.Value.{list, map, structure, union, values_of, nesting}
use Rattle.smithy_value.specs.Tree.{entries_view, entries_left, members_view, members_left, part_view, Each, EntriesLeftStand, MembersLeftStand}
use Rattle.smithy_value.proofs.Maps.{count as count_entries}
use Rattle.smithy_value.proofs.Structures.{count}
use Rattle.smithy_transcode.proofs.Children.{IsLeft, element_children, entry_children, member_children}
use Rattle.smithy_transcode.proofs.value_test.+passing.Given as goal

-- twice the containers that stand in one another
abbrev pub decreases-part_passes : goal.decreases-part_passes
decreases-part_passes g l = 2 * nesting (part_view (g.P.Trees.view l.trees.now) (g.P.Trees.key_of l.trees.now) g.P.Trees.position_of l.part.now) + 1

abbrev pub decreases-union_passes : goal.decreases-union_passes
decreases-union_passes g l = 2 * nesting (union l.index (g.P.Trees.view l.trees.now l.value.now))

abbrev pub decreases-elements_pass : goal.decreases-elements_pass
decreases-elements_pass g l = 2 * nesting (list (values_of (mapped (g.P.Trees.view l.trees.now) l.elements.now)))

abbrev pub decreases-entries_pass : goal.decreases-entries_pass
decreases-entries_pass g l = 2 * nesting (map (entries_view (g.P.Trees.view l.trees.now) (g.P.Trees.key_of l.trees.now) l.entries.now))

abbrev pub decreases-members_pass : goal.decreases-members_pass
decreases-members_pass g l = 2 * nesting (structure (members_view (g.P.Trees.view l.trees.now) g.P.Trees.position_of l.members.now))

-- what the children that are left answer, the container does
abbrev pub invariant-elements_pass-loop-element :
    goal.invariant-elements_pass-loop-element
invariant-elements_pass-loop-element g l =
    let site = site_of l.schema in
    let view = mapped (g.P.Trees.view l.trees) in
    record {
      left : IsLeft l.test site (list (values_of (view l.elements))) (element_children site (view (drop l.element-index l.elements)));
      stands : Each (g.P.Trees.stands l.trees) (drop l.element-index l.elements);
    }

abbrev pub invariant-entries_pass-loop-value :
    goal.invariant-entries_pass-loop-value
invariant-entries_pass-loop-value g l =
    let site = site_of l.schema in
    let view = g.P.Trees.view l.trees in
    let key = g.P.Trees.key_of l.trees in
    record {
      left : IsLeft l.test site (map (entries_view view key l.entries)) (entry_children site (entries_left view key l.left));
      stands : EntriesLeftStand (g.P.Trees.stands l.trees) l.left;
    }

abbrev pub decreases-entries_pass-loop-value :
    goal.decreases-entries_pass-loop-value
decreases-entries_pass-loop-value g l = count_entries (entries_left (g.P.Trees.view l.trees) (g.P.Trees.key_of l.trees) l.left)

abbrev pub invariant-members_pass-loop-position :
    goal.invariant-members_pass-loop-position
invariant-members_pass-loop-position g l =
    let site = site_of l.schema in
    let view = g.P.Trees.view l.trees in
    let position = g.P.Trees.position_of in
    record {
      left : IsLeft l.test site (structure (members_view view position l.members)) (member_children site (members_left view position l.left));
      fits : MembersFit site.table (kind_at site) (members_left view position l.left);
      stands : MembersLeftStand (g.P.Trees.stands l.trees) l.left;
    }

abbrev pub decreases-members_pass-loop-position :
    goal.decreases-members_pass-loop-position
decreases-members_pass-loop-position g l = count (members_left (g.P.Trees.view l.trees) g.P.Trees.position_of l.left)
