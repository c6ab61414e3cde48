use Rattle.std.proofs.Common.{◌+◌, ◌*◌, ◌-◌, length, option_map}
use Rattle.smithy_declarations.specs.Table.{members_of}
use Rattle.smithy_shapes.specs.Site.{site_of, kind_at, value_of}
use Rattle.smithy_query_codec.specs.Leaves.{key_name, value_name}
use Rattle.smithy_form.specs.Private.Kept.{kept_leaves}
use Rattle.smithy_form.proofs.MemberAnswers as members
use Rattle.smithy_form.proofs.ListAnswers as lists
use Rattle.smithy_form.proofs.MapAnswers as maps
use Rattle.smithy_form.proofs.reading.+read.Given as goal

-- three steps for each container that may still stand inside
abbrev pub decreases-read_part : goal.decreases-read_part
decreases-read_part l = 3 * l.left + 1

abbrev pub decreases-read_structure : goal.decreases-read_structure
decreases-read_structure l = 3 * l.left

abbrev pub decreases-read_union : goal.decreases-read_union
decreases-read_union l = 3 * l.left

abbrev pub decreases-read_list : goal.decreases-read_list
decreases-read_list l = 3 * l.left

abbrev pub decreases-read_elements : goal.decreases-read_elements
decreases-read_elements l = 3 * l.left + 2

abbrev pub decreases-read_map : goal.decreases-read_map
decreases-read_map l = 3 * l.left

abbrev pub decreases-read_entries : goal.decreases-read_entries
decreases-read_entries l = 3 * l.left + 2

-- the members before the position were read
abbrev pub invariant-read_structure-loop-taken : goal.invariant-read_structure-loop-taken
invariant-read_structure-loop-taken l =
    members.Half (site_of l.schema) (l.left - 1) (kept_leaves l.at l.pairs) l.position l.members.entries l.taken

abbrev pub decreases-read_structure-loop-taken : goal.decreases-read_structure-loop-taken
decreases-read_structure-loop-taken l = length (members_of (kind_at (site_of l.schema))) + 1 - l.position

-- no pair begins with the name of a member before the position
abbrev pub invariant-read_union-loop-member : goal.invariant-read_union-loop-member
invariant-read_union-loop-member l = members.NoneBefore (site_of l.schema) (kept_leaves l.at l.pairs) l.position

abbrev pub decreases-read_union-loop-member : goal.decreases-read_union-loop-member
decreases-read_union-loop-member l = length (members_of (kind_at (site_of l.schema))) + 1 - l.position

-- the elements that were read
abbrev pub invariant-read_elements-loop-taken : goal.invariant-read_elements-loop-taken
invariant-read_elements-loop-taken l = lists.Half (site_of l.element) l.left (kept_leaves l.at l.pairs) l.elements.items l.taken

abbrev pub decreases-read_elements-loop-taken : goal.decreases-read_elements-loop-taken
decreases-read_elements-loop-taken l = length l.pairs - l.taken

-- the entries that were read
abbrev pub invariant-read_entries-loop-taken : goal.invariant-read_entries-loop-taken
invariant-read_entries-loop-taken l =
    maps.Half (key_name (site_of l.schema)) (value_name (site_of l.schema)) (value_of (site_of l.schema)) l.left (kept_leaves l.at l.pairs) l.entries.entries l.taken
    (option_map (λ s. s.now) l.before)

abbrev pub decreases-read_entries-loop-taken : goal.decreases-read_entries-loop-taken
decreases-read_entries-loop-taken l = length l.pairs - l.taken
