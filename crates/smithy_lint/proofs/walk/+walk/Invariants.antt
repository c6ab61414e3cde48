use Rattle.std.proofs.Common.{◌≡◌, ◌≤◌, ◌+◌, ◌-◌, ◌*◌}
use Rattle.smithy_wire.specs.Node.{as_array, as_object}
use Rattle.smithy_lint.specs.Private.Bodies.{HasRest}
use Rattle.smithy_lint.specs.Private.Walks.{path_of, found_of, HalfEntries, HalfMap, HalfMembers}
use Rattle.smithy_lint.proofs.walk.+walk.Given as goal

-- containers that may still be opened, and which function comes before which
abbrev pub decreases-visit : goal.decreases-visit
decreases-visit g l = 6 * (129 - l.depth) + 2

abbrev pub decreases-visit_list : goal.decreases-visit_list
decreases-visit_list g l = 6 * (129 - l.depth) + 1

abbrev pub decreases-visit_map : goal.decreases-visit_map
decreases-visit_map g l = 6 * (129 - l.depth) + 1

abbrev pub decreases-visit_structure : goal.decreases-visit_structure
decreases-visit_structure g l = 6 * (129 - l.depth) + 1

abbrev pub decreases-visit_collected : goal.decreases-visit_collected
decreases-visit_collected g l = 6 * (129 - l.depth) + 3

abbrev pub decreases-visit_map_entry : goal.decreases-visit_map_entry
decreases-visit_map_entry g l = 6 * (129 - l.depth) + 4

abbrev pub decreases-visit_entry : goal.decreases-visit_entry
decreases-visit_entry g l = 6 * (129 - l.depth) + 4

abbrev pub decreases-visit_member : goal.decreases-visit_member
decreases-visit_member g l = 6 * (129 - l.depth) + 3

abbrev pub decreases-visit_elements : goal.decreases-visit_elements
decreases-visit_elements g l = 6 * (129 - l.depth) + 5

abbrev pub decreases-visit_entries : goal.decreases-visit_entries
decreases-visit_entries g l = 6 * (129 - l.depth) + 5

abbrev pub decreases-visit_members : goal.decreases-visit_members
decreases-visit_members g l = 6 * (129 - l.depth) + 5

abbrev pub invariant-visit_elements-elements : goal.invariant-visit_elements-elements
invariant-visit_elements-elements g l =
    let h = g.B.Body.holding l.body in
    let r = g.B.Body.rules l.body in
    record {
      path : path_of l.linter ≡ path_of l.fn.linter;
      there : HasRest h as_array l.depth l.at l.mark;
      half : HalfEntries h r l.schema.shapes.now l.schema.place as_array l.depth l.fn.at l.fn.mark (path_of l.fn.linter) (found_of l.fn.linter) l.index l.at l.mark (found_of l.linter);
      room : l.index + h.left l.at l.mark ≤ h.left l.fn.at l.fn.mark;
    }

abbrev pub decreases-visit_elements-elements : goal.decreases-visit_elements-elements
decreases-visit_elements-elements g l = (g.B.Body.holding l.body).left l.at l.mark

abbrev pub invariant-visit_entries-entries : goal.invariant-visit_entries-entries
invariant-visit_entries-entries g l =
    let h = g.B.Body.holding l.body in
    let r = g.B.Body.rules l.body in
    record {
      path : path_of l.linter ≡ path_of l.fn.linter;
      there : HasRest h as_object l.depth l.at l.mark;
      half : HalfMap h r l.schema.shapes.now l.schema.place l.depth l.fn.at l.fn.mark (path_of l.fn.linter) (found_of l.fn.linter) l.at l.mark (found_of l.linter);
    }

abbrev pub decreases-visit_entries-entries : goal.decreases-visit_entries-entries
decreases-visit_entries-entries g l = (g.B.Body.holding l.body).left l.at l.mark

abbrev pub invariant-visit_members-members : goal.invariant-visit_members-members
invariant-visit_members-members g l =
    let h = g.B.Body.holding l.body in
    let r = g.B.Body.rules l.body in
    record {
      path : path_of l.linter ≡ path_of l.fn.linter;
      there : HasRest h as_object l.depth l.at l.mark;
      half : HalfMembers h r l.schema.shapes.now l.schema.place l.depth l.fn.at l.fn.mark (path_of l.fn.linter) (found_of l.fn.linter) l.variants l.at l.mark (found_of l.linter);
      room : l.variants + h.left l.at l.mark ≤ h.left l.fn.at l.fn.mark;
    }

abbrev pub decreases-visit_members-members : goal.decreases-visit_members-members
decreases-visit_members-members g l = (g.B.Body.holding l.body).left l.at l.mark
