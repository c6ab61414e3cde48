use Rattle.std.proofs.Common.{◌≡◌, ◌≤◌, ◌+◌, ◌-◌, ◌*◌}
use Rattle.smithy_wire.specs.Node.{as_array, as_object}
use Rattle.smithy_lint.specs.Private.Bodies.{HasRest}
use Rattle.smithy_lint.specs.Private.Walks.{path_of, found_of, HalfItems, HalfProperties}
use Rattle.smithy_lint.proofs.documents.+walk.Given as goal

abbrev pub decreases-visit_document : goal.decreases-visit_document
decreases-visit_document g l = 3 * (129 - l.depth)

abbrev pub decreases-visit_items : goal.decreases-visit_items
decreases-visit_items g l = 3 * (129 - l.depth) + 1

abbrev pub decreases-visit_properties : goal.decreases-visit_properties
decreases-visit_properties g l = 3 * (129 - l.depth) + 2

abbrev pub decreases-visit_property : goal.decreases-visit_property
decreases-visit_property g l = 3 * (129 - l.depth) + 1

-- the items that came, and those that are left
abbrev pub invariant-visit_items-items : goal.invariant-visit_items-items
invariant-visit_items-items g l =
    let h = g.B.Body.holding l.body in
    let r = g.B.Body.rules l.body in
    record {
      path : path_of l.linter ≡ path_of l.fn.linter;
      there : HasRest h as_array l.depth l.at l.mark;
      half : HalfItems h r l.depth l.fn.at l.fn.mark (path_of l.fn.linter) (found_of l.fn.linter) l.index l.at l.mark (found_of l.linter);
      room : l.index + h.left l.at l.mark ≤ h.left l.fn.at l.fn.mark;
    }

abbrev pub decreases-visit_items-items : goal.decreases-visit_items-items
decreases-visit_items-items g l = (g.B.Body.holding l.body).left l.at l.mark

-- the properties that came, and those that are left
abbrev pub invariant-visit_properties-properties : goal.invariant-visit_properties-properties
invariant-visit_properties-properties g l =
    let h = g.B.Body.holding l.body in
    let r = g.B.Body.rules l.body in
    record {
      path : path_of l.linter ≡ path_of l.fn.linter;
      there : HasRest h as_object l.depth l.at l.mark;
      half : HalfProperties h r l.depth l.fn.at l.fn.mark (path_of l.fn.linter) (found_of l.fn.linter) l.at l.mark (found_of l.linter);
    }

abbrev pub decreases-visit_properties-properties : goal.decreases-visit_properties-properties
decreases-visit_properties-properties g l = (g.B.Body.holding l.body).left l.at l.mark
