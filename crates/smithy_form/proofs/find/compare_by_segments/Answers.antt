use Rattle.std.proofs.Common.{◌+◌, length, drop, sym, ◌∙◌, ap, arith}
use Rattle.std.proofs.lemmas.List.{length-drop}
use Rattle.smithy_form.specs.Private.Order.{name_cmp}
use Rattle.smithy_form.proofs.NameOrder.{first_differ, first_ends, second_ends, both_go_on}
use Rattle.smithy_form.proofs.find.compare_by_segments.Goals as goal

pub returns-then-is_ne : goal.returns-then-is_ne
returns-then-is_ne c =
    first_differ c.loop-left.left.now c.loop-left.right.now c.point_at-left_end.result c.point_at-right_end.result c.compare_segments-order.result
    c.point_at-left_end.ensures.place c.point_at-right_end.ensures.place c.compare_segments-order.ensures (sym c.is_ne.ensures ∙ c.if-is_ne.true)
    ∙ c.loop-left.invariant

pub returns-then-left_end-left : goal.returns-then-left_end-left
returns-then-left_end-left c =
    c.cmp.ensures
    ∙ first_ends c.loop-left.left.now c.loop-left.right.now c.point_at-left_end.result c.point_at-right_end.result c.compare_segments-order.result
    c.point_at-left_end.ensures.place c.point_at-right_end.ensures.place c.compare_segments-order.ensures (sym c.is_ne.ensures ∙ c.if-is_ne.false) c.if-left_end-left.true
    ∙ c.loop-left.invariant

pub returns-then-right_end-right : goal.returns-then-right_end-right
returns-then-right_end-right c =
    second_ends c.loop-left.left.now c.loop-left.right.now c.point_at-left_end.result c.point_at-right_end.result c.compare_segments-order.result
    c.point_at-left_end.ensures.place c.point_at-right_end.ensures.place c.compare_segments-order.ensures (sym c.is_ne.ensures ∙ c.if-is_ne.false) c.if-left_end-left.false c.if-right_end-right.true
    ∙ c.loop-left.invariant

pub loop-left-smaller : goal.loop-left-smaller
loop-left-smaller c =
    let rest = ap length c.bytes_behind-left.ensures ∙ length-drop (c.point_at-left_end.result + 1) c.loop-left.left.now in
    omega (arith, rest, c.if-left_end-left.false)

pub loop-left-preserved : goal.loop-left-preserved
loop-left-preserved c =
    ap (λ xs. name_cmp xs c.bytes_behind-right.result.now) c.bytes_behind-left.ensures
    ∙ ap (name_cmp (drop (c.point_at-left_end.result + 1) c.loop-left.left.now)) c.bytes_behind-right.ensures
    ∙ both_go_on c.loop-left.left.now c.loop-left.right.now c.point_at-left_end.result c.point_at-right_end.result c.compare_segments-order.result
    c.point_at-left_end.ensures.place c.point_at-right_end.ensures.place c.compare_segments-order.ensures (sym c.is_ne.ensures ∙ c.if-is_ne.false) c.if-left_end-left.false c.if-right_end-right.false
    ∙ c.loop-left.invariant
