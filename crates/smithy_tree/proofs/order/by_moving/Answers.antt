use Rattle.std.proofs.Common.{◌++◌, ◌∙◌, List, get_or, arith, sym, ap}
use Rattle.std.proofs.lemmas.List.{drop_more}
use Rattle.smithy_tree.specs.Order.{label_cmp, put_slots}
use Rattle.smithy_tree.specs.declared.node.Slot.{Slot}
use Rattle.smithy_tree.proofs.Ordering.{blank, labelled_at, put_labelled}
use Rattle.smithy_tree.proofs.order.by_moving.Goals as goal

pub put-requires-clause-label : goal.put-requires-clause-label
put-requires-clause-label c = labelled_at c.args.input.now c.args.side.now c.args.slots.now c.loop-slot.slot-index blank (omega arith) c.requires.labels

pub loop-slot-preserved : goal.loop-slot-preserved
loop-slot-preserved c =
    let input = c.args.input.now in
    let side = c.args.side.now in
    let cmp = label_cmp c.args.order (input ++ side) in
    let xs = c.args.slots.now in
    let i = c.loop-slot.slot-index in
    let ys = c.loop-slot.ordered.items in
    let iv = c.loop-slot.invariant in
    let label = labelled_at input side xs i blank (omega arith) c.requires.labels in
    record {
      labels = rw c.in_ok-put.ensures.ok (put_labelled cmp input side (get_or xs i blank) ys label iv.labels);
      rest = rw c.in_ok-put.ensures.ok (ap (λ (zs : List Slot). put_slots cmp ys zs) (sym (drop_more xs i blank (omega arith))) ∙ iv.rest);
    }
