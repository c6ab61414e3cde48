use Rattle.std.proofs.Common.{◌∙◌, List, ap, sym, refl, get_or, arith}
use Rattle.std.proofs.lemmas.List.{drop_more}
use Rattle.std.specs.Ordering.{nat_cmp}
use Rattle.std.specs.Prelude.{map as mapped}
use Rattle.smithy_tree.specs.Order.{position_cmp, put_slots, second}
use Rattle.smithy_tree.specs.declared.node.Slot.{Slot}
use Rattle.smithy_tree.proofs.Ordering.{blank}
use Rattle.smithy_tree.proofs.Mapping.{IsPosition, positions_order, entry_put, entry_marked}
use Rattle.smithy_tree.proofs.in_maps.by_positions.Goals as goal

pub loop-slot-preserved : goal.loop-slot-preserved
loop-slot-preserved c =
    let xs = c.args.slots.now in
    let i = c.loop-slot.slot-index in
    let es = c.loop-slot.map.entries in
    let x : Slot = get_or xs i blank in
    let iv = c.loop-slot.invariant in
    record {
      marked = rw c.in_ok-insert.ensures.entries (entry_marked nat_cmp position_cmp IsPosition positions_order es x.first x refl iv.marked);
      rest = rw (c.in_ok-insert.ensures.entries, entry_put nat_cmp position_cmp IsPosition positions_order es x.first x refl iv.marked) (ap (λ (zs : List Slot). put_slots position_cmp (mapped second es) zs) (sym (drop_more xs i blank (omega arith))) ∙ iv.rest);
    }
