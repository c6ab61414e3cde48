use Rattle.std.proofs.Common.{◌∙◌, ◌++◌, ℕ, List, ap, sym, get_or, arith, Bor, Ordering}
use Rattle.std.specs.Prelude.{map as mapped}
use Rattle.std.proofs.lemmas.List.{drop_more}
use Rattle.std.specs.Cmp.Lexicographic.{slice_cmp}
use Rattle.std.specs.Ordering.{nat_cmp}
use Rattle.smithy_tree.specs.Order.{key_cmp, put_slots, second}
use Rattle.smithy_tree.specs.declared.node.Slot.{Slot}
use Rattle.smithy_tree.proofs.Ordering.{blank, labelled_at}
use Rattle.smithy_tree.proofs.Mapping.{IsKey, keys_order, entry_put, entry_marked}
use Rattle.smithy_tree.proofs.in_maps.by_keys.Goals as goal

pub key_at-requires : goal.key_at-requires
key_at-requires c = record { label = labelled_at c.args.input.now c.args.side.now c.args.slots.now c.loop-slot.slot-index blank (omega arith) c.requires.labels }

pub loop-slot-preserved : goal.loop-slot-preserved
loop-slot-preserved c =
    let bytes = c.args.input.now ++ c.args.side.now in
    let text : Bor (List ℕ) → List ℕ = λ (k : Bor (List ℕ)). k.now in
    let keys : Bor (List ℕ) → Bor (List ℕ) → Ordering = λ (k l : Bor (List ℕ)). slice_cmp nat_cmp k.now l.now in
    let order = keys_order text bytes in
    let xs = c.args.slots.now in
    let i = c.loop-slot.slot-index in
    let es = c.loop-slot.map.entries in
    let x : Slot = get_or xs i blank in
    let iv = c.loop-slot.invariant in
    let put = entry_put keys (key_cmp bytes) (IsKey text bytes) order es c.key_at.result x c.key_at.ensures iv.marked in
    record {
      marked = rw c.in_ok-insert.ensures.entries (entry_marked keys (key_cmp bytes) (IsKey text bytes) order es c.key_at.result x c.key_at.ensures iv.marked);
      rest = rw (c.in_ok-insert.ensures.entries, put) (ap (λ (zs : List Slot). put_slots (key_cmp bytes) (mapped second es) zs) (sym (drop_more xs i blank (omega arith))) ∙ iv.rest);
    }
