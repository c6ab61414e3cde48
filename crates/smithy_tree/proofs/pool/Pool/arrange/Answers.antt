use Rattle.std.proofs.Common.{◌≡◌, ◌∙◌, ◌++◌, List, [], length, take, drop, refl, sym, ap}
use Rattle.std.specs.Prelude.{map as mapped}
use Rattle.std.proofs.lemmas.List.{take_rest, take-append-drop, append-nil}
use Rattle.smithy_tree.specs.Nodes.{rare_value}
use Rattle.smithy_tree.specs.Seen.{store, values, bytes_of}
use Rattle.smithy_tree.specs.Order.{label_cmp, put_slots}
use Rattle.smithy_tree.specs.declared.node.Slot.{Slot}
use Rattle.smithy_tree.proofs.Growing.{nodes-take, nodes-drop, nodes-append}
use Rattle.smithy_tree.proofs.Arranging.{labelled, ordered_nodes}
use Rattle.smithy_tree.proofs.Seeing.{grows_self}
use Rattle.smithy_tree.proofs.pool.Pool.arrange.Goals as goal

pub is_ordered-requires : goal.is_ordered-requires
is_ordered-requires c =
    let p = c.args.self.now in
    let ws = p.waiting.items in
    let b = c.args.begin in
    rw (c.as_slice.ensures.value, c.deref.ensures.value, take_rest ws b) (record { labels = labelled (store p) (length p.nodes.items) (drop b ws) (nodes-drop (store p) (length p.nodes.items) b ws c.requires.sound.waiting) })

pub in_order-requires : goal.in_order-requires
in_order-requires c =
    let p = c.args.self.now in
    let ws = p.waiting.items in
    let b = c.args.begin in
    rw (c.as_slice-2.ensures.value, c.deref.ensures.value, take_rest ws b) (record { labels = labelled (store p) (length p.nodes.items) (drop b ws) (nodes-drop (store p) (length p.nodes.items) b ws c.requires.sound.waiting) })

pub returns-then-is_ordered : goal.returns-then-is_ordered
returns-then-is_ordered c =
    let p = c.args.self.now in
    let ws = p.waiting.items in
    let b = c.args.begin in
    let cmp = label_cmp c.args.order (bytes_of p) in
    let told : put_slots cmp [] (drop b ws) ≡ drop b ws = rw (c.as_slice.ensures.value, c.deref.ensures.value, take_rest ws b) at (c.is_ordered.ensures c.if-is_ordered.true) in
    record {
      ok = record {
        grows = grows_self p c.requires.sound;
        store = refl;
        nodes = refl;
        waiting = sym (ap (λ (xs : List Slot). take b ws ++ xs) told ∙ take-append-drop b ws);
      };
    }

pub returns : goal.returns
returns c =
    let p = c.args.self.now in
    let s = store p in
    let ws = p.waiting.items in
    let b = c.args.begin in
    let k = length p.nodes.items in
    let cmp = label_cmp c.args.order (bytes_of p) in
    let told : c.in_ok-ordered.ordered.items ≡ put_slots cmp [] (drop b ws) = rw (c.as_slice-2.ensures.value, c.deref.ensures.value, take_rest ws b) at c.in_ok-ordered.ensures.ok in
    let h : c.extend_from_slice.new.self.items ≡ take b ws ++ put_slots cmp [] (drop b ws) = rw (c.in_ok-extend_from_slice.ensures.items, c.truncate.ensures.items, c.as_slice-3.ensures.value, told) refl in
    record {
      ok = record {
        grows = record {
          sound = record {
            nodes = c.requires.sound.nodes;
            waiting = rw h (nodes-append s k (take b ws) (put_slots cmp [] (drop b ws)) (nodes-take s k b ws c.requires.sound.waiting) (ordered_nodes s cmp k [] (drop b ws) tt (nodes-drop s k b ws c.requires.sound.waiting)));
          };
          input = refl;
          copied = [];
          side = sym (append-nil p.side.items);
          kept = [];
          rare = sym (append-nil (mapped rare_value p.rare.items));
          counted = [];
          numbers = sym (append-nil p.numbers.items);
          more = [];
          values = sym (append-nil (values p));
        };
        store = refl;
        nodes = refl;
        waiting = h;
      };
    }
