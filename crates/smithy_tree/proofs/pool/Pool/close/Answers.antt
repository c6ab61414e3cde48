use Rattle.std.proofs.Common.{rules, ◌≡◌, ◌≤◌, ◌-◌, [], ◌++◌, length, take, drop, refl, sym, arith, length-append, length-drop}
use Rattle.std.specs.Prelude.{map as mapped}
use Rattle.std.proofs.lemmas.List.{take_rest, append-nil}
use Rattle.smithy_tree.specs.Nodes.{rare_value, values_over}
use Rattle.smithy_tree.specs.Seen.{store, values}
use Rattle.smithy_tree.proofs.Growing.{nodes_stay, nodes-take, nodes-drop, behind-append, values_added, waiting_left, moved_shows}
use Rattle.smithy_tree.proofs.pool.Pool.close.Goals as goal

pub returns : goal.returns
returns c =
    let p = c.args.self.now in
    let s = store p in
    let xs = p.nodes.items in
    let ws = p.waiting.items in
    let b = c.args.begin in
    let ms = drop b ws in
    let k = c.truncate.ensures.items in
    let h : c.extend_from_slice.new.self.items ≡ xs ++ ms = rw (c.in_ok-extend_from_slice.ensures.items, c.deref.ensures.value, take_rest ws b) refl in
    let stay = nodes-drop s (length xs) b ws c.requires.sound.waiting in
    let longer : length xs ≤ length (xs ++ ms) = omega (arith, length-append xs ms) in
    let start : c.len-start.result ≡ length xs = search rules in
    let count : c.len.result - b ≡ length ws - b = search rules in
    record {
      ok = record {
        grows = record {
          sound = record {
            nodes = rw h (behind-append s 0 (length xs) xs ms (omega arith) c.requires.sound.nodes stay);
            waiting = rw (h, k) (nodes_stay s (length xs) (length (xs ++ ms)) (take b ws) longer (nodes-take s (length xs) b ws c.requires.sound.waiting));
          };
          input = refl;
          copied = [];
          side = sym (append-nil p.side.items);
          kept = [];
          rare = sym (append-nil (mapped rare_value p.rare.items));
          counted = [];
          numbers = sym (append-nil p.numbers.items);
          more = values_over s (values p) ms;
          values = rw h (values_added s xs ms stay);
        };
        behind = start;
        holds = rw h (omega (arith, start, count, length-append xs ms, length-drop b ws));
        shows = rw h (moved_shows s xs ws b c.len-start.result (c.len.result - b) start count c.requires.sound.waiting);
        waiting = rw (h, k) (waiting_left s xs ms ws b stay c.requires.sound.waiting);
      };
    }
