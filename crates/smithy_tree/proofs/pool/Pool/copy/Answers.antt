use Rattle.std.proofs.Common.{◌≡◌, ◌∙◌, ◌+◌, [], ◌++◌, length, refl, sym, subst, arith, length-append, append_assoc}
use Rattle.std.proofs.lemmas.List.{append-nil, drop_at, take_all}
use Rattle.std.proofs.lemmas.Grind.{common_steps}
use Rattle.smithy_tree.specs.Nodes.{Store, values_over, values_after, AreNodes, AreBehind}
use Rattle.smithy_tree.specs.Seen.{store, values}
use Rattle.smithy_tree.proofs.Storing.{more, behind_kept, nodes_kept, values_after_kept, values_over_kept}
use Rattle.smithy_tree.proofs.pool.Pool.copy.Goals as goal

pub returns : goal.returns
returns c =
    let p = c.args.self.now in
    let s = store p in
    let b = c.args.bytes.now in
    let xs = p.nodes.items in
    let copied : c.extend_from_slice.new.self.items ≡ p.side.items ++ b = c.in_ok-extend_from_slice.ensures.items in
    let t : Store = record { input = s.input; side = c.extend_from_slice.new.self.items; rare = s.rare; numbers = s.numbers } in
    let is : more s b [] [] ≡ t = rw (append-nil s.rare, append-nil s.numbers, copied) refl in
    let after : values_after t [] xs ≡ values p = subst (λ (u : Store). values_after u [] xs ≡ values p) is (values_after_kept s b [] [] [] 0 xs c.requires.sound.nodes) in
    let waits : values_over t (values p) p.waiting.items ≡ values_over s (values p) p.waiting.items = subst (λ (u : Store). values_over u (values p) p.waiting.items ≡ values_over s (values p) p.waiting.items) is (values_over_kept s b [] [] (values p) (length xs) p.waiting.items c.requires.sound.waiting) in
    let begin : c.saturating_add-begin.result ≡ length p.input.now + length p.side.items = grind (arith, common_steps) in
    let at : length (p.input.now ++ p.side.items) ≡ c.saturating_add-begin.result = omega (arith, begin, length-append p.input.now p.side.items) in
    record {
      ok = record {
        grows = record {
          sound = record {
            nodes = subst (λ (u : Store). AreBehind u 0 xs) is (behind_kept s b [] [] 0 xs c.requires.sound.nodes);
            waiting = subst (λ (u : Store). AreNodes u (length xs) p.waiting.items) is (nodes_kept s b [] [] (length xs) p.waiting.items c.requires.sound.waiting);
          };
          input = refl;
          copied = b;
          side = copied;
          kept = [];
          rare = sym (append-nil s.rare);
          counted = [];
          numbers = sym (append-nil p.numbers.items);
          more = [];
          values = after ∙ sym (append-nil (values p));
        };
        waiting = rw after waits;
        part = rw copied (record {
          within = omega (arith, begin, length-append p.side.items b);
          apart = λ past. omega (arith, begin);
        });
        bytes = rw (copied, ← append_assoc p.input.now p.side.items b, drop_at (p.input.now ++ p.side.items) b c.saturating_add-begin.result at) (take_all (length b) b (omega arith));
      };
    }
