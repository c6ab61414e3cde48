use Rattle.std.proofs.Common.{rules, ◌≡◌, ◌∙◌, [], ◌∷◌, ◌++◌, length, refl, sym, ap, subst, arith, length-append}
use Rattle.std.specs.Prelude.{map as mapped}
use Rattle.std.proofs.lemmas.List.{append-nil, map-append, get_or_push, length-map}
use Rattle.smithy_declarations.specs.Value.{null_element}
use Rattle.smithy_tree.specs.Nodes.{Store, rare_value, values_over, values_after, AreNodes, AreBehind}
use Rattle.smithy_tree.specs.Seen.{store, values}
use Rattle.smithy_tree.proofs.Storing.{more, behind_kept, nodes_kept, values_after_kept, values_over_kept}
use Rattle.smithy_tree.proofs.pool.Pool.keep.Goals as goal

pub returns : goal.returns
returns c =
    let p = c.args.self.now in
    let s = store p in
    let xs = p.nodes.items in
    let kept = rare_value c.args.rare ∷ [] in
    let pushed : mapped rare_value c.push.new.self.items ≡ s.rare ++ kept = ap (mapped rare_value) c.in_ok-push.ensures.items ∙ map-append rare_value p.rare.items (c.args.rare ∷ []) in
    let t : Store = record { input = s.input; side = s.side; rare = mapped rare_value c.push.new.self.items; numbers = s.numbers } in
    let is : more s [] kept [] ≡ t = rw (append-nil s.side, append-nil s.numbers, pushed) refl in
    let after : values_after t [] xs ≡ values p = subst (λ (u : Store). values_after u [] xs ≡ values p) is (values_after_kept s [] kept [] [] 0 xs c.requires.sound.nodes) in
    let waits : values_over t (values p) p.waiting.items ≡ values_over s (values p) p.waiting.items = subst (λ (u : Store). values_over u (values p) p.waiting.items ≡ values_over s (values p) p.waiting.items) is (values_over_kept s [] kept [] (values p) (length xs) p.waiting.items c.requires.sound.waiting) in
    let place : length s.rare ≡ c.len-place.result = length-map p.rare.items rare_value ∙ search rules in
    record {
      ok = (
        record {
          grows = record {
            sound = record {
              nodes = subst (λ (u : Store). AreBehind u 0 xs) is (behind_kept s [] kept [] 0 xs c.requires.sound.nodes);
              waiting = subst (λ (u : Store). AreNodes u (length xs) p.waiting.items) is (nodes_kept s [] kept [] (length xs) p.waiting.items c.requires.sound.waiting);
            };
            input = refl;
            copied = [];
            side = sym (append-nil p.side.items);
            kept = kept;
            rare = pushed;
            counted = [];
            numbers = sym (append-nil p.numbers.items);
            more = [];
            values = after ∙ sym (append-nil (values p));
          };
          holds = rw pushed (omega (arith, place, length-append s.rare kept));
          waiting = rw after waits;
        },
        rw pushed (get_or_push s.rare (rare_value c.args.rare) null_element c.len-place.result place),
      );
    }
