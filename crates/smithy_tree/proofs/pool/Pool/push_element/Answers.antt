use Rattle.std.proofs.Common.{rules, ◌≡◌, ◌∙◌, ◌+◌, ℤ, [], ◌∷◌, ◌++◌, length, refl, ap, arith, length-append, to_z, of_z, w64}
use Rattle.std.proofs.lemmas.List.{append-nil}
use Rattle.std.proofs.lemmas.Result.{on_ok_weaker}
use Rattle.smithy_tree.specs.Seen.{store, values, waiting, item_in}
use Rattle.smithy_tree.specs.declared.elements.Elements.{Elements}
use Rattle.smithy_tree.specs.declared.pool.Pool.{Pool}
use Rattle.smithy_tree.proofs.Growing.{length_values_over}
use Rattle.smithy_tree.proofs.HalfLists.{waits_behind, counts_behind}
use Rattle.smithy_tree.proofs.Storing.{more}
use Rattle.smithy_tree.proofs.pool.Pool.push_element.Goals as goal

pub returns-in_default : goal.returns-in_default
returns-in_default c =
    let p = c.args.self.now in
    record {
      ok = on_ok_weaker c.wait.result (λ w. waits_behind p c.wait.new.self c.args.elements.now (item_in p c.args.slot) w c.requires.half) c.wait.ensures.ok;
    }

pub returns-then-len-elements : goal.returns-then-len-elements
returns-then-len-elements c =
    let p = c.args.self.now in
    record {
      ok = on_ok_weaker c.wait-then-len-elements.result (λ w. waits_behind p c.wait-then-len-elements.new.self c.args.elements.now (item_in p c.args.slot) w c.requires.half) c.wait-then-len-elements.ensures.ok;
    }

-- it is a number, and goes on behind the numbers
pub returns : goal.returns
returns c =
    let p = c.args.self.now in
    let e = c.args.elements.now in
    let n : ℤ = c.in-Whole.number in
    let ns = p.numbers.items in
    let q : Pool = record { input = p.input; side = p.side; rare = p.rare; numbers = c.push.new.self; nodes = p.nodes; waiting = p.waiting } in
    let f : Elements = record { numbers_from = e.numbers_from; numbers_to = c.len-elements.result; waiting_from = e.waiting_from } in
    let same : to_z w64 (of_z w64 n) ≡ n = search rules in
    let pushed : c.push.new.self.items ≡ ns ++ n ∷ [] = c.in_ok-push.ensures.items ∙ ap (λ (m : ℤ). ns ++ m ∷ []) same in
    let is : store q ≡ more (store p) [] [] (n ∷ []) = rw (append-nil (store p).side, append-nil (store p).rare, pushed) refl in
    let waits_none : length p.waiting.items ≡ e.waiting_from = search rules in
    let none_waits : length (waiting p) ≡ e.waiting_from = length_values_over (store p) (values p) p.waiting.items ∙ waits_none in
    let ends : length ns ≡ e.numbers_to = search rules in
    let longer : c.len-elements.result ≡ length c.push.new.self.items = search rules in
    let to : c.len-elements.result ≡ e.numbers_to + 1 = longer ∙ (rw pushed (omega (arith, ends, length-append ns (n ∷ [])))) in
    record {
      ok = rw c.in-Whole.is (counts_behind p q e f n c.requires.sound c.requires.half is refl refl none_waits ends refl to refl);
    }
