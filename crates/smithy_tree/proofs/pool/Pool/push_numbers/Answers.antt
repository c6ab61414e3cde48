use Rattle.std.proofs.Common.{rules, ◌≡◌, ◌∙◌, ◌+◌, [], ◌++◌, length, refl, arith, length-append}
use Rattle.std.proofs.lemmas.List.{append-nil}
use Rattle.smithy_tree.specs.Seen.{store, values, waiting}
use Rattle.smithy_tree.specs.declared.elements.Elements.{Elements}
use Rattle.smithy_tree.specs.declared.pool.Pool.{Pool}
use Rattle.smithy_tree.proofs.Growing.{length_values_over}
use Rattle.smithy_tree.proofs.HalfLists.{numbers_behind}
use Rattle.smithy_tree.proofs.Storing.{more}
use Rattle.smithy_tree.proofs.pool.Pool.push_numbers.Goals as goal

-- they go on behind the numbers
pub returns-then-len-elements-2 : goal.returns-then-len-elements-2
returns-then-len-elements-2 c =
    let p = c.args.self.now in
    let e = c.args.elements.now in
    let ms = c.args.numbers.now in
    let ns = p.numbers.items in
    let q : Pool = record { input = p.input; side = p.side; rare = p.rare; numbers = c.extend_from_slice.new.self; nodes = p.nodes; waiting = p.waiting } in
    let f : Elements = record { numbers_from = e.numbers_from; numbers_to = c.len-elements.result; waiting_from = e.waiting_from } in
    let pushed : c.extend_from_slice.new.self.items ≡ ns ++ ms = search rules in
    let is : store q ≡ more (store p) [] [] ms = rw (append-nil (store p).side, append-nil (store p).rare, pushed) refl in
    let waits_none : length p.waiting.items ≡ e.waiting_from = search rules in
    let none_waits : length (waiting p) ≡ e.waiting_from = length_values_over (store p) (values p) p.waiting.items ∙ waits_none in
    let ends : length ns ≡ e.numbers_to = search rules in
    let longer : c.len-elements.result ≡ length c.extend_from_slice.new.self.items = search rules in
    let to : c.len-elements.result ≡ e.numbers_to + length ms = longer ∙ (rw pushed (omega (arith, ends, length-append ns ms))) in
    record {
      ok = numbers_behind p q e f ms c.requires.sound c.requires.half is refl refl none_waits ends refl to refl;
    }
