use Rattle.std.proofs.Common.{rules, ◌≡◌, ◌++◌, refl, length}
use Rattle.std.specs.Prelude.{map as mapped}
use Rattle.smithy_tree.specs.Nodes.{number_slot}
use Rattle.smithy_tree.specs.Seen.{store, numbers_in}
use Rattle.smithy_tree.specs.declared.pool.Pool.{Pool}
use Rattle.smithy_tree.proofs.HalfLists.{number_nodes, nodes_grow, waiting_same, closes_mixed}
use Rattle.smithy_tree.proofs.pool.Pool.close_mixed.Goals as goal

pub close-requires-clause-sound : goal.close-requires-clause-sound
close-requires-clause-sound c =
    let p = c.args.self.now in
    let ns = numbers_in p c.args.elements in
    let q : Pool = record { input = p.input; side = p.side; rare = p.rare; numbers = p.numbers; nodes = c.push_numbers.new.nodes; waiting = p.waiting } in
    let pushed : c.push_numbers.new.nodes.items ≡ p.nodes.items ++ mapped number_slot ns = rw c.deref.ensures.value at c.in_ok-push_numbers.ensures.ok in
    (nodes_grow p q (mapped number_slot ns) c.requires.sound (number_nodes (store p) (length p.nodes.items) ns) refl pushed refl).sound

pub close-requires-clause-begins : goal.close-requires-clause-begins
close-requires-clause-begins c =
    let p = c.args.self.now in
    let ns = numbers_in p c.args.elements in
    let q : Pool = record { input = p.input; side = p.side; rare = p.rare; numbers = p.numbers; nodes = c.push_numbers.new.nodes; waiting = p.waiting } in
    let pushed : c.push_numbers.new.nodes.items ≡ p.nodes.items ++ mapped number_slot ns = rw c.deref.ensures.value at c.in_ok-push_numbers.ensures.ok in
    rw (waiting_same p q (mapped number_slot ns) c.requires.sound (number_nodes (store p) (length p.nodes.items) ns) refl pushed refl) c.requires.half.waiting

pub returns : goal.returns
returns c =
    let p = c.args.self.now in
    let e = c.args.elements in
    let ns = numbers_in p e in
    let q : Pool = record { input = p.input; side = p.side; rare = p.rare; numbers = p.numbers; nodes = c.push_numbers.new.nodes; waiting = p.waiting } in
    let pushed : c.push_numbers.new.nodes.items ≡ p.nodes.items ++ mapped number_slot ns = rw c.deref.ensures.value at c.in_ok-push_numbers.ensures.ok in
    let start : c.len-start.result ≡ length p.nodes.items = search rules in
    record {
      ok = closes_mixed p q c.close.new.self e c.in_ok-at.at c.in_ok-at.count c.len-start.result _ c.requires.sound c.requires.half refl pushed refl c.in_ok-at.ensures.ok start refl;
    }
