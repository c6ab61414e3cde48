use Rattle.std.proofs.Common.{rules, ◌≡◌, ◌≢◌, ◌∙◌, ◌-◌, length, refl, sym, Result, Ok, Err, OnErr}
use Rattle.smithy_tree.specs.Seen.{store, values, waiting}
use Rattle.smithy_tree.proofs.Growing.{length_values_over}
use Rattle.smithy_tree.proofs.HalfLists.{closes_waiting, closes_numbers}
use Rattle.smithy_tree.proofs.pool.Pool.close_elements.Goals as goal

pub returns-then-count-eq0-clause-ok : goal.returns-then-count-eq0-clause-ok
returns-then-count-eq0-clause-ok c =
    let e = c.args.elements in
    let none : e.numbers_to - e.numbers_from ≡ 0 = search rules in
    closes_waiting c.args.self.now c.close.new.self e c.in_ok-at.at c.in_ok-at.count c.requires.half none c.in_ok-at.ensures.ok

-- what holds anyway holds of an error
of_errors : {T E P : Type 0} (r : Result T E) → P → OnErr r P
of_errors (Ok v) holds = tt
of_errors (Err e) holds = holds

pub returns-then-len-elements-clause-limit : goal.returns-then-len-elements-clause-limit
returns-then-len-elements-clause-limit c =
    let p = c.args.self.now in
    let waits : length p.waiting.items ≢ c.args.elements.waiting_from = search rules in
    of_errors c.close_mixed.result
    (λ alone. absurd (waits (sym (length_values_over (store p) (values p) p.waiting.items) ∙ alone.none_waits)))

pub returns-clause-ok : goal.returns-clause-ok
returns-clause-ok c =
    let p = c.args.self.now in
    let e = c.args.elements in
    let waits_none : length p.waiting.items ≡ e.waiting_from = search rules in
    let none_waits : length (waiting p) ≡ e.waiting_from = length_values_over (store p) (values p) p.waiting.items ∙ waits_none in
    closes_numbers p e e.numbers_from (e.numbers_to - e.numbers_from) c.requires.sound c.requires.half none_waits refl refl
