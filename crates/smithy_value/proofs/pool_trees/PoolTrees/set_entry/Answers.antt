use Rattle.std.proofs.Common.{◌≡◌, ◌∙◌, ◌++◌, ℕ, List, [], ◌∷◌, ap}
use Rattle.smithy_declarations.specs.Value.{Value, put_entry}
use Rattle.smithy_schema.specs.Spans.{text_bytes}
use Rattle.smithy_tree.specs.Items.{Item}
use Rattle.smithy_tree.specs.Seen.{item_in, view, waiting}
use Rattle.smithy_tree.specs.declared.node.Slot.{Slot}
use Rattle.smithy_tree.proofs.Seeing.{seen_as_before}
use Rattle.smithy_value.specs.Pooled.{waiting_entries}
use Rattle.smithy_value.proofs.PoolTrees.{stands_still, entries_more}
use Rattle.smithy_value.proofs.pool_trees.PoolTrees.set_entry.Goals as goal

pub wait-requires-clause-holds : goal.wait-requires-clause-holds
wait-requires-clause-holds c =
    let has = c.in_ok-first.ensures.ok in
    ((stands_still c.args.self.now c.place_text.new.pool c.args.value has.grows c.requires.stands).0, record { key = λ some. has.span })

pub returns-clause-ok : goal.returns-clause-ok
returns-clause-ok c =
    λ i pool.
    let p = c.args.self.now in
    let q = c.place_text.new.pool in
    let n = c.args.value.node in
    let begin = c.args._entries.now in
    let has = c.in_ok-first.ensures.ok in
    let begun = c.requires.begun in
    let slot : Slot = record { first = c.in_ok-first.first; second = c.in_ok-first.second; node = n } in
    let v = item_in q slot in
    let es = waiting_entries p begin in
    let waits : waiting c.wait.new.self ≡ waiting p ++ v ∷ [] = c.in_ok-wait.ensures.ok.waiting ∙ ap (λ (xs : List Item). xs ++ v ∷ []) has.waiting in
    let key : v.key ≡ text_bytes i c.args.key = has.bytes ∙ ap (λ (bytes : List ℕ). text_bytes bytes c.args.key) pool.input in
    let shown : v.shown ≡ view p n = seen_as_before p q n has.grows c.requires.stands.0 in
    entries_more begun.0 p c.wait.new.self begin v begun.1 waits ∙ (ap (λ (k : List ℕ). put_entry k v.shown es) key ∙ ap (λ (w : Value). put_entry (text_bytes i c.args.key) w es) shown)
