-- The tree in a pool that a whole input spells.
use Rattle.std.proofs.Common.{◌≡◌, ◌∙◌, ℕ, List, Result, Ok, Err, IfOk, refl, sym, ap}
use Rattle.smithy_schema.specs.Reading.{Cursor}
use Rattle.smithy_schema.specs.declared.error.SerdeError.{SerdeError}
use Rattle.smithy_wire.specs.Walking.{fresh_cursor}
use Rattle.smithy_tree.specs.Seen.{IsSound, HoldsSlot}
use Rattle.smithy_tree.specs.declared.node.Slot.{Slot}
use Rattle.smithy_tree.specs.declared.pool.Pool.{Pool}
use Rattle.smithy_value.specs.Pooled.{IsPoolOf, Keeps}

-- the pool is one of the input of a reader at its start
pub pool_of_input : (p : Pool) (i : List ℕ) (c : Cursor) → IsSound p → p.input.now ≡ i → c ≡ fresh_cursor i → IsPoolOf p c.input
pool_of_input p i c sound of_input fresh = record {
  sound = sound;
  input = of_input ∙ sym (ap (λ (d : Cursor). d.input) fresh);
}

-- and of its own input
pub pool_of_itself : (p : Pool) → IsSound p → (i : List ℕ) × IsPoolOf p i
pool_of_itself p sound = (p.input.now, record { sound = sound; input = refl })

-- a tree that was read stands in a pool that is sound
pub read_stands : (p q : Pool) (answer : Result Slot SerdeError) → IfOk answer (λ x. Keeps p q × HoldsSlot q x) → IfOk answer (λ x. IsSound q × HoldsSlot q x)
read_stands p q (Ok x) adds = (adds.0.grows.sound, adds.1)
read_stands p q (Err e) adds = tt

-- what stood in the pool before it stands there still
pub read_keeps : (p q : Pool) (answer : Result Slot SerdeError) → IfOk answer (λ x. Keeps p q × HoldsSlot q x) → IfOk answer (λ x. Keeps p q)
read_keeps p q (Ok x) adds = adds.0
read_keeps p q (Err e) adds = tt
