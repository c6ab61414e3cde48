-- What is said of a tree that was made in a store.
use Rattle.std.proofs.Common.{◌≡◌, ℕ, List, Result, Ok, Err, IfOk, sym, subst}
use Rattle.smithy_declarations.specs.Value.{Value}
use Rattle.smithy_schema.specs.declared.error.SerdeError.{SerdeError}
use Rattle.smithy_value.specs.Building.{IsMade, KeepsLawfully, GrowsLawfully}

module _ {Pool T : Type 0} (keeps : Pool → Pool → Type 0) (stands : Pool → T → Type 0) (view : Pool → T → Value) where
  -- it stands for this value
  pub made_shown : (p q : Pool) (v : Value) (result : Result T SerdeError) → IfOk result (IsMade keeps stands view p q v) → IfOk result (λ x. view q x ≡ v)
  made_shown p q v (Ok x) made = made.shown
  made_shown p q v (Err e) made = tt

  -- it stands in the store, which has grown
  pub made_added : (p q : Pool) (v : Value) (result : Result T SerdeError) → IfOk result (IsMade keeps stands view p q v) → IfOk result (λ x. keeps p q × stands q x)
  made_added p q v (Ok x) made = (made.grown, made.here)
  made_added p q v (Err e) made = tt

  -- it was made behind others
  pub made_behind : {sound : Pool → List ℕ → Type 0} → KeepsLawfully sound keeps → (p q r : Pool) (v : Value) (result : Result T SerdeError)
      → keeps p q → IfOk result (IsMade keeps stands view q r v) → IfOk result (λ x. keeps p r × stands r x)
  made_behind laws p q r v (Ok x) before made = (laws.twice p q r before made.grown, made.here)
  made_behind laws p q r v (Err e) before made = tt

-- where a container is half built, a store that was sound is one of the same input still
pub half_sound_at : {Pool Half Shown : Type 0} {sound : Pool → List ℕ → Type 0} {keeps : Pool → Pool → Type 0} {begun : Pool → Pool → Half → Type 0} {view : Pool → Half → Shown}
    → GrowsLawfully sound keeps begun view → (p q : Pool) (i j : List ℕ) (h : Half) → sound p i → begun p q h → j ≡ i → sound q j
half_sound_at {Pool} {Half} {Shown} {sound} laws p q i j h before begun same = subst (λ (k : List ℕ). sound q k) (sym same) (laws.sound_still p q i h before begun)
