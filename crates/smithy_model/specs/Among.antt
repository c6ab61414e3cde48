-- What calls say that read what is among entries: shapes, or operations.
use Rattle.std.specs.Prelude.{◌≡◌, List, [], ◌∷◌, ◌++◌, Option, Some, Result, IfOk, IfErr, OnOk}
use Rattle.smithy_model.specs.declared.fault.ModelFault.{ModelFault}
use Rattle.smithy_model.specs.Objects.{Entry}

-- What is among these entries was read, or one of them refuses.
pub record ReadsAmong {A B : Type 0} (among : List Entry → Option (List A)) (Refuses : List Entry → ModelFault → Type 0) (es : List Entry) (view : B → List A) (result : Result B ModelFault) : Type 0 where
  pub read : IfOk result (λ found. among es ≡ Some (view found))
  pub refused : IfErr result (Refuses es)

-- What is read of this entry was added behind the others, or it refuses.
pub record AddsAmong {A : Type 0} (among : List Entry → Option (List A)) (Refuses : List Entry → ModelFault → Type 0) (e : Entry) (old new : List A) (result : Result (Unit {0}) ModelFault) : Type 0 where
  pub read : OnOk result ((more : List A) × (among (e ∷ []) ≡ Some more) × (new ≡ old ++ more))
  pub refused : IfErr result (Refuses (e ∷ []))
