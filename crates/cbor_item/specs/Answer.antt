-- What a call says of its answer that reads a head.
use Rattle.std.specs.Prelude.{◌↔◌, ⊤, ℕ, List, Result, Err, IfOk, IsErrOf}
use Rattle.cbor_item.specs.declared.error.ItemError.{ItemError}
use Rattle.cbor_item.specs.declared.error.ItemError.TheVariants.{Truncated, NotWellFormed, WrongType, InvalidUtf8, NoMemory}
use Rattle.cbor_item.specs.declared.head.Head.{Head}
use Rattle.cbor_item.specs.Head.{BeginsWithHead, IsCutHead, IsBrokenHead}
use Rattle.cbor_item.specs.HeadView.{head_read}

-- no fault but a truncated or a broken encoding
abbrev pub NoOtherFault : {A : Type 0} → Result A ItemError → Type 0
NoOtherFault (Err WrongType) = ⊥
NoOtherFault (Err InvalidUtf8) = ⊥
NoOtherFault (Err NoMemory) = ⊥
NoOtherFault _ = ⊤

-- It is the head with which the bytes begin. It is refused exactly where the bytes end before their head does, or where that breaks a
-- rule.
pub record ReadsHead (bytes : List ℕ) (result : Result Head ItemError) : Type 0 where
  pub found : IfOk result (λ head. BeginsWithHead bytes (head_read head))
  pub truncated : IsErrOf result Truncated ↔ IsCutHead bytes
  pub not_well_formed : IsErrOf result NotWellFormed ↔ IsBrokenHead bytes
  pub no_other_error : NoOtherFault result
