-- What contracts see of a `Decoder`: its input and where it stands.
use Rattle.std.specs.Prelude.{◌≡◌, ℕ, List, Some, Result, IfOk, IfErr, OnErr}
use Rattle.std.specs.Borrow.{MutBor}
use Rattle.cbor_item.specs.declared.error.ItemError.{ItemError}
use Rattle.smithy_cbor.specs.declared.decoder.Decoder.{Decoder}
use Rattle.smithy_cbor.specs.declared.error.DecodeKind.{DecodeKind}
use Rattle.smithy_cbor.specs.declared.error.DeserializeError.{DeserializeError}
use Rattle.smithy_cbor.specs.Reading.{IsKindOf}

abbrev pub input_of : Decoder → List ℕ
input_of d = d.bytes.now

abbrev pub position_of : Decoder → ℕ
position_of d = d.position

-- a read that finds what P says from the old place to the new one, in the same input
pub record Reads (P : List ℕ → ℕ → ℕ → Type 0) (old new : Decoder) : Type 0 where
  pub same_input : input_of new ≡ input_of old
  pub stands : P (input_of old) (position_of old) (position_of new)

-- a refusal with its cause, at the place where the call began
pub record IsRefusal (F : List ℕ → ℕ → DecodeKind → Type 0) (d : Decoder) (e : DeserializeError) : Type 0 where
  pub cause : F (input_of d) (position_of d) e.kind
  pub place : e.at ≡ Some (position_of d)

-- the kind of a fault of which F tells at a place of an input
abbrev pub IsKindAt : (List ℕ → ℕ → ItemError → Type 0) → List ℕ → ℕ → DecodeKind → Type 0
IsKindAt F input at = IsKindOf (F input at)

-- What a call says of its answer that reads a value. It finds what P says of the value and goes behind it; or F tells why not, and
-- the decoder stays as it was.
pub record Decodes {T : Type 0} (P : T → List ℕ → ℕ → ℕ → Type 0) (F : List ℕ → ℕ → DecodeKind → Type 0) (old : Decoder) (result : Result T DeserializeError) (new : Decoder) : Type 0 where
  pub read : IfOk result (λ x. Reads (P x) old new)
  pub refused : IfErr result (IsRefusal F old)
  pub stays : OnErr result (new ≡ old)

-- P holds of some call that is shown the decoder in the old state and leaves it in the new one
abbrev pub CallsWith : (MutBor Decoder → MutBor Decoder → Type 0) → Decoder → Decoder → Type 0
CallsWith P old new =
    (shown left : MutBor Decoder) × (shown.now ≡ old) × P shown left × (left.now ≡ new)
