-- The null, the integer or the text that stands at a place, as private functions answer it.
use Rattle.std.specs.Prelude.{◌≡◌, ◌⊎◌, ℕ, suc, ℤ, List, drop, Some, None, true}
use Rattle.smithy_cbor.specs.declared.error.DecodeKind.{DecodeKind}
use Rattle.smithy_cbor.specs.declared.error.DecodeKind.TheVariants.{TooWide, NoMemory}
use Rattle.smithy_declarations.specs.declared.shape_type.Scalar.{Scalar}
use Rattle.smithy_declarations.specs.Value.{ScalarValue, scalar_value}
use Rattle.smithy_wire.specs.declared.found.Found.{Found}
use Rattle.smithy_cbor_values.specs.Scalar.{says}
use Rattle.smithy_wire.specs.Finding.{MatchFound}
use Rattle.smithy_wire.specs.Rules.{means, no_meaning, wide, uncarried}
use Rattle.cbor_item.specs.Item.{Item}
use Rattle.cbor_item.specs.WellFormed.{IsItemAt}
use Rattle.smithy_cbor.specs.Scalar.{integer_of, text_of, bytes_of}
use Rattle.smithy_texts.specs.Base64Text.{are_bytes}
use Rattle.smithy_texts.specs.Ranges.{fits_signed}
use Rattle.smithy_cbor_values.specs.Standing.{null_byte, begins_with, Follows, IsScalarAt}
use Rattle.smithy_cbor_values.specs.Private.Skipping.{SkipsTo}

-- from at to e is a null, where a value may end behind it
abbrev pub IsNullAt : List ℕ → ℕ → ℕ → ℕ → Type 0
IsNullAt input at depth e =
    (begins_with null_byte (drop at input) ≡ true) × (e ≡ suc at) × Follows depth input e

-- the item stands there, where a value may end behind it
abbrev pub IsAt : Item → List ℕ → ℕ → ℕ → ℕ → Type 0
IsAt x input at depth e = IsItemAt x input at e × Follows depth input e

-- an integer of so many bits stands there, where a value may end behind it
pub record IsWholeAt (bits : ℕ) (n : ℤ) (input : List ℕ) (at depth e : ℕ) : Type 0 where
  pub found : Item
  pub stands : IsItemAt found input at e
  pub is : integer_of found ≡ Some n
  pub fits : fits_signed bits n ≡ true
  pub follows : Follows depth input e

-- a text stands there
pub record HasTextAt (text : List ℕ) (input : List ℕ) (at e : ℕ) : Type 0 where
  pub found : Item
  pub stands : IsItemAt found input at e
  pub is : text_of found ≡ Some text

-- a byte string of these bytes stands there, where a value may end behind it
pub record IsBlobAt (blob : List ℕ) (input : List ℕ) (at depth e : ℕ) : Type 0 where
  pub found : Item
  pub stands : IsItemAt found input at e
  pub is : bytes_of found ≡ Some blob
  pub bytes : are_bytes blob ≡ true
  pub follows : Follows depth input e

-- what stands at the place is this value as the kind, which has no time forms; a value may end behind it
pub record MeansAt (s : Scalar) (input : List ℕ) (at depth : ℕ) (v : ScalarValue) (e : ℕ) : Type 0 where
  pub found : Item
  pub lies : IsScalarAt input depth found at e
  pub is : says s None found ≡ means (scalar_value v)

-- at the place stands a number that leaves the limits of the kind; a value may end behind it
pub record ExceedsAt (s : Scalar) (input : List ℕ) (at depth : ℕ) : Type 0 where
  pub found : Item
  pub e : ℕ
  pub lies : IsScalarAt input depth found at e
  pub is : says s None found ≡ wide

-- at the place stands what the kind can't carry; a value may end behind it
pub record UncarriedAt (s : Scalar) (input : List ℕ) (at depth : ℕ) : Type 0 where
  pub found : Item
  pub e : ℕ
  pub lies : IsScalarAt input depth found at e
  pub is : says s None found ≡ uncarried

-- whatever scalar stands at the place, it means nothing as the kind
abbrev pub NothingAt : Scalar → List ℕ → ℕ → ℕ → Type 0
NothingAt s input at depth = (x : Item) (e : ℕ) → IsScalarAt input depth x at e → says s None x ≡ no_meaning

-- a search for a number of this kind found what stands there, as this shows it, with its end; or that none stands there; or one that
-- leaves the limits of the kind
abbrev pub FindsWithin : {A : Type 0} → Scalar → (A → ScalarValue) → List ℕ → ℕ → ℕ → Found (A × ℕ) → Type 0
FindsWithin s shown input at depth found =
    MatchFound found (λ r. MeansAt s input at depth (shown r.0) r.1) (NothingAt s input at depth) (ExceedsAt s input at depth)

-- what is found where a decoder reads no big number for this cause, unless memory ran out
abbrev pub IsUnread : {A : Type 0} → DecodeKind → List ℕ → ℕ → ℕ → Found A → Type 0
IsUnread kind input at depth found = MatchFound found (λ _. ⊥)
    (((kind ≡ TooWide) × ((e : ℕ) → SkipsTo input at depth e → ⊥)) ⊎ ((kind ≡ TooWide → ⊥) × (kind ≡ NoMemory → ⊥)))
    ((kind ≡ TooWide) × ((e : ℕ) × SkipsTo input at depth e))
