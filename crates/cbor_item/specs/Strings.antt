-- The strings that stand at a place of an input (RFC 8949, section 3.1 and 3.2.3).
use Rattle.std.specs.Prelude.{◌≡◌, ◌↔◌, ℕ, List, None, All, IsUtf8}
use Rattle.std.specs.List.{concat}
use Rattle.std.specs.Cow.{cow_str_bytes, cow_slice_items, IsBorrowedStr, IsBorrowedSlice}
use Rattle.std.specs.declared.borrow.CowStr.{CowStr}
use Rattle.std.specs.declared.borrow.CowSlice.{CowSlice}
use Rattle.cbor_item.specs.declared.error.ItemError.{ItemError}
use Rattle.cbor_item.specs.declared.error.ItemError.TheVariants.{InvalidUtf8}
use Rattle.cbor_item.specs.Head.{BeginsWithHead}
use Rattle.cbor_item.specs.Item.{Extent, definite, byte_string, text_string}
use Rattle.cbor_item.specs.WellFormed.{IsItemAt}
use Rattle.cbor_item.specs.Fault.{IsStringFault}

-- a text string stands there, each chunk of it is UTF-8 by itself, and the text is all of them; it is
-- borrowed exactly where it is definite
pub record IsTextAt {A : Type 0} (input : List ℕ) (at : ℕ) (text : CowStr A) (end : ℕ) : Type 0 where
  pub extent : Extent
  pub chunks : List (List ℕ)
  pub stands : IsItemAt (text_string extent chunks) input at end
  pub utf8 : All IsUtf8 chunks
  pub joined : cow_str_bytes text ≡ concat chunks
  pub borrowed : IsBorrowedStr text ↔ (extent ≡ definite)

-- a byte string stands there, and these are its bytes, borrowed exactly where it is definite
pub record AreBytesAt {A : Type 0} (input : List ℕ) (at : ℕ) (bytes : CowSlice ℕ A) (end : ℕ) : Type 0 where
  pub extent : Extent
  pub chunks : List (List ℕ)
  pub stands : IsItemAt (byte_string extent chunks) input at end
  pub joined : cow_slice_items bytes ≡ concat chunks
  pub borrowed : IsBorrowedSlice bytes ↔ (extent ≡ definite)

-- the bytes begin with the head of an indefinite string of the major type, whose content stands in chunks (section 3.2.3)
abbrev pub BeginsIndefinite : ℕ → List ℕ → Type 0
BeginsIndefinite major bytes =
    (n : ℕ) × BeginsWithHead bytes (record { major = major; argument = None; length = n })

-- a text string stands there, and a chunk of it is not UTF-8
abbrev pub IsBadTextAt : List ℕ → ℕ → Type 0
IsBadTextAt input at =
    (extent : Extent) × (chunks : List (List ℕ)) × (end : ℕ)
    × IsItemAt (text_string extent chunks) input at end × ¬ (All IsUtf8 chunks)

-- why no text is read: a chunk that is not UTF-8, or no text string
abbrev pub IsTextFault : List ℕ → ℕ → ItemError → Type 0
IsTextFault input at InvalidUtf8 = IsBadTextAt input at
IsTextFault input at e = IsStringFault 3 input at e
