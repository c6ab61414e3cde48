-- Which texts and bytes borrow from the input, or are named by their places in it (RFC 8949, section 3.2.3).
use Rattle.std.specs.Prelude.{◌≡◌, ◌↔◌, ℕ, drop, List}
use Rattle.smithy_schema.specs.Borrowing.{Borrowing}
use Rattle.cbor_item.specs.Item.{Extent, definite, byte_string, text_string}
use Rattle.cbor_item.specs.Strings.{BeginsIndefinite}
use Rattle.cbor_item.specs.WellFormed.{IsItemAt}

-- a text string stands there, and it is borrowed exactly where it is definite
pub record BorrowsText (input : List ℕ) (at : ℕ) (is_borrowed : Type 0) (e : ℕ) : Type 0 where
  pub extent : Extent
  pub chunks : List (List ℕ)
  pub stands : IsItemAt (text_string extent chunks) input at e
  pub borrowed : is_borrowed ↔ (extent ≡ definite)

-- a byte string stands there, and its bytes are borrowed exactly where it is definite
pub record BorrowsBytes (input : List ℕ) (at : ℕ) (are_borrowed : Type 0) (e : ℕ) : Type 0 where
  pub extent : Extent
  pub chunks : List (List ℕ)
  pub stands : IsItemAt (byte_string extent chunks) input at e
  pub borrowed : are_borrowed ↔ (extent ≡ definite)

-- only an indefinite text takes memory
abbrev pub texts_borrow : Borrowing
texts_borrow = record { borrows = BorrowsText; may_allocate = λ input at. BeginsIndefinite 3 (drop at input) }

-- only an indefinite byte string takes memory
abbrev pub bytes_borrow : Borrowing
bytes_borrow = record { borrows = BorrowsBytes; may_allocate = λ input at. BeginsIndefinite 2 (drop at input) }
