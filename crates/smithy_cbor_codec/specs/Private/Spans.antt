-- What is handed out for texts, as private functions answer it.
use Rattle.std.specs.Prelude.{◌≡◌, ℕ, List}
use Rattle.std.specs.Cow.{cow_str_bytes, IsBorrowedStr}
use Rattle.std.specs.declared.borrow.CowStr.{CowStr}
use Rattle.smithy_cbor_codec.specs.declared.members.Next.{Next}
use Rattle.smithy_cbor_codec.specs.declared.members.Next.TheVariants.{Pair, End}
use Rattle.smithy_cbor_values.specs.Borrowed.{BorrowsText}
use Rattle.smithy_cbor_values.specs.Private.ScalarAtPlace.{HasTextAt}

-- in whatever input this text is an item that ends at e, what is handed out is the text, and lies in the item
abbrev pub IsMeantUpTo : {A T : Type 0} → (List ℕ → T → List ℕ) → (List ℕ → T → Type 0) → (ℕ → ℕ → T → Type 0) → CowStr A → ℕ → T → Type 0
IsMeantUpTo bytes is_placed is_between text e handed =
    (input : List ℕ) (at : ℕ) → BorrowsText input at (IsBorrowedStr text) e → HasTextAt (cow_str_bytes text) input at e
    → (bytes input handed ≡ cow_str_bytes text) × is_placed input handed × is_between at e handed

-- a key that comes is a text string of the input, borrowed exactly where it is definite
abbrev pub BorrowsKey : List ℕ → ℕ → Next → Type 0
BorrowsKey input at (Pair key c after) = BorrowsText input at (IsBorrowedStr key) c
BorrowsKey input at (End e) = Unit {0}
