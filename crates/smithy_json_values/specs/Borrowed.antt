-- Which texts borrow from the input, or are named by their places in it.
use Rattle.std.specs.Prelude.{◌≡◌, ◌↔◌, ℕ, List, true, false}
use Rattle.smithy_declarations.specs.declared.shape_type.Scalar.TheVariants as scalars
use Rattle.smithy_schema.specs.Borrowing.{Borrowing}
use Rattle.smithy_json_grammar.specs.Unescape.{has_escape}
use Rattle.smithy_json_values.specs.LexicalGrammar.{LexicalGrammar, LiesInGrammar}
use Rattle.smithy_json_values.specs.Scalar.{a_string}

-- a string lies there, and its text is borrowed exactly where no backslash stands in it
pub record BorrowsText (g : LexicalGrammar) (input : List ℕ) (at : ℕ) (is_borrowed : Type 0) (e : ℕ) : Type 0 where
  pub raw : List ℕ
  pub lies : LiesInGrammar g scalars.String (a_string raw) input at e
  pub borrowed : is_borrowed ↔ (has_escape raw ≡ false)

-- a string lies there in which a backslash stands
abbrev pub LiesEscaped : LexicalGrammar → List ℕ → ℕ → Type 0
LiesEscaped g input at =
    (raw : List ℕ) × (e : ℕ) × LiesInGrammar g scalars.String (a_string raw) input at e × (has_escape raw ≡ true)

-- only a string with a backslash takes memory
abbrev pub texts_borrow : LexicalGrammar → Borrowing
texts_borrow g = record { borrows = BorrowsText g; may_allocate = LiesEscaped g }
