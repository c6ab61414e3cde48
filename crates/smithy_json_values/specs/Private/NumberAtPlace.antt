-- The number that stands or lies at a place, as private functions answer it.
use Rattle.std.specs.Prelude.{◌≡◌, ◌<◌, ℕ, ℤ, List, drop, slice_range, Bool, true, Some}
use Rattle.smithy_texts.specs.Ranges.{fits_signed}
use Rattle.smithy_json_grammar.specs.Ascii.{is_numeric}
use Rattle.smithy_json_grammar.specs.Standing.{IsRunAt}
use Rattle.smithy_json_values.specs.Settings.{Settings}
use Rattle.smithy_json_values.specs.Scalar.{a_number, integer_of}
use Rattle.smithy_json_values.specs.Tokens.{BoundaryBy, token_frames}
use Rattle.smithy_json_values.specs.LexicalGrammar.{number_test, is_lenient_integer}

-- from start to e stands the longest run of bytes of numbers, which passes the test, and where that is strict a boundary comes
-- behind it
pub record NumberStands (strict : Bool) (test : List ℕ → Bool) (input : List ℕ) (start e : ℕ) : Type 0 where
  pub run : IsRunAt is_numeric input start e
  pub some : start < e
  pub passes : test (slice_range input start e) ≡ true
  pub boundary : BoundaryBy strict (drop e input)

-- from the place to e lies, behind ws, a token of a number that passes the test, and where that is strict a boundary comes behind
-- it
abbrev pub NumberLies : Bool → (List ℕ → Bool) → List ℕ → ℕ → List ℕ → ℕ → Type 0
NumberLies strict test input at raw e =
    (token_frames strict).scalar input 0 (a_number raw) at e × (test raw ≡ true)

-- from start to e stands an integer of 64 bits, as the settings have it read
pub record IntegerStands (c : Settings) (input : List ℕ) (start e : ℕ) (n : ℤ) : Type 0 where
  pub run : NumberStands c.enforce_strictness (number_test c (is_lenient_integer c)) input start e
  pub value : integer_of c (slice_range input start e) ≡ Some n
  pub fits : fits_signed 64 n ≡ true
