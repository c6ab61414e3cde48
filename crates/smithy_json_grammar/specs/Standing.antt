-- Where a text stands in an input.
use Rattle.std.specs.Prelude.{◌≡◌, ◌<◌, ◌≤◌, ℕ, ◌+◌, List, length, drop, Bool, true, false, slice_index, slice_range, ℤ, Some}
use Rattle.smithy_json_grammar.specs.Ascii.{quotation_mark, is_numeric}
use Rattle.smithy_json_grammar.specs.Grammar.{IsNumber, IsStringText, IsBoundary}
use Rattle.smithy_json_grammar.specs.Number.{whole_number, signed_number}
use Rattle.smithy_json_grammar.specs.StringText.{IsQuoted}
use Rattle.smithy_texts.specs.Ranges.{fits_signed}

-- from at to end stands the longest run of bytes that pass the test
pub record IsRunAt (test : ℕ → Bool) (input : List ℕ) (at end : ℕ) : Type 0 where
  pub ordered : at ≤ end
  pub within : end ≤ length input
  pub pass : (k : ℕ) → at ≤ k → k < end → test (slice_index input k) ≡ true
  pub stops : end < length input → test (slice_index input end) ≡ false

-- from at to end stands a text of P, and then a value may end
pub record StandsAt (P : List ℕ → Type 0) (input : List ℕ) (at end : ℕ) : Type 0 where
  pub ordered : at ≤ end
  pub within : end ≤ length input
  pub text : P (slice_range input at end)
  pub boundary : IsBoundary (drop end input)

-- a string stands there, with these quotation marks
pub record IsStringAt (input : List ℕ) (opening closing : ℕ) : Type 0 where
  pub ordered : opening < closing
  pub within : closing < length input
  pub opens : slice_index input opening ≡ quotation_mark
  pub text : IsStringText (slice_range input (opening + 1) closing)
  pub closes : slice_index input closing ≡ quotation_mark

-- between these quotation marks stands something, of which each backslash takes the next byte
pub record IsQuotedAt (input : List ℕ) (opening closing : ℕ) : Type 0 where
  pub ordered : opening < closing
  pub within : closing < length input
  pub opens : slice_index input opening ≡ quotation_mark
  pub quoted : IsQuoted (slice_range input (opening + 1) closing)
  pub closes : slice_index input closing ≡ quotation_mark

-- a number stands there that is a whole number of 64 bits
pub record IsLongAt (input : List ℕ) (at end : ℕ) (n : ℤ) : Type 0 where
  pub number : StandsAt IsNumber input at end
  pub value : whole_number (slice_range input at end) ≡ Some n
  pub fits : fits_signed 64 n ≡ true

-- the longest run of bytes of numbers that stands there is an optional sign and digits, a number of 64 bits
pub record IsSignedAt (input : List ℕ) (at end : ℕ) (n : ℤ) : Type 0 where
  pub run : IsRunAt is_numeric input at end
  pub value : signed_number (slice_range input at end) ≡ Some n
  pub fits : fits_signed 64 n ≡ true
