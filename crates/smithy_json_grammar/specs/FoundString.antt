-- What a scanner of strings answers.
use Rattle.std.specs.Prelude.{◌≡◌, ◌+◌, ℕ, List, slice_range, Bool, true, false, Option, IfSome, IfNone}
use Rattle.smithy_json_grammar.specs.Standing.{IsStringAt, IsQuotedAt}
use Rattle.smithy_json_grammar.specs.Unescape.{has_escape}
use Rattle.smithy_json_grammar.specs.declared.string_text.ScannedString.{ScannedString}

-- What it says of the string whose opening quotation mark stands at the offset, among those of RFC 8259, section 7.
pub record ScansString (input : List ℕ) (at : ℕ) (result : Option ScannedString) : Type 0 where
  pub found : IfSome result (λ s. IsStringAt input at s.closing)
  pub text : IfSome result (λ s. s.text.now ≡ slice_range input (at + 1) s.closing)
  pub has_escape : IfSome result (λ s. s.has_escape ≡ has_escape s.text.now)
  pub none : IfNone result ((closing : ℕ) → IsStringAt input at closing → ⊥)

-- What it says of the string whose opening quotation mark stands at the offset, among the strings whose text passes the test.
pub record FindsString (is_text : List ℕ → Bool) (input : List ℕ) (at : ℕ) (result : Option ScannedString) : Type 0 where
  pub found : IfSome result (λ s. IsQuotedAt input at s.closing)
  pub text : IfSome result (λ s. s.text.now ≡ slice_range input (at + 1) s.closing)
  pub valid : IfSome result (λ s. is_text s.text.now ≡ true)
  pub has_escape : IfSome result (λ s. s.has_escape ≡ has_escape s.text.now)
  pub none : IfNone result ((closing : ℕ) → IsQuotedAt input at closing → is_text (slice_range input (at + 1) closing) ≡ false)
