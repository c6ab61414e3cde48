-- A whole number of 64 bits that stands at an offset is scanned as its token.
use Rattle.std.proofs.Common.{◌≡◌, ◌+◌, ◌-◌, ◌<◌, ℕ, suc, List, ◌∷◌, ◌++◌, length, drop, slice_range, slice_index, Bool, cond, ◌==◌, Some, None, option_and_then, ℤ, unsigned_abs, sym, ap, ◌∙◌, arith}
use Rattle.std.proofs.lemmas.List.{drop_more, length-drop, length-take-le}
use Rattle.std.specs.Option.{option_map_or}
use Rattle.smithy_json_grammar.specs.Ascii.{minus_sign}
use Rattle.smithy_texts.specs.Numeral.{begins_with}
use Rattle.smithy_json_grammar.specs.Standing.{IsLongAt}
use Rattle.smithy_json_grammar.proofs.SliceLemmas.{drop-slice}
use Rattle.smithy_json_grammar.proofs.HeldNumberLemmas.{long_held}
use Rattle.smithy_types.specs.declared.number.Number.{Number}
use Rattle.smithy_types.specs.declared.number.Number.TheVariants.{PosInt, NegInt}
use Rattle.smithy_types.specs.Document.{is_document_number}
use Rattle.smithy_json_grammar.specs.HeldNumber.{held_as, number_of}
use Rattle.smithy_json_tokens.specs.Tokens.{value_number, value_uncarried, number_token}
use Rattle.smithy_json_tokens.specs.TokenRules.{scanned, scan_value, scan_number}
use Rattle.smithy_json_tokens.specs.Private.Scans.{BeginsNumber}
use Rattle.smithy_json_tokens.proofs.DecimalLemmas.{number_is_decimal}
use Rattle.smithy_json_tokens.proofs.ScalarScans.{number_front, number_scan, number_scans}

same_first : (b c : ℕ) (s t : List ℕ) → b ∷ s ≡ c ∷ t → b ≡ c
same_first b c s t e = cc

-- the number that is held, by the sign before it
abbrev pub held : Bool → ℤ → Number
held with_minus n = cond with_minus (NegInt n) (PosInt (unsigned_abs n))

module _ (input : List ℕ) (at end : ℕ) (n : ℤ) (is : IsLongAt input at end n) (within : at < length input) where
  abbrev raw : List ℕ
  raw = slice_range input at end

  abbrev first : ℕ
  first = slice_index input at

  front : drop at input ≡ first ∷ drop (at + 1) input
  front = drop_more input at 0 within

  split : drop at input ≡ raw ++ drop end input
  split = drop-slice input at end is.number.ordered

  -- it isn't empty
  pub long_some : at < end
  long_some =
      let parts = number_front raw is.number.text in
      let size : length raw ≡ suc (length parts.others) = ap length parts.split in
      let count : length raw ≡ end - at = length-take-le (end - at) (drop at input) (omega (arith, length-drop at input, is.number.within)) in
      omega (arith, size, count)

  minus_first : begins_with minus_sign raw ≡ (first == minus_sign)
  minus_first =
      let parts = number_front raw is.number.text in
      let same : first ≡ parts.first = same_first first parts.first (drop (at + 1) input) (parts.others ++ drop end input) (sym front ∙ split ∙ ap (λ s. s ++ drop end input) parts.split) in
      ap (begins_with minus_sign) parts.split ∙ ap (λ b. b == minus_sign) (sym same)

  token : number_token raw ≡ value_number (held (first == minus_sign) n)
  token =
      let some : number_of raw ≡ Some (held_as raw n) =
      ap (option_and_then (λ z. cond (is_document_number z) (Some (held_as raw z)) None)) is.value
      ∙ ap (λ c. cond c (Some (held_as raw n)) None) (long_held n is.fits) in
      ap (λ m. option_map_or value_number m (value_uncarried raw)) some
      ∙ ap (λ m. value_number (held m n)) minus_first

  pub long_scans : BeginsNumber first → scan_number first (drop (at + 1) input) ≡ scanned (value_number (held (first == minus_sign) n)) (drop end input)
  long_scans begins =
      sym (number_scan first (drop (at + 1) input) begins) ∙ ap scan_value (sym front ∙ split)
      ∙ number_scans raw (drop end input) is.number.text (number_is_decimal raw is.number.text) is.number.boundary
      ∙ ap (λ t. scanned t (drop end input)) token
