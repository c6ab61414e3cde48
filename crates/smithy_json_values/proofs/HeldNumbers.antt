-- The number of 64 bits that stands at a place, as a document holds it under all settings.
use Rattle.std.proofs.Common.{◌≡◌, ◌+◌, ◌-◌, ◌<◌, ℕ, suc, ℤ, unsigned_abs, List, ◌∷◌, drop, take, slice_range, true, ◌==◌, Some, None, option_and_then, ap, ◌∙◌, cond, arith}
use Rattle.std.proofs.lemmas.List.{drop_more}
use Rattle.smithy_texts.specs.Ranges.{fits_signed}
use Rattle.smithy_types.specs.declared.number.Number.TheVariants.{PosInt, NegInt}
use Rattle.smithy_types.specs.Document.{is_document_number}
use Rattle.smithy_json_grammar.specs.Ascii.{minus_sign, is_ws}
use Rattle.smithy_json_grammar.specs.HeldNumber.{held_as, number_of}
use Rattle.smithy_json_grammar.specs.Number.{whole_number}
use Rattle.smithy_json_grammar.specs.Standing.{IsRunAt, IsLongAt}
use Rattle.smithy_json_grammar.proofs.HeldNumberLemmas.{long_held}
use Rattle.smithy_json_values.specs.Settings.{Settings}
use Rattle.smithy_json_values.specs.LexicalGrammar.{grammar_of, number_test, is_lenient_decimal}
use Rattle.smithy_json_values.specs.Private.NextInContainer.{IsFirstByte}
use Rattle.smithy_json_values.specs.Private.OpenDocuments.{HeldNumberLies}
use Rattle.smithy_json_values.proofs.NumberRuns.{number_lies}
use Rattle.smithy_json_values.proofs.PlainIntegers.{plain_is_held}

held_is : (b : ℕ) (raw more : List ℕ) (n : ℤ) → raw ≡ b ∷ more → whole_number raw ≡ Some n → fits_signed 64 n ≡ true
    → number_of raw ≡ Some (cond (b == minus_sign) (NegInt n) (PosInt (unsigned_abs n)))
held_is b raw more n front is fits =
    ap (option_and_then (λ z. cond (is_document_number z) (Some (held_as raw z)) None)) is
    ∙ ap (λ held. cond held (Some (held_as raw n)) None) (long_held n fits)
    ∙ ap (λ text. Some (held_as text n)) front

module _ (i : List ℕ) (at b : ℕ) (here : IsFirstByte i at b at) where
  -- no white space stands there
  no_ws : IsRunAt is_ws i at at
  no_ws = record {
    ordered = omega arith;
    within = omega (arith, here.within);
    pass = λ k from to. absurd (omega (arith, from, to));
    stops = λ l. ap is_ws here.is ∙ here.plain;
  }

  -- a text that stands there begins with the byte
  begins_text : (e : ℕ) → at < e → slice_range i at e ≡ b ∷ take (e - at - 1) (drop (at + 1) i)
  begins_text e some =
      let n : e - at ≡ suc (e - at - 1) = omega (arith, some) in
      let byte : drop at i ≡ b ∷ drop (at + 1) i = drop_more i at 0 here.within ∙ ap (λ x. x ∷ drop (at + 1) i) here.is in
      ap (λ k. take k (drop at i)) n ∙ ap (take (suc (e - at - 1))) byte

  pub long_is_held : (c : Settings) (n : ℤ) (e : ℕ) → IsLongAt i at e n → HeldNumberLies (grammar_of c) i at (cond (b == minus_sign) (NegInt n) (PosInt (unsigned_abs n))) e
  long_is_held c n e long =
      let run = plain_is_held c i at e n long in
      let some = run.some in
      record {
        raw = slice_range i at e;
        lies = number_lies i at at no_ws c.enforce_strictness (number_test c is_lenient_decimal) e run;
        is = held_is b (slice_range i at e) _ n (begins_text e some) long.value long.fits;
      }
