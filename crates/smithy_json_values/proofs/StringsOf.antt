-- The strings that scanners find, and those of the grammars of settings.
use Rattle.std.proofs.Common.{◌≡◌, ◌+◌, ℕ, List, slice_range, Bool, true, false, Option, refl}
use Rattle.std.specs.Prelude.{◌&&◌}
use Rattle.smithy_json_grammar.specs.StringText.{is_string_text, escapes_are_valid, is_plain_text, is_lenient_text}
use Rattle.smithy_json_grammar.specs.Standing.{IsStringAt, IsQuotedAt}
use Rattle.smithy_json_grammar.specs.FoundString.{FindsString}
use Rattle.smithy_json_grammar.specs.declared.string_text.ScannedString.{ScannedString}
use Rattle.smithy_json_grammar.proofs.LenientTextLemmas.{string_is_lenient}
use Rattle.smithy_json_values.specs.Scalar.{a_string}
use Rattle.smithy_json_values.specs.LexicalGrammar.{reads_text, skips_text}
use Rattle.smithy_json_values.specs.Private.TokenGrammar.{skipped_in, skipped_is}

module _ (i : List ℕ) (start c : ℕ) where
  abbrev text : List ℕ
  text = slice_range i (start + 1) c

  -- what stands there is a string of RFC 8259 exactly where it passes that test
  pub standard_passes : IsStringAt i start c → is_string_text text ≡ true
  standard_passes here = skipped_in (a_string text) here.text

  pub passes_standard : IsQuotedAt i start c → is_string_text text ≡ true → IsStringAt i start c
  passes_standard here passes = record {
    ordered = here.ordered;
    within = here.within;
    opens = here.opens;
    text = skipped_is (a_string text) passes;
    closes = here.closes;
  }

  -- so it is read
  pub standard_is_read : (strict : Bool) → IsStringAt i start c → reads_text strict text ≡ true
  standard_is_read true here = standard_passes here
  standard_is_read false here = string_is_lenient i start c here

  -- and strictly no other is
  pub read_is_standard : (strict : Bool) → strict ≡ true → IsQuotedAt i start c → reads_text strict text ≡ true → IsStringAt i start c
  read_is_standard true is here reads = passes_standard here reads
  read_is_standard false is here reads = cc

-- where nothing is strict, what the other scanner finds is what is read
pub lenient_is_read : (strict : Bool) → strict ≡ false → (i : List ℕ) (start : ℕ) (o : Option ScannedString) → FindsString is_lenient_text i start o → FindsString (reads_text strict) i start o
lenient_is_read true is i start o finds = cc
lenient_is_read false is i start o finds = finds

-- ---- what is skipped, by which tests there are

module _ (raw : List ℕ) where
  pub skips_plain : (encoding values : Bool) → encoding ≡ true → (encoding && values) ≡ false → is_plain_text raw ≡ skips_text encoding values raw
  skips_plain true true is both = cc
  skips_plain true false is both = refl
  skips_plain false values is both = cc

  pub skips_valid : (encoding values : Bool) → encoding ≡ false → values ≡ true → escapes_are_valid raw ≡ skips_text encoding values raw
  skips_valid true values off on = cc
  skips_valid false true off on = refl
  skips_valid false false off on = cc

  pub skips_any : (encoding values : Bool) → encoding ≡ false → values ≡ false → true ≡ skips_text encoding values raw
  skips_any true values off also = cc
  skips_any false true off also = cc
  skips_any false false off also = refl
