-- A number of a sort of big numbers that lies at a place is in the grammar, as the kind that is read so.
use Rattle.std.proofs.Common.{◌≡◌, ◌∙◌, ℕ, List, Bool, true, false, refl, sym}
use Rattle.std.specs.Prelude.{if◌then◌else◌}
use Rattle.smithy_json_grammar.specs.NumberText.{is_number_of}
use Rattle.smithy_json_values.specs.declared.number_runs.NumberSort.{NumberSort}
use Rattle.smithy_json_values.specs.declared.number_runs.NumberSort.TheVariants as sorts
use Rattle.smithy_json_values.specs.Settings.{Settings}
use Rattle.smithy_json_values.specs.Scalar.{a_number}
use Rattle.smithy_json_values.specs.LexicalGrammar.{number_test, grammar_of, is_skipped_in, LiesInGrammar, NodeLies}
use Rattle.smithy_json_values.specs.Private.NumberAtPlace.{NumberLies}
use Rattle.smithy_json_values.specs.Private.NumberSorts.{lenient_test, is_big_sort, kind_of_sort}
use Rattle.smithy_wire.specs.Node.{leaf}

pub big_lies : (c : Settings) (sort : NumberSort) → is_big_sort sort ≡ true → (i : List ℕ) (a : ℕ) (raw : List ℕ) (e : ℕ)
    → NumberLies c.enforce_strictness (number_test c (lenient_test sort c.numbers)) i a raw e → LiesInGrammar (grammar_of c) (kind_of_sort sort) (a_number raw) i a e
big_lies c sorts.BigInteger big i a raw e h = h
big_lies c sorts.Decimal big i a raw e h = h
big_lies c sorts.OfGrammar big i a raw e h = cc

pub lies_big : (c : Settings) (sort : NumberSort) → is_big_sort sort ≡ true → (i : List ℕ) (a : ℕ) (raw : List ℕ) (e : ℕ)
    → LiesInGrammar (grammar_of c) (kind_of_sort sort) (a_number raw) i a e → NumberLies c.enforce_strictness (number_test c (lenient_test sort c.numbers)) i a raw e
lies_big c sorts.BigInteger big i a raw e h = h
lies_big c sorts.Decimal big i a raw e h = h
lies_big c sorts.OfGrammar big i a raw e h = cc

-- a number of a grammar is skipped, whatever is strict
same_test : (c : Settings) (raw : List ℕ) → number_test c (is_number_of c.numbers) raw ≡ is_number_of c.numbers raw
same_test c raw = by c.enforce_strictness
  where
    by : (strict : Bool) → (if strict then is_number_of c.numbers raw else is_number_of c.numbers raw) ≡ is_number_of c.numbers raw
    by true = refl
    by false = refl

module _ (c : Settings) (i : List ℕ) (a : ℕ) (raw : List ℕ) (e : ℕ) where
  pub number_skipped : NumberLies c.enforce_strictness (number_test c (lenient_test sorts.OfGrammar c.numbers)) i a raw e → NodeLies (grammar_of c) (is_skipped_in (grammar_of c)) 1 (leaf (a_number raw)) i a e
  number_skipped h = (h.0, sym (same_test c raw) ∙ h.1)

  pub skipped_number : NodeLies (grammar_of c) (is_skipped_in (grammar_of c)) 1 (leaf (a_number raw)) i a e → NumberLies c.enforce_strictness (number_test c (lenient_test sorts.OfGrammar c.numbers)) i a raw e
  skipped_number h = (h.0, same_test c raw ∙ h.1)
