-- The sorts of numbers: the test that one passes where nothing is strict, and the kind that is read so.
use Rattle.std.specs.Prelude.{ℕ, List, Bool, true, false}
use Rattle.smithy_json_grammar.specs.NumberText.{is_number_of}
use Rattle.smithy_json_grammar.specs.declared.number_grammar.NumberGrammar.{NumberGrammar}
use Rattle.smithy_declarations.specs.declared.shape_type.Scalar.{Scalar}
use Rattle.smithy_declarations.specs.declared.shape_type.Scalar.TheVariants as scalars
use Rattle.smithy_json_values.specs.declared.number_runs.NumberSort.{NumberSort}
use Rattle.smithy_json_values.specs.declared.number_runs.NumberSort.TheVariants as sorts
use Rattle.smithy_json_values.specs.LexicalGrammar.{is_lenient_big_integer, is_lenient_decimal}

abbrev pub lenient_test : NumberSort → NumberGrammar → List ℕ → Bool
lenient_test sorts.OfGrammar g raw = is_number_of g raw
lenient_test sorts.BigInteger g raw = is_lenient_big_integer raw
lenient_test sorts.Decimal g raw = is_lenient_decimal raw

-- big numbers are of two sorts
abbrev pub is_big_sort : NumberSort → Bool
is_big_sort sorts.OfGrammar = false
is_big_sort _ = true

abbrev pub kind_of_sort : NumberSort → Scalar
kind_of_sort sorts.BigInteger = scalars.BigInteger
kind_of_sort sorts.Decimal = scalars.BigDecimal
kind_of_sort sorts.OfGrammar = scalars.Long
