-- A generated input spells its value.
use Rattle.std.proofs.Common.{◌≡◌, ◌<◌, ◌*◌, ◌/◌, ◌%◌, ◌∙◌, ℕ, zero, suc, List, [], ◌∷◌, ◌++◌, Option, Some, None, true, false, refl, sym, ap, inl, pos, codes, decimal, option_map, append_assoc, append-nil, arith}
use Rattle.std.proofs.lemmas.Bool.Decides.{nat_tests}
use Rattle.smithy_declarations.specs.declared.shape_type.Scalar.{Scalar}
use Rattle.smithy_declarations.specs.declared.shape_type.Scalar.TheVariants.{Long, String, Timestamp}
use Rattle.smithy_declarations.specs.Table.{kind_of, scalar, shape_place}
use Rattle.smithy_shapes.specs.Container.{Entry, container_of, elements_from}
use Rattle.smithy_declarations.specs.declared.shape_type.TimestampFormat.TheVariants.{EpochSeconds}
use Rattle.smithy_shapes.specs.Limits.{kept}
use Rattle.smithy_declarations.specs.Value.{whole, text, instant, Value, scalar_value, null_element, list, values_of}
use Rattle.smithy_instants.specs.Instant.{nanos_per_second, is_instant}
use Rattle.smithy_instants.specs.WrittenDate.{epoch_text, fraction_text}
use Rattle.smithy_instants.proofs.EpochRoundTrip.{not_negative}
use Rattle.smithy_texts.specs.Ranges.{fits_signed}
use Rattle.smithy_json_grammar.specs.Number.{whole_number}
use Rattle.smithy_json_grammar.specs.Unescape.{unescaped}
use Rattle.smithy_json.proofs.DecimalLemmas.{decimal_writes}
use Rattle.smithy_json.proofs.QuotedLemmas.{unescaped_of_escaped}
use Rattle.smithy_json_values.specs.Codec.{strict_settings}
use Rattle.smithy_json_values.specs.Settings.{Settings}
use Rattle.smithy_json_values.specs.Meaning.{element_nodes, rules_of, json_meaning}
use Rattle.smithy_json_values.specs.Scalar.{JsonScalar, a_number, a_string}
use Rattle.smithy_json_values.specs.Spelling.{json_spells}
use Rattle.smithy_json_codec.proofs.InstantTexts.{instant_means}
use Rattle.smithy_wire.specs.Meaning.{leaf_meaning, entries}
use Rattle.smithy_wire.specs.Node.{as_array}
use Rattle.smithy_wire.specs.Rules.{settled}
use Rattle.std.specs.Prelude.{option_and_then}
use Rattle.smithy_generator.specs.Generated.{number_at, generated}
use Rattle.smithy_generator.specs.GeneratedShapes.{generated_shapes, generated_root, item_value, item_values, generated_value}
use Rattle.smithy_generator.specs.Private.GeneratedTree.{item_tree, items_behind, generated_tree}
use Rattle.smithy_generator.proofs.PlainTexts.{IsPlainText, decimal_is_plain, lettered_is_plain}
use Rattle.smithy_generator.proofs.Texts.{generated_is_text}

abbrev strict : Settings
strict = strict_settings false

-- what a scalar means at a place without a time form
abbrev means : Scalar → JsonScalar → Option Value
means s x = leaf_meaning (rules_of strict) (scalar s) None x

-- an entry under a name, at a position
abbrev entry : List ℕ → Option ℕ → Option Value → Entry
entry name position meaning =
    record { key = Some name; position = position; meaning = meaning; is_absent = false; is_skippable = true; is_null = false }

-- an item, by what its scalars mean
abbrev item_by : (id name at digit : Option Value) → Option Value
item_by id name at digit =
    container_of (kind_of generated_shapes (shape_place 1))
    (entry (codes "id") (Some 0) id ∷ entry (codes "name") (Some 1) name ∷ entry (codes "at") (Some 2) at
    ∷ entry (codes "tags") (Some 3) (container_of (kind_of generated_shapes (shape_place 0))
    (entry (codes "b") None (Some (scalar_value (text (codes "x")))) ∷ entry (codes "a") None digit ∷ [])) ∷ [])

by_its_scalars : (x : ℕ) → json_meaning strict generated_shapes (shape_place 1) 2 (item_tree x)
    ≡ item_by (means Long (a_number (decimal (x % 1000)))) (means String (a_string (codes "n" ++ decimal (x / 1000 % 1000))))
    (means Timestamp (a_number (decimal (x / 1000000 % 1000000)))) (means String (a_string (decimal (x % 1000 % 10))))
by_its_scalars x = refl

number_means : (n : ℕ) → n < 1000 → means Long (a_number (decimal n)) ≡ Some (scalar_value (whole (pos n)))
number_means n small =
    let wide : fits_signed 128 (pos n) ≡ true = grind (arith, nat_tests) in
    let long : fits_signed 64 (pos n) ≡ true = grind (arith, nat_tests) in
    let writes : whole_number (decimal n) ≡ Some (pos n) = decimal_writes (pos n) wide in
    rw (writes, long) refl

text_means : (t : List ℕ) → IsPlainText t → means String (a_string t) ≡ Some (scalar_value (text t))
text_means t plain =
    let is : unescaped t ≡ Some t = ap unescaped (sym plain.stays) ∙ unescaped_of_escaped t in
    rw is refl

-- so many seconds are written without a fraction
seconds_text : (n : ℕ) → epoch_text (pos (n * nanos_per_second)) ≡ decimal n
unfolding fraction_text
seconds_text n =
    let seconds : n * nanos_per_second / nanos_per_second ≡ n = omega arith in
    let rest : n * nanos_per_second % nanos_per_second ≡ 0 = omega arith in
    rw (not_negative (n * nanos_per_second), seconds, rest) (append-nil (decimal n))

seconds_are_instant : (n : ℕ) → n < 1000000 → is_instant (pos (n * nanos_per_second)) ≡ true
seconds_are_instant n small =
    let seconds : n * nanos_per_second / nanos_per_second ≡ n = omega arith in
    let long : fits_signed 64 (pos n) ≡ true = grind (arith, nat_tests) in
    rw seconds long

seconds_mean : (n : ℕ) → n < 1000000 → means Timestamp (a_number (decimal n)) ≡ Some (scalar_value (instant (pos (n * nanos_per_second))))
seconds_mean n small =
    ap (λ t. means Timestamp (a_number t)) (sym (seconds_text n))
    ∙ ap (settled kept null_element) (instant_means strict None EpochSeconds refl refl (pos (n * nanos_per_second)) (seconds_are_instant n small) refl)

item_means : (x : ℕ) → json_meaning strict generated_shapes (shape_place 1) 2 (item_tree x) ≡ Some (item_value x)
item_means x =
    let i = x % 1000 in
    let k = x / 1000 % 1000 in
    let t = x / 1000000 % 1000000 in
    let d = x % 1000 % 10 in
    let name = means String (a_string (codes "n" ++ decimal k)) in
    let at = means Timestamp (a_number (decimal t)) in
    let digit = means String (a_string (decimal d)) in
    by_its_scalars x
    ∙ ap (λ o. item_by o name at digit) (number_means i (omega arith))
    ∙ ap (λ o. item_by (Some (scalar_value (whole (pos i)))) o at digit) (text_means (codes "n" ++ decimal k) (lettered_is_plain 0x6e k (omega arith) refl (omega arith)))
    ∙ ap (λ o. item_by (Some (scalar_value (whole (pos i)))) (Some (scalar_value (text (codes "n" ++ decimal k)))) o digit) (seconds_mean t (omega arith))
    ∙ ap (λ o. item_by (Some (scalar_value (whole (pos i)))) (Some (scalar_value (text (codes "n" ++ decimal k)))) (Some (scalar_value (instant (pos (t * nanos_per_second))))) o)
    (text_means (decimal d) (decimal_is_plain d (omega arith)))

-- the entries of the list
abbrev items : ℕ → ℕ → ℕ → List Entry
items seed n more = entries (rules_of strict) generated_shapes (shape_place 2) as_array 2 (element_nodes (items_behind seed n more))

items_mean : (seed n more : ℕ) (done : List Value) → elements_from false done (items seed n more) ≡ Some (done ++ item_values seed n more)
unfolding items_behind item_values
items_mean seed n zero done = ap Some (sym (append-nil done))
items_mean seed n (suc more) done =
    let x = number_at seed (suc n) in
    ap (λ o. option_and_then (λ after. elements_from false after (items seed (suc n) more)) (option_map (λ v. done ++ v ∷ []) o)) (item_means x)
    ∙ items_mean seed (suc n) more (done ++ item_value x ∷ [])
    ∙ ap Some (append_assoc done (item_value x ∷ []) (item_values seed (suc n) more))

-- the input, by what its list means
abbrev input_by : Option (List Value) → Option Value
input_by items =
    container_of (kind_of generated_shapes (shape_place generated_root))
    (entry (codes "items") (Some 0) (option_map (λ vs. list (values_of vs)) items) ∷ [])

generated_means : (seed count : ℕ) → json_meaning strict generated_shapes (shape_place generated_root) 0 (generated_tree seed count) ≡ Some (generated_value seed count)
generated_means seed count =
    let by_its_items : json_meaning strict generated_shapes (shape_place generated_root) 0 (generated_tree seed count) ≡ input_by (elements_from false [] (items seed 0 count)) = refl in
    by_its_items ∙ ap input_by (items_mean seed 0 count [])

pub generated_spells : (seed count : ℕ) → json_spells strict generated_shapes (shape_place generated_root) (generated seed count) (generated_value seed count)
generated_spells seed count = inl (generated_tree seed count, generated_is_text seed count, generated_means seed count)
