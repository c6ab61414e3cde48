-- A generated input is a JSON text of its tree.
use Rattle.std.proofs.Common.{◌≡◌, ◌+◌, ◌∙◌, ℕ, zero, suc, List, [], ◌∷◌, ◌++◌, refl, sym, ap, subst, codes, append_assoc, append-nil, arith}
use Rattle.std.specs.Str.{is_utf8, chars}
use Rattle.std.proofs.lemmas.Str.{IsUtf8-from_is_utf8}
use Rattle.smithy_json_grammar.specs.Ascii.{value_separator, begin_array, end_array, begin_object, end_object}
use Rattle.smithy_json_grammar.specs.Grammar.{IsStringText, IsValue, AreMoreElements, IsJsonText}
use Rattle.smithy_json_grammar.specs.Tree.{Json, array, element, no_members}
use Rattle.smithy_json.proofs.QuotedLemmas.{quoted_is_string}
use Rattle.smithy_generator.specs.Generated.{item_of, number_at, items_to, generated}
use Rattle.smithy_generator.specs.Private.GeneratedTree.{item_tree, items_behind, generated_tree}
use Rattle.smithy_generator.proofs.Items.{item_is_value}
use Rattle.smithy_generator.proofs.Members.{padded, named, is_member, is_object}

-- so many items behind the n-th, each after a comma
unfoldable text_behind : ℕ → ℕ → ℕ → List ℕ
text_behind seed n zero = []
text_behind seed n (suc more) = value_separator ∷ (item_of (number_at seed (suc n)) ++ text_behind seed (suc n) more)

are_more : (seed n more : ℕ) → AreMoreElements (items_behind seed n more) (text_behind seed n more)
unfolding items_behind text_behind
are_more seed n zero = refl
are_more seed n (suc more) =
    let x = number_at seed (suc n) in
    (refl, (item_of x, text_behind seed (suc n) more, refl, padded (IsValue (item_tree x)) (item_of x) (item_is_value x), are_more seed (suc n) more))

items_split : (seed n more m : ℕ) → m ≡ suc n + more → items_to seed m ≡ items_to seed (suc n) ++ text_behind seed (suc n) more
unfolding items_to text_behind
items_split seed n zero m is =
    let same : m ≡ suc n = omega (arith, is) in
    ap (items_to seed) same ∙ sym (append-nil (items_to seed (suc n)))
items_split seed n (suc more) m is =
    items_split seed (suc n) more m (omega (arith, is))
    ∙ append_assoc (items_to seed (suc n)) (value_separator ∷ item_of (number_at seed (suc (suc n)))) (text_behind seed (suc (suc n)) more)

-- the first item and those behind it
first_and_more : (seed more : ℕ) → items_to seed (suc more) ≡ item_of (number_at seed 1) ++ text_behind seed 1 more
unfolding items_to
first_and_more seed more = items_split seed 0 more (suc more) (omega arith)

abbrev between : List ℕ → List ℕ
between items = begin_array ∷ (items ++ end_array ∷ [])

items_are : (seed count : ℕ) → IsValue (array (items_behind seed 0 count)) (between (items_to seed count))
unfolding items_behind items_to
items_are seed zero = ([], refl, tt)
items_are seed (suc more) =
    let x = number_at seed 1 in
    subst (λ items. IsValue (array (element (item_tree x) (items_behind seed 1 more))) (between items)) (sym (first_and_more seed more))
    (item_of x ++ text_behind seed 1 more, refl, (item_of x, text_behind seed 1 more, refl, padded (IsValue (item_tree x)) (item_of x) (item_is_value x), are_more seed 1 more))

items_text : IsStringText (codes "items")
unfolding is_utf8 chars lib.Utf8.encode
items_text = (quoted_is_string (codes "items") (IsUtf8-from_is_utf8 (codes "items") refl)).1

in_one_row : (a items r s : List ℕ) → a ++ items ++ (r ++ s) ≡ ((a ++ (items ++ r)) ++ []) ++ s
in_one_row a items r s = simp (append_assoc, append-nil) refl

whole_bytes : (items : List ℕ) → codes "{\"items\":[" ++ items ++ codes "]}" ≡ begin_object ∷ ((named (codes "items") (between items) ++ []) ++ end_object ∷ [])
whole_bytes items = in_one_row (codes "{\"items\":[") items (codes "]") (codes "}")

pub generated_is_text : (seed count : ℕ) → IsJsonText (generated_tree seed count) (generated seed count)
generated_is_text seed count =
    let items : Json = array (items_behind seed 0 count) in
    let bytes = between (items_to seed count) in
    padded (IsValue (generated_tree seed count)) (generated seed count)
    (is_object (codes "items") items no_members (named (codes "items") bytes) [] (generated seed count)
    (is_member (IsValue items) (codes "items") bytes items_text (padded (IsValue items) bytes (items_are seed count)))
    refl (whole_bytes (items_to seed count)))
