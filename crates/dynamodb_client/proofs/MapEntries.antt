-- An entry that is put into a map of values at its key.
use Rattle.std.proofs.Common.{◌≡◌, suc, length, List, [], ◌∷◌, String, Global, string_bytes, Ordering, Less, Equal, Greater, refl, ap}
use Rattle.std.specs.BTreeMap.{insert_entry}
use Rattle.std.specs.Ordering.{nat_cmp, match_ordering}
use Rattle.std.specs.Cmp.Lexicographic.{slice_cmp}
use Rattle.smithy_declarations.specs.Value.{map_entry, put_entry}
use Rattle.smithy_schema.specs.Writing.{entry_count}
use Rattle.dynamodb_client.specs.Attributes.{attribute_value, attribute_entries}
use Rattle.dynamodb_client.specs.declared.attribute_value.AttributeValue.{AttributeValue}

abbrev key_order : String Global → String Global → Ordering
key_order x y = slice_cmp nat_cmp (string_bytes x) (string_bytes y)

put_by : (o : Ordering) (e : String Global × AttributeValue) (es : List (String Global × AttributeValue)) (key : String Global) (v : AttributeValue)
    → attribute_entries (insert_entry key_order es key v) ≡ put_entry (string_bytes key) (attribute_value v) (attribute_entries es)
    → attribute_entries (match_ordering o ((key, v) ∷ e ∷ es) ((e.0, v) ∷ es) (e ∷ insert_entry key_order es key v))
    ≡ match_ordering o (map_entry (string_bytes key) (attribute_value v) (attribute_entries (e ∷ es))) (map_entry (string_bytes e.0) (attribute_value v) (attribute_entries es)) (map_entry (string_bytes e.0) (attribute_value e.1) (put_entry (string_bytes key) (attribute_value v) (attribute_entries es)))
put_by Less e es key v h = refl
put_by Equal e es key v h = refl
put_by Greater e es key v h = ap (map_entry (string_bytes e.0) (attribute_value e.1)) h

pub entry_put : (es : List (String Global × AttributeValue)) (key : String Global) (v : AttributeValue) → attribute_entries (insert_entry key_order es key v) ≡ put_entry (string_bytes key) (attribute_value v) (attribute_entries es)
entry_put [] key v = refl
entry_put (e ∷ es) key v = put_by (key_order key e.0) e es key v (entry_put es key v)

-- a map is told as long as it is
pub counts : (es : List (String Global × AttributeValue)) → length es ≡ entry_count (attribute_entries es)
counts [] = refl
counts (e ∷ es) = ap suc (counts es)
