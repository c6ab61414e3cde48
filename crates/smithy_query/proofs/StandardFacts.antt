-- Texts, paths and forms, and what is read from a form.
use Rattle.std.proofs.Common.{◌≡◌, [], ◌∷◌, true, false, codes, refl}
use Rattle.smithy_query.specs.Percent.{encoded}
use Rattle.smithy_query.specs.Form.{form}
use Rattle.smithy_query.specs.Split.{pairs_of}
use Rattle.smithy_query.specs.Writer.{further, element_path, entry_path, empty_text}
use Rattle.smithy_query.proofs.OnLiterals.{smithy_query_on_literals}

-- ---- texts

pub unreserved_bytes_stay : encoded (codes "azAZ09-_.~") ≡ codes "azAZ09-_.~"
unfolding smithy_query_on_literals
unreserved_bytes_stay = refl

-- é in UTF-8, a control and a byte behind ASCII
pub other_bytes_are_escaped : encoded (0xc3 ∷ 0xa9 ∷ 0x0a ∷ 0x7f ∷ codes "+%/: ") ≡ codes "%C3%A9%0A%7F%2B%25%2F%3A%20"
unfolding smithy_query_on_literals
other_bytes_are_escaped = refl

-- ---- paths

pub an_element : further (codes "ItemList") (element_path false (codes "item") 1) ≡ codes "ItemList.item.1"
unfolding smithy_query_on_literals
an_element = refl

pub a_flat_element : further (codes "x") (element_path true (codes "item") 12) ≡ codes "x.12"
unfolding smithy_query_on_literals
a_flat_element = refl

pub a_key : further (codes "Tags") (entry_path false 1 (codes "key")) ≡ codes "Tags.entry.1.key"
unfolding smithy_query_on_literals
a_key = refl

pub a_flat_value : further (codes "Tags") (entry_path true 1 (codes "value")) ≡ codes "Tags.1.value"
unfolding smithy_query_on_literals
a_flat_value = refl

pub an_empty_list : empty_text (codes "l") 1 ≡ codes "&l="
unfolding smithy_query_on_literals
an_empty_list = refl

-- ---- forms

pub a_form : form (codes "Some Action") (codes "1 2")
    (record { path = codes "ItemList.item.1"; text = codes "foo" } ∷ record { path = codes "Tags.1.key"; text = codes "bar" }
    ∷ record { path = codes "Tags.1.value"; text = codes "Bar" } ∷ [])
    ≡ codes "Action=Some%20Action&Version=1%202&ItemList.item.1=foo&Tags.1.key=bar&Tags.1.value=Bar"
unfolding smithy_query_on_literals
a_form = refl

pub cut_at_the_first_equals : pairs_of (codes "Action=a%3Db&x=1=2&y") ≡ (codes "Action", codes "a=b") ∷ (codes "x", codes "1=2") ∷ (codes "y", []) ∷ []
unfolding smithy_query_on_literals
cut_at_the_first_equals = refl
