-- An error body in CBOR, pair by pair.
use Rattle.std.specs.Prelude.{◌≡◌, ℕ, List, Bool, true, false, Option, Some, None, if◌then◌else◌}
use Rattle.cbor_item.specs.Item.{Item, Pairs}
use Rattle.cbor_item.specs.WellFormed.{IsItemAt}
use Rattle.smithy_cbor_values.specs.Standing.{mark_with}
use Rattle.smithy_cbor_values.specs.Private.MapPlaces.{PairsLie}
use Rattle.smithy_error_bodies.specs.Said.{Said, is_type, is_message, first_of}
use Rattle.smithy_error_bodies.specs.CborErrors.{is_key, is_under, text_of, is_readable, is_pair, are_pairs, last_under}
use Rattle.smithy_error_bodies.specs.declared.cbor.Key.{Key}
use Rattle.smithy_error_bodies.specs.declared.cbor.Key.TheVariants.{Kind, Message, Other}

-- which key a text is, and an item
abbrev pub key_of : List ℕ → Key
key_of text = if is_type text then Kind else if is_message text then Message else Other

abbrev pub key_of_item : Item → Key
key_of_item k = if is_under is_type k then Kind else if is_under is_message k then Message else Other

-- what is kept of a value under a key, and whether it can be read
abbrev pub kept : Key → Item → Option (List ℕ)
kept Other v = None
kept _ v = text_of v

abbrev pub fits : Key → Item → Bool
fits Other v = true
fits _ v = is_readable v

-- with a text, if there is one, under a key
abbrev pub with_text : Key → Option (List ℕ) → Said → Said
with_text Kind text s = record s { code = first_of text s.code }
with_text Message text s = record s { message = first_of text s.message }
with_text Other text s = s

abbrev pub with_pair : Item → Item → Said → Said
with_pair k v s = with_text (key_of_item k) (kept (key_of_item k) v) s

-- ---- what stands at a place

abbrev pub KeyAt : Key → List ℕ → ℕ → ℕ → Type 0
KeyAt key input at end = (k : Item) × IsItemAt k input at end × (is_key k ≡ true) × (key ≡ key_of_item k)

abbrev pub NoKey : List ℕ → ℕ → Type 0
NoKey input at = (k : Item) (end : ℕ) → IsItemAt k input at end → is_key k ≡ false

abbrev pub ValueAt : Key → Option (List ℕ) → List ℕ → ℕ → ℕ → Type 0
ValueAt key text input at end = (v : Item) × IsItemAt v input at end × (fits key v ≡ true) × (text ≡ kept key v)

abbrev pub NoValue : Key → List ℕ → ℕ → Type 0
NoValue key input at = (v : Item) (end : ℕ) → IsItemAt v input at end → fits key v ≡ false

abbrev pub PairAt : Said → Said → List ℕ → ℕ → ℕ → Type 0
PairAt old new input at end =
    (k v : Item) × (c : ℕ) × IsItemAt k input at c × IsItemAt v input c end × (is_pair k v ≡ true) × (new ≡ with_pair k v old)

abbrev pub NoPair : List ℕ → ℕ → Type 0
NoPair input at = (k v : Item) (c end : ℕ) → IsItemAt k input at c → IsItemAt v input c end → is_pair k v ≡ false

-- ---- the rest of the map

abbrev pub pairs_say : Said → Pairs → Option Said
pairs_say s ps =
    if are_pairs ps then Some (record { code = first_of (last_under is_type ps) s.code; message = first_of (last_under is_message ps) s.message })
    else None

-- such an answer of the keys and values that come with a mark, or none of whichever come
abbrev pub Told : Option ℕ → Said → List ℕ → ℕ → Option Said → Type 0
Told due s input at (Some said) = (ps : Pairs) × (end : ℕ) × PairsLie ps (mark_with due) input at end × (pairs_say s ps ≡ Some said)
Told due s input at None = (ps : Pairs) (end : ℕ) → PairsLie ps (mark_with due) input at end → pairs_say s ps ≡ None
