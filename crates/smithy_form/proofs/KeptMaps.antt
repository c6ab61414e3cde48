-- Maps of the library that are filled from their first entry to their last.
use Rattle.std.proofs.Common.{◌≡◌, ◌<◌, ℕ, suc, List, [], ◌∷◌, String, Global, length, true, Option, Some, None, string_bytes, refl, ◌∙◌, ap, arith}
use Rattle.std.specs.declared.cmp.Ordering.{Ordering}
use Rattle.std.specs.declared.cmp.Ordering.TheVariants.{Less, Equal, Greater}
use Rattle.std.specs.Ordering.{MatchOrdering, nat_cmp, match_ordering, is_lt}
use Rattle.std.specs.BTreeMap.{insert_entry}
use Rattle.std.specs.Cmp.Lexicographic.{slice_cmp}
use Rattle.std.proofs.lemmas.Cmp.{ranked, nat_list_cmp_total}
use Rattle.smithy_declarations.specs.Value.{Value, MapEntries, no_map_entries, map_entry}
use Rattle.smithy_schema.specs.Writing.{entry_count}
use Rattle.smithy_shapes.specs.Fits.{KeysAscend, KeysAscendAbove}
use Rattle.smithy_shapes.specs.Lemmas.AscendingKeys.{turned_back}
use Rattle.smithy_value.specs.declared.value.Value as kept
use Rattle.smithy_value.specs.View.{view, view_entries, view_members}
use Rattle.smithy_form.specs.Private.Reading.{and_member, and_entry, last_key, comes_after}
use Rattle.smithy_form.proofs.HalfMembers.{AscendTo}

-- ---- members

behind : (n k : ℕ) → k < n → nat_cmp n k ≡ Greater
behind n k below = by (nat_cmp n k) (ranked n k (nat_cmp n k) refl)
  where
    by : (o : Ordering) → MatchOrdering o (n < k) (n ≡ k) (k < n) → o ≡ Greater
    by Less h = absurd (omega (arith, h, below))
    by Equal h = absurd (omega (arith, h, below))
    by Greater h = refl

-- a member behind all others is the last
pub last_member : (least n : ℕ) (v : kept.Value) (ms : List (ℕ × kept.Value)) → AscendTo least n (view_members ms)
    → view_members (insert_entry nat_cmp ms n v) ≡ and_member (view_members ms) n (view v)
last_member least n v [] h = refl
last_member least n v (m ∷ ms) h =
    let more = last_member (suc m.0) n v ms h.2 in
    ap (λ o. view_members (match_ordering o ((n, v) ∷ m ∷ ms) ((m.0, v) ∷ ms) (m ∷ insert_entry nat_cmp ms n v))) (behind n m.0 h.1) ∙ rw more refl

-- ---- keys

less_is : (o : Ordering) → is_lt o ≡ true → o ≡ Less
less_is Less h = refl
less_is Equal h = cc
less_is Greater h = cc

is_less : (o : Ordering) → o ≡ Less → is_lt o ≡ true
is_less o h = ap is_lt h

above_last : (at key : List ℕ) (v : Value) (es : MapEntries) → KeysAscendAbove at es → comes_after (last_key (Some at) es) key ≡ true → KeysAscendAbove at (and_entry es key v)
above_last at key v no_map_entries h after = (less_is (slice_cmp nat_cmp at key) after, tt)
above_last at key v (map_entry k w es) h after = (h.0, above_last k key v es h.1 after)

-- keys ascend with one more behind the last
pub ascend_more : (key : List ℕ) (v : Value) (es : MapEntries) → KeysAscend es → comes_after (last_key None es) key ≡ true → KeysAscend (and_entry es key v)
ascend_more key v no_map_entries h after = tt
ascend_more key v (map_entry k w es) h after = above_last k key v es h after

last_above : (at key : List ℕ) (v : Value) (es : MapEntries) → KeysAscendAbove at (and_entry es key v) → comes_after (last_key (Some at) es) key ≡ true
last_above at key v no_map_entries h = is_less (slice_cmp nat_cmp at key) h.0
last_above at key v (map_entry k w es) h = last_above k key v es h.1

-- and the other way round
pub comes_last : (key : List ℕ) (v : Value) (es : MapEntries) → KeysAscend (and_entry es key v) → comes_after (last_key None es) key ≡ true
comes_last key v no_map_entries h = refl
comes_last key v (map_entry k w es) h = last_above k key v es h

pub last_is : (before : Option (List ℕ)) (key : List ℕ) (v : Value) (es : MapEntries) → last_key before (and_entry es key v) ≡ Some key
last_is before key v no_map_entries = refl
last_is before key v (map_entry k w es) = last_is (Some k) key v es

-- each key is below what comes behind the last
below_last : (at key : List ℕ) (es : MapEntries) → KeysAscendAbove at es → comes_after (last_key (Some at) es) key ≡ true → slice_cmp nat_cmp at key ≡ Less
below_last at key no_map_entries h after = less_is (slice_cmp nat_cmp at key) after
below_last at key (map_entry k w es) h after = nat_list_cmp_total.trans at k key h.0 (below_last k key es h.1 after)

-- the order of keys
abbrev pub key_order : String Global → String Global → Ordering
key_order x y = slice_cmp nat_cmp (string_bytes x) (string_bytes y)

entry_behind : (at : List ℕ) (key : String Global) (v : kept.Value) (es : List (String Global × kept.Value)) → KeysAscendAbove at (view_entries es)
    → comes_after (last_key (Some at) (view_entries es)) (string_bytes key) ≡ true → view_entries (insert_entry key_order es key v) ≡ and_entry (view_entries es) (string_bytes key) (view v)
entry_behind at key v [] h after = refl
entry_behind at key v (e ∷ es) h after =
    let more = entry_behind (string_bytes e.0) key v es h.1 after in
    let below = below_last (string_bytes e.0) (string_bytes key) (view_entries es) h.1 after in
    ap (λ o. view_entries (match_ordering o ((key, v) ∷ e ∷ es) ((e.0, v) ∷ es) (e ∷ insert_entry key_order es key v))) (turned_back (string_bytes e.0) (string_bytes key) below)
    ∙ rw more refl

-- an entry whose key is above all others is the last
pub last_entry : (key : String Global) (v : kept.Value) (es : List (String Global × kept.Value)) → KeysAscend (view_entries es)
    → comes_after (last_key None (view_entries es)) (string_bytes key) ≡ true → view_entries (insert_entry key_order es key v) ≡ and_entry (view_entries es) (string_bytes key) (view v)
last_entry key v [] h after = refl
last_entry key v (e ∷ es) h after =
    let more = entry_behind (string_bytes e.0) key v es h after in
    let below = below_last (string_bytes e.0) (string_bytes key) (view_entries es) h after in
    ap (λ o. view_entries (match_ordering o ((key, v) ∷ e ∷ es) ((e.0, v) ∷ es) (e ∷ insert_entry key_order es key v))) (turned_back (string_bytes e.0) (string_bytes key) below)
    ∙ rw more refl

pub counted : (es : List (String Global × kept.Value)) → entry_count (view_entries es) ≡ length es
counted [] = refl
counted (e ∷ es) = ap suc (counted es)
