-- What a write to the entries, the members and the elements does to what they stand for.
use Rattle.std.proofs.Common.{◌≡◌, ℕ, List, [], ◌∷◌, ◌++◌, map, String, Global, string_bytes, Ordering, Less, Equal, Greater, refl, ap}
use Rattle.std.specs.BTreeMap.{insert_entry}
use Rattle.std.specs.Ordering.{nat_cmp, match_ordering}
use Rattle.std.specs.Cmp.Lexicographic.{slice_cmp}
use Rattle.smithy_declarations.specs.Value.{Value, put_member, member_value, put_entry, map_entry}
use Rattle.smithy_value.specs.Tree.{entry_views, member_views}

member_views-at : {T : Type 0} (view : T → Value) (o : Ordering) (e : ℕ × T) (es : List (ℕ × T)) (n : ℕ) (v : T) → member_views view (insert_entry nat_cmp es n v) ≡ put_member n (view v) (member_views view es)
    → member_views view (match_ordering o ((n, v) ∷ e ∷ es) ((e.0, v) ∷ es) (e ∷ insert_entry nat_cmp es n v))
    ≡ match_ordering o (member_value n (view v) (member_views view (e ∷ es))) (member_value e.0 (view v) (member_views view es)) (member_value e.0 (view e.1) (put_member n (view v) (member_views view es)))
member_views-at view Less e es n v h = refl
member_views-at view Equal e es n v h = refl
member_views-at view Greater e es n v h = ap (member_value e.0 (view e.1)) h

-- a write to entries sets that member
pub member_views-insert : {T : Type 0} (view : T → Value) (es : List (ℕ × T)) (n : ℕ) (v : T) → member_views view (insert_entry nat_cmp es n v) ≡ put_member n (view v) (member_views view es)
member_views-insert view [] n v = refl
member_views-insert view (e ∷ es) n v = member_views-at view (nat_cmp n e.0) e es n v (member_views-insert view es n v)

-- the order of keys
abbrev pub key_order : String Global → String Global → Ordering
key_order x y = slice_cmp nat_cmp (string_bytes x) (string_bytes y)

entry_views-at : {T : Type 0} (view : T → Value) (o : Ordering) (e : String Global × T) (es : List (String Global × T)) (key : String Global) (v : T)
    → entry_views view (insert_entry key_order es key v) ≡ put_entry (string_bytes key) (view v) (entry_views view es)
    → entry_views view (match_ordering o ((key, v) ∷ e ∷ es) ((e.0, v) ∷ es) (e ∷ insert_entry key_order es key v))
    ≡ match_ordering o (map_entry (string_bytes key) (view v) (entry_views view (e ∷ es))) (map_entry (string_bytes e.0) (view v) (entry_views view es)) (map_entry (string_bytes e.0) (view e.1) (put_entry (string_bytes key) (view v) (entry_views view es)))
entry_views-at view Less e es key v h = refl
entry_views-at view Equal e es key v h = refl
entry_views-at view Greater e es key v h = ap (map_entry (string_bytes e.0) (view e.1)) h

-- a write to entries puts that value at its key
pub entry_views-insert : {T : Type 0} (view : T → Value) (es : List (String Global × T)) (key : String Global) (v : T)
    → entry_views view (insert_entry key_order es key v) ≡ put_entry (string_bytes key) (view v) (entry_views view es)
entry_views-insert view [] key v = refl
entry_views-insert view (e ∷ es) key v = entry_views-at view (key_order key e.0) e es key v (entry_views-insert view es key v)

pub map-push : {T : Type 0} (f : T → Value) (vs : List T) (v : T) → map f (vs ++ v ∷ []) ≡ map f vs ++ f v ∷ []
map-push f [] v = refl
map-push f (w ∷ ws) v = ap (λ us. f w ∷ us) (map-push f ws v)
