-- A map that is written in part.
use Rattle.std.proofs.Common.{arith, ◌≡◌, ◌≤◌, suc, max, ℕ, List, [], ◌∷◌, ◌++◌, String, Global, length, true, Some, Ok, Err, refl, ◌∙◌, ap, append_assoc}
use Rattle.std.specs.Prelude.{unwrap_or}
use Rattle.std.specs.Option.{option_map_or}
use Rattle.std.proofs.Math.Nat.{le-max_left, le-max_right}
use Rattle.smithy_schema.specs.declared.error.SerdeError.{SerdeError}
use Rattle.smithy_declarations.specs.Table.{IsMap}
use Rattle.smithy_shapes.specs.Site.{Site, kind_at, key_site, value_site, key_of, value_of, nameless_site}
use Rattle.smithy_shapes.specs.Fits.{FitsOr, EntriesFit}
use Rattle.smithy_declarations.specs.Value.{Value, text, map, MapEntries, no_map_entries, map_entry, nesting, entries_nesting}
use Rattle.smithy_schema.specs.Writing.{Event, Writer, write, run, entry_count, entry_events, begin_map, end_map, scalar_of}
use Rattle.smithy_shapes.specs.Lemmas.Kinds.{map_kind}
use Rattle.smithy_shapes.proofs.SiteLemmas.{value_site_at, entry_fit}
use Rattle.smithy_schema.proofs.WritingLemmas.{call_made, call_refused, child_written, child_refused}
use Rattle.smithy_value.specs.Tree.{entry_views, keyed_views}
use Rattle.smithy_schema.proofs.WrittenLists.{fits_or_null}

-- the calls for what is left of a map
abbrev pub map_rest : Site → MapEntries → List Event
map_rest site es = entry_events (key_of site) (value_of site) es ++ end_map ∷ []

-- a map has as many entries as are told, where a map of the library keeps them
pub told : {T : Type 0} (view : T → Value) (es : List (String Global × T)) → length es ≡ entry_count (entry_views view es)
told view [] = refl
told view (e ∷ es) = ap suc (told view es)

-- and where trees are kept with their keys
pub told_keyed : {T : Type 0} (view : T → Value) (key : T → List ℕ) (xs : List T) → length xs ≡ entry_count (keyed_views view key xs)
told_keyed view key [] = refl
told_keyed view key (x ∷ xs) = ap suc (told_keyed view key xs)

pub map_begun : {S : Type 0} (after : Writer S) (site : Site) (es : MapEntries) (n : ℕ) (s t : S)
    → n ≡ entry_count es → after (begin_map site (Some n)) s ≡ Ok t → write after site (map es) s ≡ run after (map_rest site es) t
map_begun after site es n s t told begun = call_made after _ _ s t (rw (← told) begun)

pub map_refused : {S : Type 0} (after : Writer S) (site : Site) (es : MapEntries) (n : ℕ) (s : S) (e : SerdeError)
    → n ≡ entry_count es → after (begin_map site (Some n)) s ≡ Err e → write after site (map es) s ≡ Err e
map_refused after site es n s e told refused = call_refused after _ _ s e (rw (← told) refused)

-- the schemas that are handed to keys and to values
pub key_site_is : (site key : Site) → Some key ≡ key_site site → key ≡ key_of site
key_site_is site key found = ap (λ k. unwrap_or k site) found

pub value_site_is : (site value child : Site) → Some value ≡ value_site site → child ≡ nameless_site value → child ≡ value_of site
value_site_is site value child found is = is ∙ ap (λ v. option_map_or nameless_site v site) found

-- an entry was written: its key, and then its value
pub entry_written : {S : Type 0} (after : Writer S) (site : Site) (key : List ℕ) (v : Value) (es rest : MapEntries) (s s1 s2 : S)
    → es ≡ map_entry key v rest → after (scalar_of (key_of site) (text key)) s ≡ Ok s1 → write after (value_of site) v s1 ≡ Ok s2
    → run after (map_rest site es) s ≡ run after (map_rest site rest) s2
entry_written after site key v es rest s s1 s2 is begun written =
    rw is (call_made after _ _ s s1 begun ∙ rw append_assoc (child_written after _ _ s1 s2 written))

pub key_refused : {S : Type 0} (after : Writer S) (site : Site) (key : List ℕ) (v : Value) (es rest : MapEntries) (s : S) (e : SerdeError)
    → es ≡ map_entry key v rest → after (scalar_of (key_of site) (text key)) s ≡ Err e → run after (map_rest site es) s ≡ Err e
key_refused after site key v es rest s e is refused = rw is (call_refused after _ _ s e refused)

pub value_refused : {S : Type 0} (after : Writer S) (site : Site) (key : List ℕ) (v : Value) (es rest : MapEntries) (s s1 : S) (e : SerdeError)
    → es ≡ map_entry key v rest → after (scalar_of (key_of site) (text key)) s ≡ Ok s1 → write after (value_of site) v s1 ≡ Err e
    → run after (map_rest site es) s ≡ Err e
value_refused after site key v es rest s s1 e is begun refused =
    rw is (call_made after _ _ s s1 begun ∙ rw append_assoc (child_refused after _ _ s1 e refused))

pub rest_fits : (site : Site) (key : List ℕ) (v : Value) (es rest : MapEntries) → es ≡ map_entry key v rest
    → EntriesFit site.table (kind_at site) es → EntriesFit site.table (kind_at site) rest
rest_fits site key v es rest is fits = (rw is at fits).2

-- the next value fits its place
pub value_fits : (site value child : Site) (key : List ℕ) (v : Value) (es rest : MapEntries) → IsMap (kind_at site) → Some value ≡ value_site site → child ≡ nameless_site value
    → es ≡ map_entry key v rest → EntriesFit site.table (kind_at site) es → FitsOr child.table child.place true v
value_fits site value child key v es rest is found nameless next fits =
    let k = map_kind (kind_at site) is in
    let first : EntriesFit site.table (kind_at site) (map_entry key v rest) = rw next at fits in
    let fit = entry_fit site.table k.0 key v rest (rw k.1 at first) in
    rw (value_site_is site value child found nameless, value_site_at site.table site.place site.view k.0 k.1) (fits_or_null _ _ _ _ fit)

-- the next entry, by what its value is at its root
pub next_entry : (es rest : MapEntries) (key : List ℕ) (v w : Value) → es ≡ map_entry key v rest → v ≡ w → es ≡ map_entry key w rest
next_entry es rest key v w is seen = is ∙ ap (λ u. map_entry key u rest) seen

-- how many entries are left
abbrev pub count : MapEntries → ℕ
count no_map_entries = 0
count (map_entry key v es) = suc (count es)

-- the first of what is left nests no deeper than all
pub entry_nests : (all es : MapEntries) (key : List ℕ) (v : Value) (rest : MapEntries) → es ≡ map_entry key v rest → entries_nesting es ≤ entries_nesting all
    → (nesting v ≤ entries_nesting all) × (entries_nesting rest ≤ entries_nesting all)
entry_nests all es key v rest next deep =
    let most : max (nesting v) (entries_nesting rest) ≤ entries_nesting all = rw next at deep in
    let left = le-max_left (nesting v) (entries_nesting rest) in
    let right = le-max_right (nesting v) (entries_nesting rest) in
    (omega (arith, left, most), omega (arith, right, most))
