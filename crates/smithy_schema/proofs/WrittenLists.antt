-- A list that is written in part.
use Rattle.std.proofs.Common.{arith, ◌≡◌, map, max, ◌<◌, ◌≤◌, ◌+◌, ℕ, ℤ, suc, List, [], ◌∷◌, ◌++◌, Some, None, option_map, Ok, Err, Bool, true, length, drop, get_or, refl, ◌∙◌, ap, append_assoc, add-one, drop-cons}
use Rattle.std.specs.Option.{option_map_or}
use Rattle.std.proofs.Math.Nat.{le-max_left, le-max_right}
use Rattle.smithy_schema.specs.declared.error.SerdeError.{SerdeError}
use Rattle.smithy_declarations.specs.declared.place.Place.{Place}
use Rattle.smithy_declarations.specs.Table.{Table, Kind, list_of, list_shape_of, place_in}
use Rattle.smithy_shapes.specs.Site.{Site, kind_at, element_site, nameless_site, site_of_element, element_of}
use Rattle.smithy_shapes.specs.Fits.{FitsOr, ElementsFit}
use Rattle.smithy_declarations.specs.Value.{Value, scalar_value, list, map as mapped, structure, union, null_element, document_value, values_of, nesting, elements_nesting}
use Rattle.smithy_schema.specs.Writing.{Event, Writer, write, run, count_of, element_events, begin_list, end_list}
use Rattle.smithy_schema.proofs.WritingLemmas.{call_made, call_refused, child_written, child_refused}

-- the calls for what is left of a list
abbrev pub list_rest : Site → List Value → List Event
list_rest site vs = element_events (element_of site) (values_of vs) ++ end_list ∷ []

pub count-elements : (vs : List Value) → count_of (values_of vs) ≡ length vs
count-elements [] = refl
count-elements (v ∷ vs) = ap suc (count-elements vs)

pub list_begun : {S : Type 0} (after : Writer S) (site : Site) (vs : List Value) (n : ℕ) (s t : S)
    → n ≡ length vs → after (begin_list site (Some n)) s ≡ Ok t
    → write after site (list (values_of vs)) s ≡ run after (list_rest site vs) t
list_begun after site vs n s t told begun = call_made after _ _ s t (rw (count-elements vs, ← told) begun)

pub list_refused : {S : Type 0} (after : Writer S) (site : Site) (vs : List Value) (n : ℕ) (s : S) (e : SerdeError)
    → n ≡ length vs → after (begin_list site (Some n)) s ≡ Err e
    → write after site (list (values_of vs)) s ≡ Err e
list_refused after site vs n s e told refused = call_refused after _ _ s e (rw (count-elements vs, ← told) refused)

-- a tree's list is told as long as it is
pub told : {T : Type 0} (f : T → Value) (vs : List T) → length vs ≡ length (map f vs)
told f [] = refl
told f (v ∷ vs) = ap suc (told f vs)

-- the next element, by what it is at its root
pub next_element : {T : Type 0} (f : T → Value) (vs : List T) (i : ℕ) (v : T) (w : Value) → i < length vs → v ≡ get_or vs i v → f v ≡ w → map f (drop i vs) ≡ w ∷ map f (drop (i + 1) vs)
next_element f vs i v w within is seen =
    let first : drop i vs ≡ v ∷ drop (i + 1) vs = rw (drop-cons vs i v within, ← is, add-one) refl in
    ap (map f) first ∙ ap (λ u. u ∷ map f (drop (i + 1) vs)) seen

-- the same of numbers, which are copied out
pub next_number : (f : ℤ → Value) (ns : List ℤ) (i : ℕ) (d : ℤ) → i < length ns → map f (drop i ns) ≡ f (get_or ns i d) ∷ map f (drop (i + 1) ns)
next_number f ns i d within =
    let first : drop i ns ≡ get_or ns i d ∷ drop (i + 1) ns = rw (drop-cons ns i d within, add-one) refl in
    ap (map f) first

-- the schema of the elements, which is handed to each
pub element_site_is : (site : Site) (member : Site) (child : Site) → Some member ≡ element_site site → child ≡ nameless_site member → child ≡ element_of site
element_site_is site member child found is = is ∙ ap (λ m. option_map_or nameless_site m site) found

pub element_written : {S : Type 0} (after : Writer S) (site : Site) (v : Value) (vs ws : List Value) (s t : S)
    → vs ≡ v ∷ ws → write after (element_of site) v s ≡ Ok t → run after (list_rest site vs) s ≡ run after (list_rest site ws) t
element_written after site v vs ws s t is written = rw (is, append_assoc) (child_written after _ _ s t written)

pub element_refused : {S : Type 0} (after : Writer S) (site : Site) (v : Value) (vs ws : List Value) (s : S) (e : SerdeError)
    → vs ≡ v ∷ ws → write after (element_of site) v s ≡ Err e → run after (list_rest site vs) s ≡ Err e
element_refused after site v vs ws s e is refused = rw (is, append_assoc) (child_refused after _ _ s e refused)

-- the place of the elements
element_place : (table : Table) (kind : Kind) (member : Site) (place : Place) → Some member ≡ option_map (site_of_element table) (list_shape_of kind) → place_in kind None ≡ Some place
    → (member.table ≡ table) × (member.place ≡ place)
element_place table (list_of l) member place found is =
    let same : member ≡ site_of_element table l = cc in
    let there : l.place ≡ place = cc in
    (ap (λ (s : Site). s.table) same, ap (λ (s : Site). s.place) same ∙ there)
element_place table _ member place found is = absurd (let none : Some member ≡ None = found in cc)

-- a value of the place stands also where a null may stand
pub fits_or_null : (table : Table) (place : Place) (nulls : Bool) (v : Value) → FitsOr table place nulls v → FitsOr table place true v
fits_or_null table place nulls (scalar_value x) fits = fits
fits_or_null table place nulls (list vs) fits = fits
fits_or_null table place nulls (mapped es) fits = fits
fits_or_null table place nulls (structure ms) fits = fits
fits_or_null table place nulls (union n v) fits = fits
fits_or_null table place nulls null_element fits = refl
fits_or_null table place nulls (document_value d) fits = fits

pub element_fits : (site member child : Site) (v : Value) (vs ws : List Value) → Some member ≡ element_site site → child ≡ nameless_site member → vs ≡ v ∷ ws
    → ElementsFit site.table (kind_at site) (values_of vs) → FitsOr child.table child.place true v
element_fits site member child v vs ws found is next fits =
    let (place, there, fit) = (rw next at fits).0 in
    let same = element_place site.table (kind_at site) member place found there in
    rw (is, same.0, same.1) (fits_or_null _ _ _ _ fit)

pub rest_fits : (site : Site) (v : Value) (vs ws : List Value) → vs ≡ v ∷ ws
    → ElementsFit site.table (kind_at site) (values_of vs) → ElementsFit site.table (kind_at site) (values_of ws)
rest_fits site v vs ws next fits = (rw next at fits).1

-- the first of what is left nests no deeper than all
pub element_nests : (all vs : List Value) (v : Value) (ws : List Value) → vs ≡ v ∷ ws → elements_nesting (values_of vs) ≤ elements_nesting (values_of all)
    → (nesting v ≤ elements_nesting (values_of all)) × (elements_nesting (values_of ws) ≤ elements_nesting (values_of all))
element_nests all vs v ws next deep =
    let most : max (nesting v) (elements_nesting (values_of ws)) ≤ elements_nesting (values_of all) = rw next at deep in
    let left = le-max_left (nesting v) (elements_nesting (values_of ws)) in
    let right = le-max_right (nesting v) (elements_nesting (values_of ws)) in
    (omega (arith, left, most), omega (arith, right, most))
