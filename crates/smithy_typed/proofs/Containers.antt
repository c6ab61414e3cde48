-- What is inside of a list or a map at a place of its type.
use Rattle.std.proofs.Common.{◌≡◌, ℕ, suc, length, map, List, [], ◌∷◌, Option, Some, None, option_map, String, Global, string_bytes, Ordering, Less, Equal, Greater, refl, sym, ◌∙◌, ap, subst}
use Rattle.std.specs.BTreeMap.{insert_entry}
use Rattle.std.specs.Ordering.{nat_cmp, match_ordering}
use Rattle.std.specs.Cmp.Lexicographic.{slice_cmp}
use Rattle.smithy_declarations.specs.declared.place.Place.{Place}
use Rattle.smithy_declarations.specs.declared.place.Target.{Target}
use Rattle.smithy_declarations.specs.declared.shape_type.ShapeType.{ShapeType}
use Rattle.smithy_declarations.specs.Table.{Table, Kind, list_of, map_of, IsList, IsMap}
use Rattle.smithy_declarations.specs.Value.{Value, map_entry, put_entry}
use Rattle.smithy_shapes.specs.Site.{Site, kind_at, inner_site, member_site}
use Rattle.smithy_shapes.specs.Declares.{Holds}
use Rattle.smithy_shapes.proofs.Inner.{inner_in, inner_place}
use Rattle.smithy_shapes.specs.Lemmas.Options.{same_some}
use Rattle.smithy_schema.specs.Writing.{entry_count}
use Rattle.smithy_schema.proofs.DeclaredMembers.{list_type, map_type}
use Rattle.smithy_schema.proofs.ReadStructures.{site_told}
use Rattle.smithy_schema.proofs.ReadLists.{list_place}
use Rattle.smithy_schema.proofs.ReadMaps.{map_place}
use Rattle.smithy_schema.proofs.HalfRead.{Inside}
use Rattle.smithy_typed.specs.Places.{IsListOf, IsMapOf}
use Rattle.smithy_typed.specs.Values.{entries_with}

-- ---- what is inside of a list or a map at a target

value_in : (table : Table) (kind : Kind) (value : Site) → inner_in table kind ≡ Some value → value.table ≡ table
value_in table (list_of l) value told = sym (ap (λ (s : Site). s.table) (same_some _ _ told))
value_in table (map_of m) value told = sym (ap (λ (s : Site). s.table) (same_some _ _ told))
value_in table _ value told = absurd (let none : None ≡ Some value = told in cc)

abbrev target_in : Option Site → Option Target
target_in o = option_map (λ (p : Place). p.target) (option_map (λ (s : Site). s.place) o)

-- what a list or a map of a target has inside
pub held_inside : (site : Site) (shape : ShapeType) (value : Target) → Holds site.table site.place.target shape value
    → (inner : Site) × (inner_site site ≡ Some inner) × (inner.table ≡ site.table) × (inner.place.target ≡ value)
held_inside site shape value holds = from (inner_site site) refl
  where
    there : target_in (inner_site site) ≡ Some value
    there = ap (option_map (λ (p : Place). p.target)) (inner_place site.table (kind_at site)) ∙ holds.inside

    from : (o : Option Site) → inner_site site ≡ o → (inner : Site) × (inner_site site ≡ Some inner) × (inner.table ≡ site.table) × (inner.place.target ≡ value)
    from None is = absurd (let both : None ≡ Some value = sym (ap target_in is) ∙ there in cc)
    from (Some inner) is = (inner, is, value_in site.table (kind_at site) inner is, same_some inner.place.target value (sym (ap target_in is) ∙ there))

-- the target of a member holds something in the member's table as in that of its union
pub held_in : (site inner : Site) (n : ℕ) (shape : ShapeType) → member_site site n ≡ Some inner → Holds inner.table inner.place.target shape site.place.target → Holds site.table inner.place.target shape site.place.target
held_in site inner n shape told holds = subst (λ t. Holds t inner.place.target shape site.place.target) (site_told site n inner told).0 holds

pub held_at : (site inner : Site) (n : ℕ) (shape : ShapeType) → member_site site n ≡ Some inner → Holds site.table inner.place.target shape site.place.target → Holds inner.table inner.place.target shape site.place.target
held_at site inner n shape told holds = subst (λ t. Holds t inner.place.target shape site.place.target) (sym (site_told site n inner told).0) holds

-- ---- lists

pub elements_list : (P : Site → Type 0) (site : Site) → IsListOf P site → IsList (kind_at site)
elements_list P site are = list_type (kind_at site) are.is_list

pub elements_there : (P : Site → Type 0) (site : Site) → IsListOf P site → None ≡ inner_site site → ⊥
elements_there P site are none = absurd (let both : None ≡ Some are.element = none ∙ are.inside in cc)

pub elements_inside : (P : Site → Type 0) (outer inner : Site) → IsListOf P outer → Some inner ≡ inner_site outer → Inside outer inner × P inner
elements_inside P outer inner are found =
    let told = list_place (kind_at outer) outer.table inner (elements_list P outer are) found in
    (record { table = told.0; place = told.1; dense = are.dense }, subst P (same_some _ _ (sym are.inside ∙ sym found)) are.is_element)

-- ---- maps

pub entries_map : (P : Site → Type 0) (site : Site) → IsMapOf P site → IsMap (kind_at site)
entries_map P site are = map_type (kind_at site) are.is_map

pub entries_there : (P : Site → Type 0) (site : Site) → IsMapOf P site → None ≡ inner_site site → ⊥
entries_there P site are none = absurd (let both : None ≡ Some are.value = none ∙ are.inside in cc)

pub entries_inside : (P : Site → Type 0) (outer inner : Site) → IsMapOf P outer → Some inner ≡ inner_site outer → Inside outer inner × P inner
entries_inside P outer inner are found =
    let told = map_place (kind_at outer) outer.table inner (entries_map P outer are) found in
    (record { table = told.0; place = told.1; dense = are.dense }, subst P (same_some _ _ (sym are.inside ∙ sym found)) are.is_value)

-- ---- entries of a map

module _ {T : Type 0} (view : T → Value) where
  abbrev key_order : String Global → String Global → Ordering
  key_order x y = slice_cmp nat_cmp (string_bytes x) (string_bytes y)

  put_by : (o : Ordering) (e : String Global × T) (es : List (String Global × T)) (key : String Global) (v : T)
      → entries_with view (insert_entry key_order es key v) ≡ put_entry (string_bytes key) (view v) (entries_with view es)
      → entries_with view (match_ordering o ((key, v) ∷ e ∷ es) ((e.0, v) ∷ es) (e ∷ insert_entry key_order es key v))
      ≡ match_ordering o (map_entry (string_bytes key) (view v) (entries_with view (e ∷ es))) (map_entry (string_bytes e.0) (view v) (entries_with view es)) (map_entry (string_bytes e.0) (view e.1) (put_entry (string_bytes key) (view v) (entries_with view es)))
  put_by Less e es key v h = refl
  put_by Equal e es key v h = refl
  put_by Greater e es key v h = ap (map_entry (string_bytes e.0) (view e.1)) h

  -- an entry that is put into a map at its key
  pub entry_put : (es : List (String Global × T)) (key : String Global) (v : T) → entries_with view (insert_entry key_order es key v) ≡ put_entry (string_bytes key) (view v) (entries_with view es)
  entry_put [] key v = refl
  entry_put (e ∷ es) key v = put_by (key_order key e.0) e es key v (entry_put es key v)

  -- entries whose values were seen before
  pub entries_seen : (es : List (String Global × T)) → entries_with (λ v. v) (map (λ (e : String Global × T). (e.0, view e.1)) es) ≡ entries_with view es
  entries_seen [] = refl
  entries_seen (e ∷ es) = ap (map_entry (string_bytes e.0) (view e.1)) (entries_seen es)

  pub counts : (es : List (String Global × T)) → length es ≡ entry_count (entries_with view es)
  counts [] = refl
  counts (e ∷ es) = ap suc (counts es)
