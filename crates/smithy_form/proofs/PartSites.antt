-- The sites of members, elements and entries, as a reader meets them.
use Rattle.std.proofs.Common.{◌≡◌, ◌≢◌, ◌≤◌, ◌<◌, ℕ, zero, suc, List, [], ◌∷◌, length, true, false, Option, Some, None, slice_get, option_map, unwrap_or, codes, refl, sym, ◌∙◌, ap, subst, arith}
use Rattle.std.specs.Option.{option_map_or, option_or}
use Rattle.std.proofs.lemmas.Slice.Eq.{bytes_eq-Decides}
use Rattle.smithy_declarations.specs.Table.{Member, ListShape, MapShape, IsList, IsMap, members_of, list_shape_of, map_shape_of, element_name_of, key_name_of, value_name_of, query_name_of}
use Rattle.smithy_shapes.specs.Accepted.{IsAccepted}
use Rattle.smithy_shapes.specs.Lemmas.Kinds.{list_kind, map_kind}
use Rattle.smithy_shapes.specs.Lemmas.Options.{made}
use Rattle.smithy_shapes.specs.Site.{Site, kind_at, site_of_member, site_of_element, site_of_key, site_of_value, member_site, element_site, key_site, value_site, inner_site, nameless_site, element_of, value_of, member_of}
use Rattle.smithy_query_codec.specs.Leaves.{query_name, element_name, key_name, value_name}
use Rattle.smithy_form.specs.Private.Whole.{IsNamed, AreNamesApart}
use Rattle.smithy_form.proofs.PlainValues.{names_apart}

-- ---- members

pub member_there : (site : Site) (n : ℕ) (member : Site) → Some member ≡ member_site site n
    → (m : Member) × (slice_get (members_of (kind_at site)) n ≡ Some m) × (member ≡ site_of_member site.table n m)
member_there site n member found =
    let m = made (site_of_member site.table n) (slice_get (members_of (kind_at site)) n) member (sym found) in (m.0, m.1, sym m.2)

pub member_is : (site : Site) (n : ℕ) (member : Site) → Some member ≡ member_site site n → member ≡ member_of site n
member_is site n member found = ap (λ o. unwrap_or o site) found

pub member_table : (site : Site) (n : ℕ) (member : Site) → Some member ≡ member_site site n → member.table ≡ site.table
member_table site n member found = ap (λ (s : Site). s.table) (member_there site n member found).2

pub member_named : (site : Site) (n : ℕ) (member : Site) (name : List ℕ) → Some member ≡ member_site site n → query_name member.view ≡ Some name → IsNamed site n name
member_named site n member name found named =
    let m = member_there site n member found in record {
      member = m.0;
      found = m.1;
      is = subst (λ (s : Site). query_name s.view ≡ Some name) (member_is site n member found) named;
    }

-- a member has a name
pub never_nameless : (site : Site) (n : ℕ) (member : Site) → Some member ≡ member_site site n → query_name member.view ≡ None → ⊥
never_nameless site n member found none =
    let m = member_there site n member found in
    let e : Some (query_name_of m.0) ≡ None = subst (λ (s : Site). query_name s.view ≡ None) m.2 none in cc

none_from : {X : Type 0} (xs : List X) (n : ℕ) → slice_get xs n ≡ None → length xs ≤ n
none_from [] n h = omega arith
none_from (x ∷ xs) zero h = absurd (let e : Some x ≡ None = h in cc)
none_from (x ∷ xs) (suc n) h = let more = none_from xs n h in omega (arith, more)

pub some_below : {X : Type 0} (xs : List X) (n : ℕ) (x : X) → slice_get xs n ≡ Some x → n < length xs
some_below [] n x h = absurd (let e : None ≡ Some x = h in cc)
some_below (y ∷ xs) zero x h = omega arith
some_below (y ∷ xs) (suc n) x h = let more = some_below xs n x h in omega (arith, more)

-- no member stands at the position
pub none_past : (site : Site) (n : ℕ) → None ≡ member_site site n → length (members_of (kind_at site)) ≤ n
none_past site n none = none_from (members_of (kind_at site)) n (by (slice_get (members_of (kind_at site)) n) none)
  where
    by : (o : Option Member) → None ≡ option_map (site_of_member site.table n) o → o ≡ None
    by None h = refl
    by (Some m) h = absurd (let e : None ≡ Some (site_of_member site.table n m) = h in cc)

-- positions are small
pub few_members : (site : Site) (n : ℕ) (member : Site) → IsAccepted site.table → Some member ≡ member_site site n → n < 65535
few_members site n member accepted found =
    let m = member_there site n member found in
    let below = some_below (members_of (kind_at site)) n m.0 m.1 in
    let few = (accepted.members_are_accepted site.place).are_few in omega (arith, below, few)

pub apart_here : (site : Site) → IsAccepted site.table → AreNamesApart site
apart_here site accepted = names_apart site.table accepted site.place site.view

-- ---- elements

pub element_is : (site : Site) (element : Site) → Some element ≡ element_site site → nameless_site element ≡ element_of site
element_is site element found = ap (λ o. option_map_or nameless_site o site) found

pub element_there : (site : Site) (element : Site) → Some element ≡ element_site site
    → (l : ListShape) × (list_shape_of (kind_at site) ≡ Some l) × (element ≡ site_of_element site.table l)
element_there site element found =
    let l = made (site_of_element site.table) (list_shape_of (kind_at site)) element (sym found) in (l.0, l.1, sym l.2)

pub element_table : (site : Site) (element : Site) → Some element ≡ element_site site → element.table ≡ site.table
element_table site element found = ap (λ (s : Site). s.table) (element_there site element found).2

pub element_named : (site : Site) (element : Site) → Some element ≡ element_site site → unwrap_or element.view.xml_name (codes "member") ≡ element_name site
element_named site element found =
    let l = element_there site element found in
    ap (λ (s : Site). unwrap_or s.view.xml_name (codes "member")) l.2 ∙ sym (ap (λ o. option_map_or element_name_of o (codes "member")) l.1)

-- a list has elements
pub has_elements : (site : Site) → IsList (kind_at site) → None ≡ element_site site → ⊥
has_elements site kind none =
    let l = list_kind (kind_at site) kind in
    let shape : list_shape_of (kind_at site) ≡ Some l.0 = ap list_shape_of l.1 in
    let e : None ≡ Some (site_of_element site.table l.0) = none ∙ ap (option_map (site_of_element site.table)) shape in cc

-- ---- entries

pub map_there : (site : Site) → IsMap (kind_at site) → (m : MapShape) × (map_shape_of (kind_at site) ≡ Some m) × (list_shape_of (kind_at site) ≡ None)
map_there site kind = let m = map_kind (kind_at site) kind in (m.0, ap map_shape_of m.1, ap list_shape_of m.1)

pub key_there : (site : Site) → IsMap (kind_at site) → None ≡ key_site site → ⊥
key_there site kind none =
    let m = map_there site kind in
    let e : None ≡ Some (site_of_key site.table m.0) = none ∙ ap (option_map (site_of_key site.table)) m.1 in cc

pub key_named : (site : Site) (key : Site) → IsMap (kind_at site) → Some key ≡ key_site site → unwrap_or key.view.xml_name (codes "key") ≡ key_name site
key_named site key kind found =
    let m = map_there site kind in
    let e : Some key ≡ Some (site_of_key site.table m.0) = found ∙ ap (option_map (site_of_key site.table)) m.1 in
    let is : key ≡ site_of_key site.table m.0 = cc in
    ap (λ (s : Site). unwrap_or s.view.xml_name (codes "key")) is ∙ sym (ap (λ o. option_map_or key_name_of o (codes "key")) m.1)

inner_is : (site : Site) → IsMap (kind_at site) → inner_site site ≡ value_site site
inner_is site kind = let m = map_there site kind in ap (λ o. option_or (option_map (site_of_element site.table) o) (value_site site)) m.2

pub value_there : (site : Site) → IsMap (kind_at site) → None ≡ inner_site site → ⊥
value_there site kind none =
    let m = map_there site kind in
    let e : None ≡ Some (site_of_value site.table m.0) = none ∙ inner_is site kind ∙ ap (option_map (site_of_value site.table)) m.1 in cc

pub value_is : (site : Site) (value : Site) → IsMap (kind_at site) → Some value ≡ inner_site site → nameless_site value ≡ value_of site
value_is site value kind found = ap (λ o. option_map_or nameless_site o site) (found ∙ inner_is site kind)

value_made : (site : Site) (value : Site) → IsMap (kind_at site) → Some value ≡ inner_site site → (m : MapShape) × (map_shape_of (kind_at site) ≡ Some m) × (value ≡ site_of_value site.table m)
value_made site value kind found =
    let m = made (site_of_value site.table) (map_shape_of (kind_at site)) value (sym (found ∙ inner_is site kind)) in (m.0, m.1, sym m.2)

pub value_named : (site : Site) (value : Site) → IsMap (kind_at site) → Some value ≡ inner_site site → unwrap_or value.view.xml_name (codes "value") ≡ value_name site
value_named site value kind found =
    let m = value_made site value kind found in
    ap (λ (s : Site). unwrap_or s.view.xml_name (codes "value")) m.2 ∙ sym (ap (λ o. option_map_or value_name_of o (codes "value")) m.1)

pub value_table : (site : Site) (value : Site) → IsMap (kind_at site) → Some value ≡ inner_site site → value.table ≡ site.table
value_table site value kind found = ap (λ (s : Site). s.table) (value_made site value kind found).2

-- the names of keys and values differ
pub entry_names_apart : (site : Site) → IsAccepted site.table → IsMap (kind_at site) → key_name site ≢ value_name site
entry_names_apart site accepted kind =
    let m = map_there site kind in
    let ok = accepted.entry_names_are_accepted site.place m.0 m.1 in
    let key : key_name site ≡ key_name_of m.0 = ap (λ o. option_map_or key_name_of o (codes "key")) m.1 in
    let value : value_name site ≡ value_name_of m.0 = ap (λ o. option_map_or value_name_of o (codes "value")) m.1 in
    λ same. let e : true ≡ false = sym ((bytes_eq-Decides (key_name_of m.0) (value_name_of m.0)).1 (sym key ∙ same ∙ value)) ∙ ok.names_differ in cc
