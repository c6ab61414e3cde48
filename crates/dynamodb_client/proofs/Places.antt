-- What stands inside of an attribute's value, of a map of such values and of a list of them: in a map and a list no null.
use Rattle.std.proofs.Common.{◌≡◌, ℕ, List, length, Some, None, option_map, refl, sym, ◌∙◌, ap, subst}
use Rattle.std.specs.List.{slice_get}
use Rattle.smithy_declarations.specs.declared.place.Place.{Place}
use Rattle.smithy_declarations.specs.declared.place.Target.{Target}
use Rattle.smithy_declarations.specs.declared.shape_type.ShapeType.{ShapeType}
use Rattle.smithy_declarations.specs.declared.shape_type.ShapeType.TheVariants as types
use Rattle.smithy_declarations.specs.Table.{Table, Kind, list_of, map_of, kind_of_target, place_in, members_of, IsUnion, IsMap, IsList}
use Rattle.smithy_shapes.specs.Site.{Site, kind_at, inner_site, member_site}
use Rattle.smithy_shapes.specs.Declares.{Declares, Holds}
use Rattle.smithy_shapes.specs.Lemmas.Options.{same_some}
use Rattle.smithy_shapes.proofs.Inner.{inner_in, inner_place}
use Rattle.smithy_schema.proofs.ReadLists.{list_place}
use Rattle.smithy_schema.proofs.ReadMaps.{map_place}
use Rattle.smithy_schema.proofs.ReadStructures.{site_told}
use Rattle.smithy_schema.proofs.HalfRead.{Inside}
use Rattle.smithy_schema.proofs.DeclaredMembers.{union_type, list_type, map_type, target_there, count_of, at_index, at_last, IsBehind}
use Rattle.smithy_schema.specs.Consuming.{IsMemberOf}
use Rattle.dynamodb_client.specs.Attributes.{variant_members, AreAttributes, IsAttribute, AreEntries, AreElements, IsVariant}

pub attribute_union : (site : Site) → IsAttribute site → IsUnion (kind_at site)
attribute_union site (entries, elements, are) = union_type (kind_at site) are.is_union

pub entries_map : (site : Site) → AreEntries site → IsMap (kind_at site)
entries_map site (value, elements, are) = map_type (kind_at site) are.map.kind

pub elements_list : (site : Site) → AreElements site → IsList (kind_at site)
elements_list site (value, entries, are) = list_type (kind_at site) are.list.kind

-- an attribute's value as the table declares it
pub declared : (site : Site) (entries elements : Target) → AreAttributes site.table site.place.target entries elements → Declares types.Union (variant_members entries elements) site
declared site entries elements are = record { kind = are.is_union; members = are.members }

-- the table may be told by the inner site
attribute_at : (table : Table) (inner : Site) (value entries elements : Target) → inner.table ≡ table → inner.place.target ≡ value → AreAttributes table value entries elements → IsAttribute inner
attribute_at table inner value entries elements same there are =
    (entries, elements, subst (λ v. AreAttributes inner.table v entries elements) (sym there) (subst (λ t. AreAttributes t value entries elements) (sym same) are))

-- what is inside of a list or a map that holds such values
held : (table : Table) (outer value : Target) (shape : ShapeType) (inner : Site) → Holds table outer shape value → place_in (kind_of_target table outer) None ≡ Some inner.place → inner.place.target ≡ value
held table outer value shape inner holds there = same_some _ _ (sym (ap (option_map (λ (p : Place). p.target)) there) ∙ holds.inside)

pub entries_inside : (outer inner : Site) → AreEntries outer → Some inner ≡ inner_site outer → Inside outer inner × IsAttribute inner
entries_inside outer inner (value, elements, are) found =
    let told = map_place (kind_at outer) outer.table inner (entries_map outer (value, elements, are)) found in
    (record { table = told.0; place = told.1; dense = are.map.dense }, attribute_at outer.table inner value outer.place.target elements told.0 (held outer.table outer.place.target value types.Map inner are.map told.1) are)

pub elements_inside : (outer inner : Site) → AreElements outer → Some inner ≡ inner_site outer → Inside outer inner × IsAttribute inner
elements_inside outer inner (value, entries, are) found =
    let told = list_place (kind_at outer) outer.table inner (elements_list outer (value, entries, are)) found in
    (record { table = told.0; place = told.1; dense = are.list.dense }, attribute_at outer.table inner value entries outer.place.target told.0 (held outer.table outer.place.target value types.List inner are.list told.1) are)

-- what is told of the members behind the scalars, by their sites
pub told_attribute : (site entries elements : Site) → member_site site 5 ≡ Some entries → member_site site 6 ≡ Some elements → IsAttribute site → AreAttributes site.table site.place.target entries.place.target elements.place.target
told_attribute site entries elements map_told list_told (map_target, list_target, are) =
    let all = declared site map_target list_target are in
    let here = sym (target_there types.Union _ site all 5 entries map_told map_target refl) in
    let there = sym (target_there types.Union _ site all 6 elements list_told list_target refl) in
    subst (λ t. AreAttributes site.table site.place.target t elements.place.target) here (subst (λ t. AreAttributes site.table site.place.target map_target t) there are)

pub held_in : (site inner : Site) (n : ℕ) (shape : ShapeType) → member_site site n ≡ Some inner → Holds inner.table inner.place.target shape site.place.target → Holds site.table inner.place.target shape site.place.target
held_in site inner n shape told holds = subst (λ t. Holds t inner.place.target shape site.place.target) (site_told site n inner told).0 holds

pub held_at : (site inner : Site) (n : ℕ) (shape : ShapeType) → member_site site n ≡ Some inner → Holds site.table inner.place.target shape site.place.target → Holds inner.table inner.place.target shape site.place.target
held_at site inner n shape told holds = subst (λ t. Holds t inner.place.target shape site.place.target) (sym (site_told site n inner told).0) holds

-- a map's values, where the map is that of an attribute's value
value_in : (table : Table) (kind : Kind) (value : Site) → inner_in table kind ≡ Some value → value.table ≡ table
value_in table (list_of l) value told = sym (ap (λ (s : Site). s.table) (same_some _ _ told))
value_in table (map_of m) value told = sym (ap (λ (s : Site). s.table) (same_some _ _ told))
value_in table _ value told = absurd (let none : None ≡ Some value = told in cc)

pub are_entries : (site value entries : Site) → inner_site site ≡ Some value → member_site value 5 ≡ Some entries → entries.place.target ≡ site.place.target → IsAttribute value → AreEntries site
are_entries site value entries inside told same (map_target, list_target, are) =
    let here : map_target ≡ site.place.target = sym (target_there types.Union _ value (declared value map_target list_target are) 5 entries told map_target refl) ∙ same in
    let on_table = subst (λ t. AreAttributes t value.place.target map_target list_target) (value_in site.table (kind_at site) value inside) are in
    (value.place.target, list_target, subst (λ t. AreAttributes site.table value.place.target t list_target) here on_table)

pub value_of_entries : (site value : Site) → inner_site site ≡ Some value → AreEntries site → (elements : Target) × AreAttributes value.table value.place.target site.place.target elements
value_of_entries site value inside (value_target, elements, are) =
    let place = sym (inner_place site.table (kind_at site)) ∙ ap (option_map (λ (s : Site). s.place)) inside in
    let here = sym (held site.table site.place.target value_target types.Map value are.map place) in
    let on_value = subst (λ t. AreAttributes site.table t site.place.target elements) here are in
    (elements, subst (λ t. AreAttributes t value.place.target site.place.target elements) (sym (value_in site.table (kind_at site) value inside)) on_value)

pub entries_told : (site value entries : Site) → inner_site site ≡ Some value → member_site value 5 ≡ Some entries → AreEntries site → entries.place.target ≡ site.place.target
entries_told site value entries inside told is =
    let (elements, are) = value_of_entries site value inside is in
    target_there types.Union _ value (declared value site.place.target elements are) 5 entries told site.place.target refl

-- both have something inside
missing : (site : Site) (value : Target) (shape : ShapeType) → Holds site.table site.place.target shape value → None ≡ inner_site site → ⊥
missing site value shape holds none =
    let here = inner_place site.table (kind_at site) in
    let both : None ≡ Some value = ap (λ o. option_map (λ (p : Place). p.target) (option_map (λ (s : Site). s.place) o)) none ∙ ap (option_map (λ (p : Place). p.target)) here ∙ holds.inside in
    cc

pub entries_there : (site : Site) → AreEntries site → None ≡ inner_site site → ⊥
entries_there site (value, elements, are) none = missing site value types.Map are.map none

pub elements_there : (site : Site) → AreElements site → None ≡ inner_site site → ⊥
elements_there site (value, entries, are) none = missing site value types.List are.list none

-- ---- the members of the union

-- what is known of a member: which it is
pub record Variant (member : Site) (n : ℕ) : Type 0 where
  pub index : member.view.index ≡ Some n
  pub value : Target
  pub entries : Target
  pub elements : Target
  pub are : AreAttributes member.table value entries elements
  pub target : (t : Target) → option_map (λ (row : List ℕ × Target). row.1) (slice_get (variant_members entries elements) n) ≡ Some t → member.place.target ≡ t

allowed : (member : Site) → IsVariant member → (outer : Site) × IsAttribute outer × IsMemberOf outer (Some member)
allowed member (outer, n, is, told) = (outer, is, (n, told))

pub variant_at : (member : Site) (i : ℕ) → IsVariant member → member.view.index ≡ Some i → Variant member i
variant_at member i is index =
    let (outer, (entries, elements, are), told) = at_index IsAttribute member (allowed member is) i index in
    record {
      index = index;
      value = outer.place.target;
      entries = entries;
      elements = elements;
      are = subst (λ t. AreAttributes t outer.place.target entries elements) (sym (site_told outer i member told).0) are;
      target = target_there types.Union (variant_members entries elements) outer (declared outer entries elements are) i member told;
    }

count : (outer : Site) → IsAttribute outer → length (members_of (kind_at outer)) ≡ 7
count outer (entries, elements, are) = count_of types.Union (variant_members entries elements) outer (declared outer entries elements are)

-- the list is behind the other six
pub last_variant : (member : Site) → IsVariant member → IsBehind 6 member.view.index → member.view.index ≡ Some 6
last_variant member is behind = at_last IsAttribute member (allowed member is) 6 count behind

-- the map and the list
pub map_variant : (member : Site) → Variant member 5 → AreEntries member
map_variant member v = (v.value, v.elements, subst (λ t. AreAttributes member.table v.value t v.elements) (sym (v.target v.entries refl)) v.are)

pub list_variant : (member : Site) → Variant member 6 → AreElements member
list_variant member v = (v.value, v.entries, subst (λ t. AreAttributes member.table v.value v.entries t) (sym (v.target v.elements refl)) v.are)
