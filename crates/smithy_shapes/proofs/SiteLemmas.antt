-- The children of a value that fits, each with its site.
use Rattle.std.proofs.Common.{◌≡◌, ℕ, List, false, Option, Some, None, option_map, slice_get, refl, sym, subst}
use Rattle.smithy_declarations.specs.declared.place.Place.{Place}
use Rattle.smithy_declarations.specs.Table.{Table, Member, ListShape, MapShape, structure_of, union_of, list_of, map_of, kind_of, place_in}
use Rattle.smithy_shapes.specs.Site.{Site, View, member_view, element_view, value_view, nameless, site_of_key, element_of, key_of, value_of, member_of}
use Rattle.smithy_declarations.specs.Value.{Value, Values, value, MapEntries, map_entry, MemberValues, member_value}
use Rattle.smithy_shapes.specs.Fits.{FitsOr, ElementsFit, EntriesFit, MembersFit}
use Rattle.smithy_shapes.specs.Lemmas.Options.{same_some}

-- ---- sites

-- the site of a place of the table
abbrev pub site_at : Table → Place → View → Site
site_at t p view = record { table = t; place = p; view = view }

-- that of the elements of a list
pub element_site_at : (t : Table) (p : Place) (view : View) (l : ListShape) → kind_of t p ≡ list_of l
    → element_of (site_at t p view) ≡ site_at t l.place (nameless (element_view l))
element_site_at t p view l kind = rw kind refl

-- that of a map's keys
pub key_site_at : (t : Table) (p : Place) (view : View) (m : MapShape) → kind_of t p ≡ map_of m → key_of (site_at t p view) ≡ site_of_key t m
key_site_at t p view m kind = rw kind refl

-- that of its values
pub value_site_at : (t : Table) (p : Place) (view : View) (m : MapShape) → kind_of t p ≡ map_of m
    → value_of (site_at t p view) ≡ site_at t m.place (nameless (value_view m))
value_site_at t p view m kind = rw kind refl

-- that of a structure's member
pub member_site_at : (t : Table) (p : Place) (view : View) (members : List Member) (n : ℕ) (m : Member) → kind_of t p ≡ structure_of members
    → slice_get members n ≡ Some m → member_of (site_at t p view) n ≡ site_at t m.place (member_view n m)
member_site_at t p view members n m kind found = rw (kind, found) refl

-- that of a union's member
pub variant_site_at : (t : Table) (p : Place) (view : View) (members : List Member) (n : ℕ) (m : Member) → kind_of t p ≡ union_of members
    → slice_get members n ≡ Some m → member_of (site_at t p view) n ≡ site_at t m.place (member_view n m)
variant_site_at t p view members n m kind found = rw (kind, found) refl

-- ---- children

-- an element that fits
pub element_fit : (t : Table) (l : ListShape) (v : Value) (vs : Values) → ElementsFit t (list_of l) (value v vs) → FitsOr t l.place l.is_sparse v
element_fit t l v vs fits =
    let one = fits.0 in subst (λ q. FitsOr t q l.is_sparse v) (sym (same_some l.place one.0 one.1)) one.2

-- a value of a map that fits
pub entry_fit : (t : Table) (m : MapShape) (key : List ℕ) (v : Value) (es : MapEntries) → EntriesFit t (map_of m) (map_entry key v es)
    → FitsOr t m.place m.is_sparse v
entry_fit t m key v es fits =
    let one = fits.1 in subst (λ q. FitsOr t q m.is_sparse v) (sym (same_some m.place one.0 one.1)) one.2

placed : (o : Option Member) (q : Place) → option_map (λ (m : Member). m.place) o ≡ Some q → (m : Member) × (o ≡ Some m) × (m.place ≡ q)
placed (Some m) q h = (m, refl, same_some m.place q h)
placed None q h = cc

-- a member that fits
pub member_fit : (t : Table) (members : List Member) (n : ℕ) (v : Value) (ms : MemberValues) → MembersFit t (structure_of members) (member_value n v ms)
    → (m : Member) × (slice_get members n ≡ Some m) × FitsOr t m.place false v
member_fit t members n v ms fits =
    let one = fits.0 in
    let m = placed (slice_get members n) one.0 one.1 in
    (m.0, m.1, subst (λ q. FitsOr t q false v) (sym m.2) one.2)

-- the value of a union that fits
pub variant_fit : (t : Table) (members : List Member) (n : ℕ) (v : Value)
    → (q : Place) × (place_in (union_of members) (Some n) ≡ Some q) × FitsOr t q false v
    → (m : Member) × (slice_get members n ≡ Some m) × FitsOr t m.place false v
variant_fit t members n v fits =
    let m = placed (slice_get members n) fits.0 fits.1 in
    (m.0, m.1, subst (λ q. FitsOr t q false v) (sym m.2) fits.2)
