-- The members that a table declares, as a type of a client's own meets them.
use Rattle.std.proofs.Common.{◌≡◌, ◌≢◌, ◌≤◌, ℕ, zero, suc, List, length, Option, Some, None, option_map, refl, sym, ◌∙◌, ap, subst, arith}
use Rattle.std.specs.List.{slice_get}
use Rattle.std.proofs.lemmas.List.{length-map}
use Rattle.std.proofs.lemmas.Option.{slice_get-map, slice_get_within}
use Rattle.smithy_declarations.specs.declared.place.Target.{Target}
use Rattle.smithy_declarations.specs.declared.shape_type.Scalar.{Scalar}
use Rattle.smithy_declarations.specs.declared.shape_type.Scalar.TheVariants as scalars
use Rattle.smithy_declarations.specs.declared.shape_type.ShapeType.{ShapeType}
use Rattle.smithy_declarations.specs.declared.shape_type.ShapeType.TheVariants as types
use Rattle.smithy_declarations.specs.Table.{Table, Kind, Member, scalar, structure_of, union_of, list_of, map_of, scalar_type, type_of, members_of, IsStructure, IsUnion, IsList, IsMap}
use Rattle.smithy_shapes.specs.Site.{Site, kind_at, member_site, site_of_member}
use Rattle.smithy_shapes.specs.Declares.{row_of, Declares}
use Rattle.smithy_shapes.specs.Lemmas.Options.{same_some}
use Rattle.smithy_schema.specs.Consuming.{IsMemberOf}
use Rattle.smithy_schema.proofs.ReadStructures.{site_told}

-- ---- which kind it is

abbrev Contains : ShapeType → Type 0
Contains types.Structure = Unit {0}
Contains types.Union = Unit {0}
Contains types.List = Unit {0}
Contains types.Map = Unit {0}
Contains _ = ⊥

no_container : (s : Scalar) → Contains (scalar_type s) → ⊥
no_container scalars.Boolean h = h
no_container scalars.Byte h = h
no_container scalars.Short h = h
no_container scalars.Integer h = h
no_container scalars.Long h = h
no_container scalars.String h = h
no_container scalars.Blob h = h
no_container scalars.Timestamp h = h
no_container scalars.BigInteger h = h
no_container scalars.BigDecimal h = h

no_scalar : (s : Scalar) (shape : ShapeType) → Contains shape → Some (scalar_type s) ≡ Some shape → ⊥
no_scalar s shape contains same = no_container s (subst Contains (sym (same_some _ _ same)) contains)

pub structure_type : (k : Kind) → type_of k ≡ Some types.Structure → IsStructure k
structure_type (scalar s) is = absurd (no_scalar s types.Structure tt is)
structure_type (structure_of members) is = tt
structure_type _ is = cc

pub union_type : (k : Kind) → type_of k ≡ Some types.Union → IsUnion k
union_type (scalar s) is = absurd (no_scalar s types.Union tt is)
union_type (union_of members) is = tt
union_type _ is = cc

pub list_type : (k : Kind) → type_of k ≡ Some types.List → IsList k
list_type (scalar s) is = absurd (no_scalar s types.List tt is)
list_type (list_of l) is = tt
list_type _ is = cc

pub map_type : (k : Kind) → type_of k ≡ Some types.Map → IsMap k
map_type (scalar s) is = absurd (no_scalar s types.Map tt is)
map_type (map_of m) is = tt
map_type _ is = cc

-- ---- which member it is

target_told : (o : Option Member) (table : Table) (n : ℕ) (site : Site) → option_map (site_of_member table n) o ≡ Some site → option_map (λ (row : List ℕ × Target). row.1) (option_map row_of o) ≡ Some site.place.target
target_told None table n site told = absurd (let none : None ≡ Some site = told in cc)
target_told (Some m) table n site told = ap (option_map (λ (s : Site). s.place.target)) told

-- a member's target is that of its row
pub target_there : (shape : ShapeType) (rows : List (List ℕ × Target)) (outer : Site) → Declares shape rows outer → (n : ℕ) (site : Site) → member_site outer n ≡ Some site
    → (t : Target) → option_map (λ (row : List ℕ × Target). row.1) (slice_get rows n) ≡ Some t → site.place.target ≡ t
target_there shape rows outer declared n site told t row =
    let there = target_told (slice_get (members_of (kind_at outer)) n) outer.table n site told in
    let same = sym (ap (option_map (λ (row : List ℕ × Target). row.1)) (slice_get-map row_of (members_of (kind_at outer)) n)) ∙ ap (λ rs. option_map (λ (row : List ℕ × Target). row.1) (slice_get rs n)) declared.members in
    same_some _ _ (sym there ∙ same ∙ row)

-- and where a row is, a member stands
pub row_there : (shape : ShapeType) (rows : List (List ℕ × Target)) (outer : Site) → Declares shape rows outer → (n : ℕ) (row : List ℕ × Target) → slice_get rows n ≡ Some row
    → (site : Site) × (member_site outer n ≡ Some site) × (site.place.target ≡ row.1)
row_there shape rows outer declared n row there =
    let told = sym (slice_get-map row_of (members_of (kind_at outer)) n) ∙ ap (λ rs. slice_get rs n) declared.members ∙ there in
    from (slice_get (members_of (kind_at outer)) n) refl told
  where
    from : (o : Option Member) → slice_get (members_of (kind_at outer)) n ≡ o → option_map row_of o ≡ Some row → (site : Site) × (member_site outer n ≡ Some site) × (site.place.target ≡ row.1)
    from None is told = absurd (let none : None ≡ Some row = told in cc)
    from (Some m) is told = (site_of_member outer.table n m, ap (option_map (site_of_member outer.table n)) is, ap (λ (r : List ℕ × Target). r.1) (same_some _ _ told))

pub count_of : (shape : ShapeType) (rows : List (List ℕ × Target)) (outer : Site) → Declares shape rows outer → length (members_of (kind_at outer)) ≡ length rows
count_of shape rows outer declared = sym (length-map (members_of (kind_at outer)) row_of) ∙ ap length declared.members

same_position : (m n : ℕ) → Some m ≡ Some n → m ≡ n
same_position m n h = cc

-- the member that a consumer is called for, by the position that its schema tells
pub at_index : (test : Site → Type 0) (site : Site) → (outer : Site) × test outer × IsMemberOf outer (Some site) → (i : ℕ) → site.view.index ≡ Some i → (outer : Site) × test outer × (member_site outer i ≡ Some site)
at_index test site (outer, is, (n, told)) i index =
    let same : n ≡ i = same_position n i (sym (site_told outer n site told).2 ∙ index) in
    (outer, is, subst (λ k. member_site outer k ≡ Some site) same told)

-- none of the first positions
abbrev pub IsBehind : ℕ → Option ℕ → Type 0
IsBehind zero index = Unit {0}
IsBehind (suc k) index = (index ≢ Some k) × IsBehind k index

above : (n k : ℕ) → k ≤ n → (n ≡ k → ⊥) → suc k ≤ n
above zero zero least other = absurd (other refl)
above zero (suc k) least other = absurd (omega (arith, least))
above (suc n) zero least other = omega arith
above (suc n) (suc k) least other = let more = above n k (omega (arith, least)) (λ h. other (ap suc h)) in omega (arith, more)

at_least : (k n : ℕ) (index : Option ℕ) → index ≡ Some n → IsBehind k index → k ≤ n
at_least zero n index is behind = omega arith
at_least (suc k) n index is behind = above n k (at_least k n index is behind.1) (λ h. behind.0 (is ∙ ap Some h))

found : (o : Option Member) (table : Table) (n : ℕ) (site : Site) → option_map (site_of_member table n) o ≡ Some site → (m : Member) × (o ≡ Some m)
found None table n site told = absurd (let none : None ≡ Some site = told in cc)
found (Some m) table n site told = (m, refl)

-- so a member that is none of those before the last is the last
pub at_last : (test : Site → Type 0) (site : Site) → (outer : Site) × test outer × IsMemberOf outer (Some site) → (k : ℕ) → ((o : Site) → test o → length (members_of (kind_at o)) ≡ suc k) → IsBehind k site.view.index
    → site.view.index ≡ Some k
at_last test site (outer, is, (n, told)) k count behind =
    let index = (site_told outer n site told).2 in
    let members = members_of (kind_at outer) in
    let here = found (slice_get members n) outer.table n site told in
    let within = slice_get_within members n here.0 here.1 in
    let least = at_least k n site.view.index index behind in
    let last : n ≡ k = omega (arith, within, least, count outer is) in
    index ∙ ap Some last
