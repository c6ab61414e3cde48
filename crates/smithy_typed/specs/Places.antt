-- The places of a table where the values of a type are.
use Rattle.std.specs.Prelude.{◌≡◌, ℕ, List, [], ◌∷◌, Some, slice_get}
use Rattle.smithy_declarations.specs.declared.place.Target.TheVariants.{Simple, Document}
use Rattle.smithy_declarations.specs.declared.shape_type.Scalar.{Scalar}
use Rattle.smithy_declarations.specs.declared.shape_type.ShapeType.{ShapeType}
use Rattle.smithy_declarations.specs.declared.shape_type.ShapeType.TheVariants as types
use Rattle.smithy_declarations.specs.Table.{type_of, IsSparse}
use Rattle.smithy_shapes.specs.Site.{Site, kind_at, inner_site, member_sites}

-- a scalar of this kind is there
abbrev pub IsScalar : Scalar → Site → Type 0
IsScalar kind site = site.place.target ≡ Simple kind

-- a document is there
abbrev pub IsOpen : Site → Type 0
IsOpen site = site.place.target ≡ Document

-- a list is there, whose elements are at a place of this type and aren't null
pub record IsListOf (place : Site → Type 0) (site : Site) : Type 0 where
  pub is_list : type_of (kind_at site) ≡ Some types.List
  pub dense : IsSparse (kind_at site) → ⊥
  pub element : Site
  pub inside : inner_site site ≡ Some element
  pub is_element : place element

-- a map is there, whose values are at a place of this type and aren't null
pub record IsMapOf (place : Site → Type 0) (site : Site) : Type 0 where
  pub is_map : type_of (kind_at site) ≡ Some types.Map
  pub dense : IsSparse (kind_at site) → ⊥
  pub value : Site
  pub inside : inner_site site ≡ Some value
  pub is_value : place value

-- no members are left
abbrev pub HaveNoMember : List Site → Type 0
HaveNoMember [] = Unit {0}
HaveNoMember (site ∷ sites) = ⊥

-- the first member has this name and is at a place of this type, and those after it are such
abbrev pub HaveMember : List ℕ → (Site → Type 0) → (List Site → Type 0) → List Site → Type 0
HaveMember name place rest [] = ⊥
HaveMember name place rest (site ∷ sites) = (site.view.name ≡ Some name) × place site × rest sites

-- a structure or a union with such members is there
pub record HasShape (shape : ShapeType) (members : List Site → Type 0) (site : Site) : Type 0 where
  pub kind : type_of (kind_at site) ≡ Some shape
  pub all : members (member_sites site)

-- the member at a position of a structure or a union with such members
abbrev pub IsMemberAt : (List Site → Type 0) → ℕ → Site → Type 0
IsMemberAt members n site = (sites : List Site) × members sites × (slice_get sites n ≡ Some site)

-- members with these names, of which the first is at a place of this type
abbrev pub named_first : (Site → Type 0) → (List (List ℕ) → List Site → Type 0) → List (List ℕ) → List Site → Type 0
named_first place rest [] = λ sites. ⊥
named_first place rest (name ∷ names) = HaveMember name place (rest names)

-- no members, and no names
abbrev pub named_none : List (List ℕ) → List Site → Type 0
named_none [] = HaveNoMember
named_none (name ∷ names) = λ sites. ⊥

-- members with some names
abbrev pub IsAnyMemberAt : (List (List ℕ) → List Site → Type 0) → ℕ → Site → Type 0
IsAnyMemberAt members n site = (names : List (List ℕ)) × IsMemberAt (members names) n site

-- a structure of such members is there, with some names
abbrev pub IsAnyStructure : (List (List ℕ) → List Site → Type 0) → Site → Type 0
IsAnyStructure members site = (names : List (List ℕ)) × HasShape types.Structure (members names) site

-- a union of such members is there, with some names
abbrev pub IsAnyUnion : (List (List ℕ) → List Site → Type 0) → Site → Type 0
IsAnyUnion members site = (names : List (List ℕ)) × HasShape types.Union (members names) site
