-- Which members a shape of a table has.
use Rattle.std.specs.Prelude.{◌≡◌, ℕ, List, map, Some, None, option_map}
use Rattle.std.specs.Borrow.{Bor}
use Rattle.smithy_declarations.specs.declared.place.Place.{Place}
use Rattle.smithy_declarations.specs.declared.place.Target.{Target}
use Rattle.smithy_declarations.specs.declared.shape_type.ShapeType.{ShapeType}
use Rattle.smithy_declarations.specs.Table.{Table, Member, declared_as, kind_of_target, type_of, members_of, place_in, IsSparse}
use Rattle.smithy_shapes.specs.Site.{Site, kind_at, shape_site}

-- the name of a member, and what it is
abbrev pub row_of : Member → List ℕ × Target
row_of m = (m.name, m.place.target)

abbrev pub row_told : Bor (List ℕ) × Target → List ℕ × Target
row_told row = (row.0.now, row.1)

-- A shape of this kind stands there, whose members have these names and targets, in this order.
pub record Declares (shape : ShapeType) (rows : List (List ℕ × Target)) (site : Site) : Type 0 where
  pub kind : type_of (kind_at site) ≡ Some shape
  pub members : map row_of (members_of (kind_at site)) ≡ rows

-- the declaration of this name as a whole
abbrev pub IsDeclaredAs : Table → List ℕ → Site → Type 0
IsDeclaredAs table name site = (n : ℕ) × (declared_as table name ≡ Some n) × (site ≡ shape_site table n)

-- At the first target stands a list, or a map, as told, of the second target, and no null may be in it.
pub record Holds (table : Table) (outer : Target) (shape : ShapeType) (inner : Target) : Type 0 where
  pub kind : type_of (kind_of_target table outer) ≡ Some shape
  pub inside : option_map (λ (p : Place). p.target) (place_in (kind_of_target table outer) None) ≡ Some inner
  pub dense : IsSparse (kind_of_target table outer) → ⊥
