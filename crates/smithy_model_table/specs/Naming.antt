-- The names of a model's shapes in a table.
use Rattle.std.specs.Prelude.{◌==◌, ◌&&◌, ◌||◌, ℕ, List, [], ◌∷◌, Bool, true, false, if◌then◌else◌, bytes_eq, map}
use Rattle.std.specs.List.{list_any, after_first}
use Rattle.smithy_model.specs.Model as model
use Rattle.smithy_model.specs.Model.{Member, Kind, Shape, Model}
use Rattle.smithy_declarations.specs.Names.{is_reserved}

-- `#`
abbrev pub is_number_sign : ℕ → Bool
is_number_sign b = b == 0x23

-- the name in an id: what stands behind the first `#`, or all of it where it has none (Smithy 2.0, "Shape ID")
abbrev pub name_in : List ℕ → List ℕ
name_in id = if list_any is_number_sign id then after_first is_number_sign id else id

-- a shape of this kind has a declaration
abbrev pub is_declared : Kind → Bool
is_declared (model.structure members) = true
is_declared (model.union members) = true
is_declared (model.list element) = true
is_declared (model.map key value) = true
is_declared _ = false

-- the shape has a declaration, and this is the name in its id
abbrev pub is_declared_as : List ℕ → Shape → Bool
is_declared_as name s = is_declared s.kind && bytes_eq (name_in s.id) name

-- two of these shapes have a declaration and this name in their ids
abbrev pub is_shared : List Shape → List ℕ → Bool
is_shared [] name = false
is_shared (s ∷ shapes) name = is_declared_as name s && list_any (is_declared_as name) shapes || is_shared shapes name

-- the name of a shape: the one in its id, but the whole id where no declaration may have that one or two shapes share it
abbrev pub name_of_shape : Model → Shape → List ℕ
name_of_shape m s = if is_reserved (name_in s.id) || is_shared m.shapes (name_in s.id) then s.id else name_in s.id

-- the names of the shapes of a model, one by one
abbrev pub names_of : Model → List (List ℕ)
names_of m = map (name_of_shape m) m.shapes
