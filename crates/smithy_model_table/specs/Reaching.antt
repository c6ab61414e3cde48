-- Which shapes a table declares, and in which order: those that are wanted, and those that these lead to.
use Rattle.std.specs.Prelude.{◌≡◌, ◌==◌, ℕ, List, [], ◌∷◌, ◌++◌, Bool, true, not, nat_lt, length, map, flat_map, slice_get}
use Rattle.std.specs.List.{filter, list_all}
use Rattle.std.specs.Option.{option_map_or}
use Rattle.smithy_model.specs.Model as model
use Rattle.smithy_model.specs.Model.{Member, Kind, Shape, Model}
use Rattle.smithy_model_table.specs.Bindings.{Bindings, bindings_of, no_bindings}
use Rattle.smithy_model_table.specs.Leaving.{is_left_out}

-- the numbers of the targets of these members, but for those that are left out
abbrev pub held_targets : List Bool → Bindings → List Member → List ℕ
held_targets marks counting members =
    map (λ (x : Member). x.number) (filter (λ (x : Member). not (is_left_out marks counting x)) members)

-- the numbers of the shapes that the declaration of the shape of this number and kind leads to
abbrev pub targets_of : Model → List Bool → ℕ → Kind → List ℕ
targets_of m marks number (model.structure members) = held_targets marks (bindings_of m number) members
targets_of m marks number (model.union members) = held_targets marks no_bindings members
targets_of m marks number (model.list element) = element.number ∷ []
targets_of m marks number (model.map key value) = value.number ∷ []
targets_of m marks number _ = []

abbrev pub targets_at : Model → List Bool → ℕ → List ℕ
targets_at m marks number =
    option_map_or (λ (s : Shape). targets_of m marks number s.kind) (slice_get m.shapes number) []

-- each number once, where it stands first
abbrev pub first_of_each : List ℕ → List ℕ
first_of_each [] = []
first_of_each (n ∷ numbers) = n ∷ filter (λ k. not (n == k)) (first_of_each numbers)

-- those that are the number of one of so many shapes
abbrev pub within : ℕ → List ℕ → List ℕ
within count numbers = filter (λ n. nat_lt n count) numbers

-- what holds of the wanted shapes, and with each shape of those that it leads to
abbrev pub HoldsAlong : Model → List Bool → List ℕ → (ℕ → Bool) → Type 0
HoldsAlong m marks roots test =
    (list_all test roots ≡ true) × ((n : ℕ) → test n ≡ true → list_all test (targets_at m marks n) ≡ true)

-- The shapes that are reached from those that are wanted, breadth first: each once, first these in their order, then the targets of the
-- first, of the second, and so on. None is among them but by being wanted or led to.
pub record AreReached (m : Model) (marks : List Bool) (roots order : List ℕ) : Type 0 where
  pub in_order : order ≡ first_of_each (within (length m.shapes) (roots ++ flat_map (targets_at m marks) order))
  pub fewest : (test : ℕ → Bool) → HoldsAlong m marks roots test → list_all test order ≡ true
