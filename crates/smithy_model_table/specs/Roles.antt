-- What was gathered of the operations and the shapes of a model, so that nothing is looked for twice.
use Rattle.std.specs.Prelude.{◌≡◌, ◌||◌, ℕ, List, Bool, true}
use Rattle.std.specs.Borrow.{Bor}
use Rattle.std.specs.BTreeSet.{BTreeSet, contains_by}
use Rattle.std.specs.Cmp.Lexicographic.{slice_cmp}
use Rattle.std.specs.Ordering.{nat_cmp}
use Rattle.std.specs.List.{list_any}
use Rattle.smithy_model.specs.Model.{Shape, Operation, Model}
use Rattle.smithy_model_table.specs.declared.roles.Roles as kept
use Rattle.smithy_model_table.specs.Naming.{is_declared_as, is_shared}
use Rattle.smithy_model_table.specs.Bindings.{has_input, has_output, has_error, is_input, is_output, is_error, is_nested}

abbrev pub has_id : BTreeSet (Bor (List ℕ)) → List ℕ → Bool
has_id ids id = contains_by (λ (k : Bor (List ℕ)). slice_cmp nat_cmp id k.now) ids

abbrev pub has_number : BTreeSet ℕ → ℕ → Bool
has_number numbers number = contains_by (nat_cmp number) numbers

-- what passed the test before, and what passes this one
abbrev pub Gains : {A : Type 0} → (A → Bool) → (A → Bool) → (A → Bool) → Type 0
Gains test before behind = (x : _) → behind x ≡ (test x || before x)

-- for each number, whether these operations have it as their input, their output, one of their errors
pub record AreNamedBy (operations : List Operation) (roles : kept.Roles) : Type 0 where
  pub inputs : (number : ℕ) → has_number roles.inputs number ≡ list_any (has_input number) operations
  pub outputs : (number : ℕ) → has_number roles.outputs number ≡ list_any (has_output number) operations
  pub errors : (number : ℕ) → has_number roles.errors number ≡ list_any (has_error number) operations

-- for each number, what the model says of it
pub record AreRolesOf (m : Model) (roles : kept.Roles) : Type 0 where
  pub inputs : (number : ℕ) → has_number roles.inputs number ≡ is_input m number
  pub outputs : (number : ℕ) → has_number roles.outputs number ≡ is_output m number
  pub errors : (number : ℕ) → has_number roles.errors number ≡ is_error m number
  pub nested : (number : ℕ) → has_number roles.nested number ≡ is_nested m number

-- where the protocol has HTTP bindings, these are the roles; without them no one asks
abbrev pub KnowsRoles : Model → kept.Roles → Type 0
KnowsRoles m roles = m.has_http_bindings ≡ true → AreRolesOf m roles

-- the names of these shapes that have a declaration, and those that two of them have
pub record AreShared (shapes : List Shape) (names shared : BTreeSet (Bor (List ℕ))) : Type 0 where
  pub there : (name : List ℕ) → has_id names name ≡ list_any (is_declared_as name) shapes
  pub twice : (name : List ℕ) → has_id shared name ≡ is_shared shapes name
