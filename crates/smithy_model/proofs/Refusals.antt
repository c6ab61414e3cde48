-- What refuses one entry refuses all.
use Rattle.std.proofs.Common.{◌≡◌, ◌<◌, ℕ, List, [], ◌∷◌, Bor, Global, length, map, get_or, Bool, true, false, ◌||◌, refl}
use Rattle.json.specs.declared.value.Value.{Value}
use Rattle.smithy_model.specs.declared.fault.ModelFault.{ModelFault}
use Rattle.smithy_model.specs.declared.fault.ModelFault.TheVariants as faults
use Rattle.smithy_model.specs.Form.{Form}
use Rattle.smithy_model.specs.Faults.{is_bad_shape, is_bad_operation, is_applied, RefusesShapes, RefusesOperations}
use Rattle.smithy_model.specs.Views.{entry_view}
use Rattle.smithy_model.proofs.AllSome.{any_of_one}

pub shapes_refused : (form : Form) (ws : List (Bor (List ℕ) × Value Global)) (i : ℕ) (w : Bor (List ℕ) × Value Global) → i < length ws → w ≡ get_or ws i w → (fault : ModelFault)
    → RefusesShapes form (entry_view w ∷ []) fault → RefusesShapes form (map entry_view ws) fault
shapes_refused form ws i w within is (faults.BadShape id) one = any_of_one (is_bad_shape form id.now) entry_view ws i w within is one
shapes_refused form ws i w within is (faults.Applied id) one = any_of_one (is_applied id.now) entry_view ws i w within is one
shapes_refused form ws i w within is faults.NoMemory one = tt
shapes_refused form ws i w within is faults.NotJson one = absurd one
shapes_refused form ws i w within is faults.NameTwice one = absurd one
shapes_refused form ws i w within is faults.NotAModel one = absurd one
shapes_refused form ws i w within is (faults.UnknownTarget id) one = absurd one
shapes_refused form ws i w within is (faults.BadMixin id) one = absurd one

pub operations_refused : (form : Form) (ws : List (Bor (List ℕ) × Value Global)) (i : ℕ) (w : Bor (List ℕ) × Value Global) → i < length ws → w ≡ get_or ws i w → (fault : ModelFault)
    → RefusesOperations form (entry_view w ∷ []) fault → RefusesOperations form (map entry_view ws) fault
operations_refused form ws i w within is (faults.BadShape id) one = any_of_one (is_bad_operation form id.now) entry_view ws i w within is one
operations_refused form ws i w within is (faults.Applied id) one = absurd one
operations_refused form ws i w within is faults.NoMemory one = tt
operations_refused form ws i w within is faults.NotJson one = absurd one
operations_refused form ws i w within is faults.NameTwice one = absurd one
operations_refused form ws i w within is faults.NotAModel one = absurd one
operations_refused form ws i w within is (faults.UnknownTarget id) one = absurd one
operations_refused form ws i w within is (faults.BadMixin id) one = absurd one

pub or_first : (a b : Bool) → a ≡ true → (a || b) ≡ true
or_first true b is = refl
or_first false b is = cc (is)

pub or_second : (a b : Bool) → b ≡ true → (a || b) ≡ true
or_second true b is = refl
or_second false b is = is
