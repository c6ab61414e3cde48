-- Why a search for the wanted shapes refuses.
use Rattle.std.specs.Prelude.{List, Bool}
use Rattle.smithy_model.specs.Model.{Model}
use Rattle.smithy_model_table.specs.declared.fault.WantedFault.{WantedFault}
use Rattle.smithy_model_table.specs.declared.fault.WantedFault.TheVariants as faults
use Rattle.smithy_model_table.specs.Wanted.{Wanted, LacksName, HasNoDeclaration}

-- the model has no such name, or no declaration stands for what is wanted, or memory was wanting
abbrev pub RefusesSearch : Model → List Bool → Wanted → WantedFault → Type 0
RefusesSearch m marks w faults.NoSuchName = LacksName m w
RefusesSearch m marks w faults.NoDeclaration = HasNoDeclaration m marks w
RefusesSearch m marks w faults.NoMemory = Unit {0}
RefusesSearch m marks w _ = ⊥
