-- Why a part of a model is no table.
use Rattle.std.specs.Prelude.{◌<◌, ◌⊎◌, List, length}
use Rattle.smithy_model.specs.Model.{Model}
use Rattle.smithy_declarations.specs.Decl.{Decl}
use Rattle.smithy_table_text.specs.declared.fault.TextFault.{TextFault}
use Rattle.smithy_table_text.specs.declared.fault.TextFault.TheVariants as text_faults
use Rattle.smithy_table_text.specs.Writable.{RefusesDecls}
use Rattle.smithy_model_table.specs.declared.fault.WantedFault.{WantedFault}
use Rattle.smithy_model_table.specs.declared.fault.WantedFault.TheVariants as faults
use Rattle.smithy_model_table.specs.Outcomes.{LeftOut}
use Rattle.smithy_model_table.specs.Wanted.{Wanted, LacksName, LacksDeclaration}
use Rattle.smithy_model_table.specs.ModelTable.{most_shapes, IsMade}

-- the declarations of what is wanted have no text that is a table
abbrev pub RefusesMade : Model → Wanted → TextFault → Type 0
RefusesMade m w fault = (decls : List Decl) × (left : List LeftOut) × IsMade m w decls left × RefusesDecls decls fault

-- Why what is wanted of a model is no table: the model has no such name; no declaration stands for it; the model has too many shapes, or the text
-- of its declarations is too long; they are refused as a table; their text doesn't read as them; or memory was wanting, which no clause can rule out.
abbrev pub RefusesWanted : Model → Wanted → WantedFault → Type 0
RefusesWanted m w faults.NoSuchName = LacksName m w
RefusesWanted m w faults.NoDeclaration = LacksDeclaration m w
RefusesWanted m w faults.TooLong = (most_shapes < length m.shapes) ⊎ RefusesMade m w text_faults.TooLong
RefusesWanted m w (faults.TableRefused fault) = RefusesMade m w (text_faults.Refused fault)
RefusesWanted m w faults.Unwritable = RefusesMade m w text_faults.Unwritable
RefusesWanted m w faults.NoMemory = Unit {0}

-- the fault of declarations without such a text
abbrev pub fault_of_text : TextFault → WantedFault
fault_of_text text_faults.TooLong = faults.TooLong
fault_of_text text_faults.Unwritable = faults.Unwritable
fault_of_text (text_faults.Refused fault) = faults.TableRefused fault
fault_of_text text_faults.NoMemory = faults.NoMemory
