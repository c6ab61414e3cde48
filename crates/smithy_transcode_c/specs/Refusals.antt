-- The numbers of calls that have nothing to transcode, which are those that the program ends with. A body that is refused has the number
-- of its error.
use Rattle.std.specs.Prelude.{ℕ}
use Rattle.smithy_declarations.specs.declared.fault.TableFault.{TableFault}
use Rattle.smithy_declarations.specs.declared.fault.TableFault.TheVariants as table_faults
use Rattle.smithy_transcode_c.specs.declared.refusal.Refusal.{Refusal}
use Rattle.smithy_transcode_c.specs.declared.refusal.Refusal.TheVariants.{Usage, OutOfMemory, TableRefused, NoSuchShape, NotAStructure}

-- the number that a call answers
abbrev pub refusal_number : Refusal → ℕ
refusal_number Usage = 2
refusal_number OutOfMemory = 8
refusal_number TableRefused = 20
refusal_number NoSuchShape = 21
refusal_number NotAStructure = 22

-- where a table was refused
abbrev pub refusal_of_table_fault : TableFault → Refusal
refusal_of_table_fault table_faults.NoMemory = OutOfMemory
refusal_of_table_fault _ = TableRefused
