-- Which declarations have a text, and why others have none.
use Rattle.std.specs.Prelude.{◌≡◌, ◌≢◌, ◌≤◌, ◌<◌, ℕ, List, length}
use Rattle.smithy_declarations.specs.declared.fault.TableFault.{TableFault}
use Rattle.smithy_declarations.specs.declared.fault.TableFault.TheVariants as table_faults
use Rattle.smithy_declarations.specs.Decl.{Decl}
use Rattle.smithy_declarations.specs.DeclViews.{IsRefusedBy}
use Rattle.smithy_declarations.specs.Table.{Table}
use Rattle.smithy_declarations.specs.TableText.{declarations_of, declarations}
use Rattle.smithy_declarations.specs.Acceptance.{accepted, table_of, build_of}
use Rattle.smithy_table_text.specs.declared.fault.TextFault.{TextFault}
use Rattle.smithy_table_text.specs.declared.fault.TextFault.TheVariants as faults
use Rattle.smithy_table_text.specs.TableLines.{table_text}

-- in bytes
abbrev pub longest_table : ℕ
longest_table = 1_048_576

-- the text of these declarations reads as them, and is an accepted table within the limit of one
pub record IsTextOf (decls : List Decl) (text : List ℕ) : Type 0 where
  pub written : text ≡ table_text decls
  pub short : length text ≤ longest_table
  pub reads : declarations_of text ≡ declarations decls
  pub table : Table
  pub accepted_as : table_of text ≡ accepted table

-- the text is within the limit
abbrev pub IsShort : List Decl → Type 0
IsShort decls = length (table_text decls) ≤ longest_table

-- Why declarations have no such text: it is too long; else, it doesn't read as them; else, they are refused as a table.
abbrev pub RefusesDecls : List Decl → TextFault → Type 0
RefusesDecls decls faults.TooLong = longest_table < length (table_text decls)
RefusesDecls decls faults.Unwritable = IsShort decls × (declarations_of (table_text decls) ≢ declarations decls)
RefusesDecls decls (faults.Refused table_faults.NoMemory) = ⊥
RefusesDecls decls (faults.Refused fault) =
    IsShort decls × (declarations_of (table_text decls) ≡ declarations decls) × IsRefusedBy (build_of decls) fault
RefusesDecls decls faults.NoMemory = Unit {0}

-- the fault of declarations that are refused
abbrev pub fault_of_table : TableFault → TextFault
fault_of_table table_faults.NoMemory = faults.NoMemory
fault_of_table fault = faults.Refused fault

-- the fault of a text that isn't read
abbrev pub fault_of_line : TableFault → TextFault
fault_of_line table_faults.NoMemory = faults.NoMemory
fault_of_line _ = faults.Unwritable
