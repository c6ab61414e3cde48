-- What the commands share: the checks before they answer, each where those before it passed, and what becomes of the output.
use Rattle.std.specs.Prelude.{◌≡◌, ◌≢◌, ◌⊎◌, ◌≤◌, ℕ, List, length, Some, None, true, false}
use Rattle.smithy_declarations.specs.Table.{Table, IsStructure, kind_of, shape_place, declared_as}
use Rattle.smithy_declarations.specs.Acceptance.{Fault, TableAnswer, accepted, refused, table_of}
use Rattle.smithy_declarations.specs.declared.fault.TableFault.{TableFault}
use Rattle.smithy_commands.specs.declared.status.Status.{Status}
use Rattle.smithy_commands.specs.declared.status.Status.TheVariants.{ReadFailed, WriteFailed, OutOfMemory, TableRefused, NoSuchShape, NotAStructure, TooLong}
use Rattle.smithy_commands.specs.Status.{tells_output, refusal_of}
use Rattle.smithy_outside.specs.Outside.{Shown, Environment, missing, HasFailed, MetOneFault, MetNoFault, Shows, GavePast, IsWhole, IsLonger, IsAtEnd}

-- in bytes
abbrev pub longest_table : ℕ
longest_table = 1_048_576

-- in bytes
abbrev pub longest_input : ℕ
longest_input = 16_777_216

-- the file of a command's table, and the input
pub record Sources : Type 0 where
  pub table : Shown
  pub input : Shown

-- a file that isn't told to be missing was loaded whole, and is within the limit
pub record IsLoaded (limit : ℕ) (bytes : List ℕ) (file : Shown) : Type 0 where
  pub whole : IsWhole bytes file
  pub there : file.content ≢ missing
  pub within : length bytes ≤ limit

-- a file that isn't told to be missing is longer than the limit
abbrev pub IsTooLong : ℕ → Shown → Type 0
IsTooLong limit file = (file.content ≢ missing) × IsLonger limit file

-- a source was read whole, to its end, and is within the limit of an input
pub record IsRead (bytes : List ℕ) (old new : Shown) : Type 0 where
  pub whole : IsWhole bytes old
  pub to_the_end : IsAtEnd new
  pub within : length bytes ≤ longest_input

-- an object told these bytes, which are within the limit, and its count didn't rise
pub record IsInOrder (limit : ℕ) (bytes : List ℕ) (old new : Shown) : Type 0 where
  pub told : Shows old bytes
  pub within : length bytes ≤ limit
  pub well : ¬ (HasFailed old new)

-- the declaration of that number has the name of the root, and is a structure
pub record IsRoot (root_name : List ℕ) (table : Table) (root : ℕ) : Type 0 where
  pub named : declared_as table root_name ≡ Some root
  pub structure : IsStructure (kind_of table (shape_place root))

-- ---- the checks, each where those before it passed

-- the text of a table was loaded from the file, and P holds of the table or the fault that it is
abbrev pub AfterLoad : Shown → (TableAnswer → Type 0) → Type 0
AfterLoad file P = (text : List ℕ) × IsLoaded longest_table text file × P (table_of text)

-- the text is a table, of which P holds
abbrev pub AfterTable : Shown → (Table → Type 0) → Type 0
AfterTable file P = AfterLoad file (λ answer. (table : Table) × (answer ≡ accepted table) × P table)

-- the root is there, and P holds of the table and the root
abbrev pub AfterRoot : List ℕ → Shown → (Table → ℕ → Type 0) → Type 0
AfterRoot root_name file P = AfterTable file (λ table. (root : ℕ) × IsRoot root_name table root × P table root)

-- the input was read, and P holds of the table, the root and the input
abbrev pub AfterInput : List ℕ → Sources → Sources → (Table → ℕ → List ℕ → Type 0) → Type 0
AfterInput root_name old new P =
    AfterRoot root_name old.table (λ table root. (input : List ℕ) × IsRead input old.input new.input × P table root input)

-- the file holds this table, which has this root
pub record PassesTableChecks (root_name : List ℕ) (file : Shown) (table : Table) (root : ℕ) : Type 0 where
  pub text : List ℕ
  pub loaded : IsLoaded longest_table text file
  pub accepted_as : table_of text ≡ accepted table
  pub is_root : IsRoot root_name table root

-- the checks passed with this table, this root of it, and this input
pub record PassesChecks (root_name : List ℕ) (old new : Sources) (table : Table) (root : ℕ) (input : List ℕ) : Type 0 where
  pub checked : PassesTableChecks root_name old.table table root
  pub read : IsRead input old.input new.input

-- P holds, and the input tells and counts what it did before
abbrev pub BeforeInput : Sources → Sources → Type 0 → Type 0
BeforeInput old new P = (new.input ≡ old.input) × P

-- the answer is the fault with its number; a fault has a name, too
abbrev pub IsRefusal : TableFault → TableAnswer → Type 0
IsRefusal fault answer =
    (f : Fault) × (name : List ℕ) × (n : ℕ) × (answer ≡ refused f n) × (refusal_of fault ≡ Some (f, name, n))

-- by the status: the text of the table is refused, the table doesn't declare the root, or not as a structure
abbrev pub RefusesTable : List ℕ → Shown → Status → Type 0
RefusesTable root_name file (TableRefused fault) = AfterLoad file (IsRefusal fault)
RefusesTable root_name file NoSuchShape = AfterTable file (λ table. declared_as table root_name ≡ None)
RefusesTable root_name file NotAStructure =
    AfterTable file (λ table. (root : ℕ) × (declared_as table root_name ≡ Some root)
    × ¬ IsStructure (kind_of table (shape_place root)))
RefusesTable root_name file _ = ⊥

-- by the status, the table wasn't read or is too long, or memory ran out, or the table has no such root
abbrev pub RefusesTableChecks : List ℕ → Shown → Shown → Status → Type 0
RefusesTableChecks root_name old new ReadFailed = MetOneFault old new
RefusesTableChecks root_name old new TooLong = IsTooLong longest_table old
RefusesTableChecks root_name old new OutOfMemory = Unit {0}
RefusesTableChecks root_name old new status = RefusesTable root_name old status

-- why a command didn't come to its input, or couldn't read it: by the status, the table or the input wasn't read, or is too long, or
-- memory was wanting, or the table has no such root
abbrev pub RefusesChecks : List ℕ → Sources → Sources → Status → Type 0
RefusesChecks root_name old new ReadFailed =
    BeforeInput old new (MetOneFault old.table new.table)
    ⊎ AfterRoot root_name old.table (λ table root. MetNoFault old.table new.table × MetOneFault old.input new.input)
RefusesChecks root_name old new TooLong =
    BeforeInput old new (IsTooLong longest_table old.table)
    ⊎ AfterRoot root_name old.table (λ table root. GavePast longest_input old.input new.input)
RefusesChecks root_name old new OutOfMemory = Unit {0}
RefusesChecks root_name old new status = BeforeInput old new (RefusesTable root_name old.table status)

-- ---- the output

-- what becomes of the output of a command that writes all it has to say at once: its answer
pub record WritesAtOnce (old new : Environment) (status : Status) : Type 0 where
  pub nothing_is_held_back : tells_output status ≡ true → new.out_holds_back ≡ false
  -- a fault that shows in the count of the output ends the run with 7
  pub out_met_no_fault : status ≢ WriteFailed → MetNoFault old.out new.out
  -- what the output tells and counts stays
  pub out_is_untouched : tells_output status ≡ false → status ≢ WriteFailed
      → (new.out ≡ old.out) × (new.out_holds_back ≡ old.out_holds_back)
