-- The commands that read one input and write one answer, and what a status says of each.
use Rattle.std.specs.Prelude.{◌≡◌, ◌≢◌, ◌⊎◌, ◌≤◌, ◌+◌, ℕ, List, length, true}
use Rattle.smithy_declarations.specs.Table.{Table}
use Rattle.smithy_declarations.specs.Acceptance.{accepted, table_of}
use Rattle.smithy_commands.specs.declared.status.Status.{Status}
use Rattle.smithy_commands.specs.declared.status.Status.TheVariants.{ReadFailed, WriteFailed, OutOfMemory}
use Rattle.smithy_commands.specs.Status.{tells_output, refuses_input}
use Rattle.smithy_commands.specs.Checks.{longest_table, longest_input, Sources, IsInOrder, IsRoot, AfterInput, RefusesChecks, WritesAtOnce}
use Rattle.smithy_outside.specs.Outside.{Environment, missing, HasFailed, MetOneFault, MetNoFault, Gave, Took, TookPrefix}

-- A command is its table, its root, and what it says of an input of that root.
pub record InputCommand : Type 1 where
  pub table_path : List ℕ
  pub root_name : List ℕ
  -- the command may end with this status, and write these bytes
  pub gives : Table → ℕ → List ℕ → Status → List ℕ → Type 0
  -- the command may end with this status, and write nothing
  pub refuses : Table → ℕ → List ℕ → Status → Type 0

-- what the command reads: the file of its table, and the input
abbrev pub sources_of : InputCommand → Environment → Sources
sources_of c e = record { table = e.files c.table_path; input = e.input }

-- the checks passed, the command gives an answer, and P holds of its status and its bytes
abbrev pub AfterAnswer : InputCommand → Environment → Environment → (Status → List ℕ → Type 0) → Type 0
AfterAnswer c old new P =
    AfterInput c.root_name (sources_of c old) (sources_of c new)
    (λ table root input. (status : Status) × (bytes : List ℕ) × c.gives table root input status bytes × P status bytes)

-- What a status says. It comes only where the steps before it passed: load, table, root, input, answer, write.
pub data Says (c : InputCommand) (old new : Environment) (status : Status) : Type 0 where
  -- the output took the whole answer
  answered : tells_output status ≡ true
      → AfterAnswer c old new (λ given bytes. (given ≡ status) × Took bytes old.out new.out) → Says c old new status
  -- the output failed, and took a prefix of the answer
  cut_short : status ≡ WriteFailed
      → AfterAnswer c old new (λ given bytes. MetOneFault old.out new.out × TookPrefix bytes old.out new.out) → Says c old new status
  -- the input is refused, or memory ran out
  refused : refuses_input status ≡ true
      → AfterInput c.root_name (sources_of c old) (sources_of c new) (λ table root input. c.refuses table root input status)
      → Says c old new status
  -- a check before the answer failed
  unchecked : RefusesChecks c.root_name (sources_of c old) (sources_of c new) status → Says c old new status

-- all is told and in order, and no count rose
pub record AllIsInOrder (c : InputCommand) (old new : Environment) (text input : List ℕ) (table : Table) (root : ℕ) : Type 0 where
  pub file : IsInOrder longest_table text (old.files c.table_path) (new.files c.table_path)
  pub accepted_as : table_of text ≡ accepted table
  pub is_root : IsRoot c.root_name table root
  pub source : IsInOrder longest_input input old.input new.input
  pub out_is_well : ¬ (HasFailed old.out new.out)

-- the status is that of an answer to this input, or of a refusal of it, or memory ran out
abbrev pub EndsByInput : InputCommand → Table → ℕ → List ℕ → Status → Type 0
EndsByInput c table root input status =
    ((bytes : List ℕ) × c.gives table root input status bytes) ⊎ (c.refuses table root input status ⊎ (status ≡ OutOfMemory))

-- What a status says where the words are this command.
pub record InputAnswer (c : InputCommand) (old new : Environment) (status : Status) : Type 0 where
  pub says : Says c old new status
  -- the input is read no further than one byte past the limit
  pub reads_no_further : (bytes : List ℕ) × Gave bytes old.input new.input × (length bytes ≤ longest_input + 1)
  -- a fault that shows in the count of the file or the input ends the run with 6
  pub table_met_no_fault : status ≢ ReadFailed → MetNoFault (old.files c.table_path) (new.files c.table_path)
  pub input_met_no_fault : status ≢ ReadFailed → MetNoFault old.input new.input
  pub files_are_kept : (path : List ℕ) → (new.files path).content ≡ (old.files path).content
  -- a file that is told to be missing can't be loaded
  pub missing_is_a_fault : (old.files c.table_path).content ≡ missing → (status ≡ ReadFailed) ⊎ (status ≡ OutOfMemory)
  -- where all is told and in order and no count rose, the input alone decides how the run ends, want of memory aside
  pub complete : (text input : List ℕ) (table : Table) (root : ℕ) → AllIsInOrder c old new text input table root
      → EndsByInput c table root input status
  -- over a file, an input and an output that are told to be steady neither 6 nor 7 comes
  pub steady_never_fails : (old.files c.table_path).is_steady ≡ true → old.input.is_steady ≡ true
      → old.out.is_steady ≡ true → (status ≢ ReadFailed) × (status ≢ WriteFailed)
  pub output : WritesAtOnce old new status
