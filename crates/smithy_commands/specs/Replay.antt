-- The command `replay TABLE ROOT ACTION VERSION`: its words, and what a status says where they are it.
use Rattle.std.specs.Prelude.{◌≡◌, ◌≢◌, ◌⊎◌, ◌≤◌, ◌+◌, ℕ, List, [], ◌∷◌, length, Bool, true, false, Option, Some, None}
use Rattle.smithy_declarations.specs.Table.{Table}
use Rattle.smithy_declarations.specs.Acceptance.{accepted, table_of}
use Rattle.smithy_transcode.specs.Wires.{json, query}
use Rattle.smithy_lines.specs.Lines.{lines_of}
use Rattle.smithy_lines.specs.Answered.{Answers, EndsIn}
use Rattle.smithy_lines.specs.declared.answer.AnswerFault.{AnswerFault}
use Rattle.smithy_lines.specs.declared.answer.AnswerFault.TheVariants as faults
use Rattle.smithy_replay.specs.Replayed.{AnswersLine, Replayed}
use Rattle.smithy_commands.specs.declared.commands.replay.Replay as kept
use Rattle.smithy_commands.specs.declared.status.Status.{Status}
use Rattle.smithy_commands.specs.declared.status.Status.TheVariants.{Done, ReadFailed, WriteFailed, OutOfMemory, LinesRefused}
use Rattle.smithy_commands.specs.Status.{tells_output}
use Rattle.smithy_commands.specs.Checks.{longest_table, longest_input, Sources, IsInOrder, IsRoot, AfterInput, RefusesChecks}
use Rattle.smithy_outside.specs.Outside.{Environment, missing, HasFailed, MetNoFault, Gave, Took}

-- ---- the words

-- replay TABLE ROOT ACTION VERSION
pub record Replay : Type 0 where
  pub table_path : List ℕ
  pub root_name : List ℕ
  pub action : List ℕ
  pub version : List ℕ

-- TABLE ROOT ACTION VERSION
abbrev pub replay_of : List (List ℕ) → Option Replay
replay_of (table ∷ root ∷ action ∷ version ∷ []) =
    Some (record { table_path = table; root_name = root; action = action; version = version })
replay_of _ = None

-- the command as plain data
abbrev pub replay_view : kept.Replay → Replay
replay_view c =
    record { table_path = c.table.now; root_name = c.root.now; action = c.action.now; version = c.version.now }

-- ---- what a status says

-- what the command reads: the file of its table, and the input
abbrev pub sources_of : Replay → Environment → Sources
sources_of c e = record { table = e.files c.table_path; input = e.input }

-- the answer to a line: its request, or why there is none
abbrev pub line_answers : Replay → Table → ℕ → Answers
line_answers c table root = AnswersLine table root (json false false) (query c.action c.version) true

-- The output took the answers to all lines of the input. The last argument says whether a line is refused.
abbrev pub AfterReplay : Replay → Environment → Environment → Bool → Type 0
AfterReplay c old new refused =
    AfterInput c.root_name (sources_of c old) (sources_of c new)
    (λ table root input. (text : List ℕ) × Replayed table root c.action c.version input text refused × Took text old.out new.out)

-- the answers to the lines of the input end with this fault, after some of them
abbrev pub AfterFault : Replay → Environment → Environment → AnswerFault → Type 0
AfterFault c old new fault =
    AfterInput c.root_name (sources_of c old) (sources_of c new)
    (λ table root input. EndsIn (line_answers c table root) (lines_of input) fault old.out new.out)

-- nothing was written to the output
abbrev pub IsUnused : Environment → Environment → Type 0
IsUnused old new = (new.out ≡ old.out) × (new.out_holds_back ≡ old.out_holds_back)

-- what a status says
abbrev pub Says : Replay → Environment → Environment → Status → Type 0
Says c old new Done = AfterReplay c old new false
Says c old new LinesRefused = AfterReplay c old new true
Says c old new WriteFailed = AfterFault c old new faults.WriteFailed
Says c old new OutOfMemory = IsUnused old new ⊎ AfterFault c old new faults.NoMemory
Says c old new status = RefusesChecks c.root_name (sources_of c old) (sources_of c new) status

-- all is told and in order, and no count rose
pub record AllIsInOrder (c : Replay) (old new : Environment) (text input : List ℕ) (table : Table) (root : ℕ) : Type 0 where
  pub file : IsInOrder longest_table text (old.files c.table_path) (new.files c.table_path)
  pub accepted_as : table_of text ≡ accepted table
  pub is_root : IsRoot c.root_name table root
  pub source : IsInOrder longest_input input old.input new.input
  pub out_is_well : ¬ (HasFailed old.out new.out)

-- What a status says where the words are this command.
pub record ReplayAnswer (c : Replay) (old new : Environment) (status : Status) : Type 0 where
  -- a status comes only where the checks before it passed: load, table, root, input, lines
  pub says : Says c old new status
  -- the input is read no further than one byte past the limit
  pub reads_no_further : (bytes : List ℕ) × Gave bytes old.input new.input × (length bytes ≤ longest_input + 1)
  -- a fault that shows in the count of the file or the input ends the run with 6, and one in that of the output with 7
  pub table_met_no_fault : status ≢ ReadFailed → MetNoFault (old.files c.table_path) (new.files c.table_path)
  pub input_met_no_fault : status ≢ ReadFailed → MetNoFault old.input new.input
  pub out_met_no_fault : status ≢ WriteFailed → MetNoFault old.out new.out
  pub files_are_kept : (path : List ℕ) → (new.files path).content ≡ (old.files path).content
  -- a file that is told to be missing can't be loaded
  pub missing_is_a_fault : (old.files c.table_path).content ≡ missing → (status ≡ ReadFailed) ⊎ (status ≡ OutOfMemory)
  -- where all is told and in order and no count rose, each line has its answer, want of memory aside
  pub complete : (text input : List ℕ) (table : Table) (root : ℕ) → AllIsInOrder c old new text input table root
      → (status ≡ Done) ⊎ ((status ≡ LinesRefused) ⊎ (status ≡ OutOfMemory))
  -- over a file, an input and an output that are told to be steady neither 6 nor 7 comes
  pub steady_never_fails : (old.files c.table_path).is_steady ≡ true → old.input.is_steady ≡ true
      → old.out.is_steady ≡ true → (status ≢ ReadFailed) × (status ≢ WriteFailed)
  pub nothing_is_held_back : tells_output status ≡ true → new.out_holds_back ≡ false
  -- what the output tells and counts stays, where the lines aren't answered
  pub out_is_untouched : tells_output status ≡ false → status ≢ WriteFailed → status ≢ OutOfMemory → IsUnused old new
