-- The command `lines TABLE ROOT FROM TO`: its words, and what a status says where they are it.
use Rattle.std.specs.Prelude.{◌≡◌, ◌≢◌, ◌⊎◌, ℕ, List, ◌∷◌, Bool, true, false, Option, None, Result, Ok, Err, option_and_then, option_map}
use Rattle.smithy_declarations.specs.Table.{Table}
use Rattle.smithy_declarations.specs.Acceptance.{accepted, table_of}
use Rattle.smithy_transcode.specs.Wires.{Wire}
use Rattle.smithy_lines.specs.Answered.{Answers}
use Rattle.smithy_lines.specs.Sources.{AnswersUpTo, AnswersEach}
use Rattle.smithy_lines.specs.declared.answer.StreamFault.{StreamFault}
use Rattle.smithy_lines.specs.declared.answer.StreamFault.TheVariants as faults
use Rattle.smithy_replay.specs.Replayed.{AnswersLine, RefusesLong}
use Rattle.smithy_commands.specs.declared.commands.lines.Lines as kept
use Rattle.smithy_commands.specs.declared.status.Status.{Status}
use Rattle.smithy_commands.specs.declared.status.Status.TheVariants.{Done, ReadFailed, WriteFailed, OutOfMemory, LinesRefused}
use Rattle.smithy_commands.specs.Status.{tells_output}
use Rattle.smithy_commands.specs.WireWords.{read_wire_named, wanted_wire, named_wire}
use Rattle.smithy_commands.specs.Checks.{longest_table, longest_input, IsInOrder, IsRoot, AfterRoot, RefusesTableChecks}
use Rattle.smithy_outside.specs.Outside.{Environment, missing, HasFailed, MetNoFault}

-- ---- the words

-- lines TABLE ROOT FROM TO
pub record Lines : Type 0 where
  pub table_path : List ℕ
  pub root_name : List ℕ
  pub from : Wire
  pub to : Wire

-- TABLE ROOT FROM TO
abbrev pub lines_asked : List (List ℕ) → Option Lines
lines_asked (table ∷ root ∷ from ∷ to) = option_and_then
    (λ from. option_map (λ to. record { table_path = table; root_name = root; from = from; to = to }) (wanted_wire to))
    (read_wire_named from)
lines_asked _ = None

-- the command as plain data
abbrev pub lines_view : kept.Lines → Lines
lines_view c =
    record { table_path = c.table.now; root_name = c.root.now; from = named_wire c.from; to = named_wire c.to }

-- ---- what a status says

-- The answer to a line: its body in the wanted wire, or why there is none. A line that is longer than an input may be is too long.
abbrev pub line_answers : Lines → Table → ℕ → Answers
line_answers c table root = AnswersUpTo longest_input (AnswersLine table root c.from c.to false) (RefusesLong false)

-- the lines that the input gave were answered with this result
abbrev pub AfterLines : Lines → Environment → Environment → Result Bool StreamFault → Type 0
AfterLines c old new result =
    AfterRoot c.root_name (old.files c.table_path)
    (λ table root. AnswersEach (line_answers c table root) result old.input new.input old.out new.out)

-- nothing was read from the input or written to the output
abbrev pub BeforeLines : Environment → Environment → Type 0
BeforeLines old new = (new.input ≡ old.input) × (new.out ≡ old.out) × (new.out_holds_back ≡ old.out_holds_back)

-- the table or the root is refused, before any line
abbrev pub RefusesBefore : Lines → Environment → Environment → Status → Type 0
RefusesBefore c old new status =
    BeforeLines old new × RefusesTableChecks c.root_name (old.files c.table_path) (new.files c.table_path) status

-- what a status says
abbrev pub Says : Lines → Environment → Environment → Status → Type 0
Says c old new Done = AfterLines c old new (Ok false)
Says c old new LinesRefused = AfterLines c old new (Ok true)
Says c old new WriteFailed = AfterLines c old new (Err faults.WriteFailed)
Says c old new ReadFailed =
    RefusesBefore c old new ReadFailed
    ⊎ (MetNoFault (old.files c.table_path) (new.files c.table_path) × AfterLines c old new (Err faults.ReadFailed))
Says c old new OutOfMemory = RefusesBefore c old new OutOfMemory ⊎ AfterLines c old new (Err faults.NoMemory)
Says c old new status = RefusesBefore c old new status

-- the table is told and in order, and no count rose
pub record AllIsInOrder (c : Lines) (old new : Environment) (text : List ℕ) (table : Table) (root : ℕ) : Type 0 where
  pub file : IsInOrder longest_table text (old.files c.table_path) (new.files c.table_path)
  pub accepted_as : table_of text ≡ accepted table
  pub is_root : IsRoot c.root_name table root
  pub input_is_well : ¬ (HasFailed old.input new.input)
  pub out_is_well : ¬ (HasFailed old.out new.out)

-- What a status says where the words are this command.
pub record LinesAnswer (c : Lines) (old new : Environment) (status : Status) : Type 0 where
  -- a status comes only where the checks before it passed: load, table, root, lines
  pub says : Says c old new status
  -- a fault that shows in the count of the file or the input ends the run with 6, and one in that of the output with 7
  pub table_met_no_fault : status ≢ ReadFailed → MetNoFault (old.files c.table_path) (new.files c.table_path)
  pub input_met_no_fault : status ≢ ReadFailed → MetNoFault old.input new.input
  pub out_met_no_fault : status ≢ WriteFailed → MetNoFault old.out new.out
  pub files_are_kept : (path : List ℕ) → (new.files path).content ≡ (old.files path).content
  -- a file that is told to be missing can't be loaded
  pub missing_is_a_fault : (old.files c.table_path).content ≡ missing → (status ≡ ReadFailed) ⊎ (status ≡ OutOfMemory)
  -- where the table is told and in order and no count rose, each line has its answer, want of memory aside
  pub complete : (text : List ℕ) (table : Table) (root : ℕ) → AllIsInOrder c old new text table root
      → (status ≡ Done) ⊎ ((status ≡ LinesRefused) ⊎ (status ≡ OutOfMemory))
  -- over a file, an input and an output that are told to be steady neither 6 nor 7 comes
  pub steady_never_fails : (old.files c.table_path).is_steady ≡ true → old.input.is_steady ≡ true
      → old.out.is_steady ≡ true → (status ≢ ReadFailed) × (status ≢ WriteFailed)
  pub nothing_is_held_back : tells_output status ≡ true → new.out_holds_back ≡ false
  -- nor where a read failed, unless the output wasn't used
  pub answers_are_passed_on : status ≡ ReadFailed
      → (new.out_holds_back ≡ false) ⊎ ((new.out ≡ old.out) × (new.out_holds_back ≡ old.out_holds_back))
