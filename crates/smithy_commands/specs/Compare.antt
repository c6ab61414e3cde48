-- The command `compare TABLE ROOT WIRE1 FILE1 WIRE2 FILE2`: its words, and what a status says where they are it.
use Rattle.std.specs.Prelude.{◌≡◌, ◌≢◌, ◌⊎◌, ◌++◌, ℕ, List, [], ◌∷◌, Option, None, option_and_then, option_map, Ok, Err, true, false, codes}
use Rattle.smithy_declarations.specs.Table.{Table}
use Rattle.smithy_declarations.specs.Acceptance.{accepted, table_of}
use Rattle.smithy_transcode.specs.Wires.{Wire}
use Rattle.smithy_transcode.specs.declared.wire.TranscodeError.{TranscodeError}
use Rattle.smithy_transcode.specs.declared.wire.TranscodeError.TheVariants as errors
use Rattle.smithy_compare.specs.Compares.{Answer, Compares}
use Rattle.smithy_compare.specs.PathText.{text_of_path}
use Rattle.smithy_compare.specs.View.{path_of}
use Rattle.smithy_compare.specs.declared.comparing.Compared.{Compared}
use Rattle.smithy_compare.specs.declared.comparing.Compared.TheVariants as compared
use Rattle.smithy_compare.specs.declared.comparing.CompareError.{CompareError}
use Rattle.smithy_compare.specs.declared.comparing.CompareError.TheVariants as bodies
use Rattle.smithy_commands.specs.declared.commands.compare.Compare as kept
use Rattle.smithy_commands.specs.declared.commands.compare.Recorded as kept_recorded
use Rattle.smithy_commands.specs.declared.status.Status.{Status}
use Rattle.smithy_commands.specs.declared.status.Status.TheVariants.{Done, ReadFailed, WriteFailed, OutOfMemory, Inexpressible, TooLong, Differs, SecondInvalidInput, SecondTooDeep, SecondTooWide, SecondNotCarried}
use Rattle.smithy_commands.specs.WireWords.{read_wire_named, named_wire}
use Rattle.smithy_commands.specs.Status.{status_of_error}
use Rattle.smithy_commands.specs.Checks.{longest_table, longest_input, IsLoaded, IsTooLong, IsInOrder, IsRoot, AfterRoot, RefusesTable, WritesAtOnce}
use Rattle.smithy_outside.specs.Outside.{Shown, Environment, HasFailed, MetOneFault, Took, TookPrefix}

-- ---- the words

-- a body in a file, and its wire
pub record Recorded : Type 0 where
  pub wire : Wire
  pub path : List ℕ

-- compare TABLE ROOT WIRE1 FILE1 WIRE2 FILE2
pub record Compare : Type 0 where
  pub table_path : List ℕ
  pub root_name : List ℕ
  pub first : Recorded
  pub second : Recorded

-- a wire that is read, and the path of a file
abbrev pub recorded : (wire path : List ℕ) → Option Recorded
recorded wire path = option_map (λ wire. record { wire = wire; path = path }) (read_wire_named wire)

-- TABLE ROOT WIRE1 FILE1 WIRE2 FILE2
abbrev pub compare_of : List (List ℕ) → Option Compare
compare_of (table ∷ root ∷ wire1 ∷ file1 ∷ wire2 ∷ file2 ∷ []) = option_and_then (λ first. option_map
    (λ second. record { table_path = table; root_name = root; first = first; second = second }) (recorded wire2 file2))
    (recorded wire1 file1)
compare_of _ = None

-- a body in a file as plain data
abbrev pub recorded_view : kept_recorded.Recorded → Recorded
recorded_view r = record { wire = named_wire r.wire; path = r.path.now }

-- the command as plain data
abbrev pub compare_view : kept.Compare → Compare
compare_view c = record {
  table_path = c.table.now;
  root_name = c.root.now;
  first = recorded_view c.first;
  second = recorded_view c.second;
}

-- ---- the statuses

-- where the second of two bodies was refused
abbrev pub status_of_second_error : TranscodeError → Status
status_of_second_error errors.InvalidInput = SecondInvalidInput
status_of_second_error errors.TooDeep = SecondTooDeep
status_of_second_error errors.TooWide = SecondTooWide
status_of_second_error errors.NotCarried = SecondNotCarried
status_of_second_error (errors.Inexpressible u) = Inexpressible u
status_of_second_error errors.NoMemory = OutOfMemory

-- where two bodies were not compared
abbrev pub status_of_compare_error : CompareError → Status
status_of_compare_error (bodies.First e) = status_of_error e
status_of_compare_error (bodies.Second e) = status_of_second_error e
status_of_compare_error bodies.NoMemory = OutOfMemory

-- where they were
abbrev pub status_of_compared : Compared → Status
status_of_compared compared.Same = Done
status_of_compared (compared.Differs path) = Differs

-- whatever `compare` answers
abbrev pub status_of_comparison : Answer → Status
status_of_comparison (Ok found) = status_of_compared found
status_of_comparison (Err e) = status_of_compare_error e

-- ---- what a status says

-- what each path tells at one moment
abbrev pub FilesTold : Type 0
FilesTold = List ℕ → Shown

-- a fault shows in the count of a file that isn't told to be steady
abbrev pub MetFault : Shown → Shown → Type 0
MetFault old new = HasFailed old new × (old.is_steady ≡ false)

-- ---- the checks, each where those before it passed

-- the first body was loaded, and P holds of the table, the root and the body
abbrev pub AfterFirst : Compare → FilesTold → (Table → ℕ → List ℕ → Type 0) → Type 0
AfterFirst c files P =
    AfterRoot c.root_name (files c.table_path)
    (λ table root. (first : List ℕ) × IsLoaded longest_input first (files c.first.path) × P table root first)

-- the second was loaded too, and P holds of the table, the root and both bodies
abbrev pub AfterBoth : Compare → FilesTold → (Table → ℕ → List ℕ → List ℕ → Type 0) → Type 0
AfterBoth c files P =
    AfterFirst c files
    (λ table root first. (second : List ℕ) × IsLoaded longest_input second (files c.second.path) × P table root first second)

-- P holds of the limit and the path of the table, or of the first body, or of the second
abbrev pub AtOneOfThem : Compare → FilesTold → (ℕ → List ℕ → Type 0) → Type 0
AtOneOfThem c files P =
    P longest_table c.table_path
    ⊎ (AfterRoot c.root_name (files c.table_path) (λ table root. P longest_input c.first.path)
    ⊎ AfterFirst c files (λ table root first. P longest_input c.second.path))

-- `compare` answers so of two bodies in the wires of the words
abbrev pub Answers : Compare → Table → ℕ → (first second : List ℕ) → Answer → Type 0
Answers c table root first second = Compares table root c.first.wire first c.second.wire second

-- ---- what was found

-- the line that tells it
abbrev pub answer_line : Table → ℕ → Compared → List ℕ
answer_line table root compared.Same = codes "same\n"
answer_line table root (compared.Differs path) = codes "differs at " ++ text_of_path table root (path_of path) ++ codes "\n"

-- both bodies spell values, and P holds of what was found and of its line
abbrev pub AfterComparing : Compare → FilesTold → (Compared → List ℕ → Type 0) → Type 0
AfterComparing c files P =
    AfterBoth c files
    (λ table root first second. (found : Compared) × Answers c table root first second (Ok found) × P found (answer_line table root found))

-- a body is refused by an error that has this status
abbrev pub RefusesBody : Compare → FilesTold → Status → Type 0
RefusesBody c files status =
    AfterBoth c files
    (λ table root first second. (e : CompareError) × Answers c table root first second (Err e) × (status ≡ status_of_compare_error e))

-- why nothing was written
abbrev pub Refuses : Compare → (old new : FilesTold) → Status → Type 0
Refuses c old new ReadFailed = AtOneOfThem c old (λ limit path. MetFault (old path) (new path))
Refuses c old new TooLong = AtOneOfThem c old (λ limit path. IsTooLong limit (old path))
Refuses c old new OutOfMemory = Unit {0}
Refuses c old new status = RefusesTable c.root_name (old c.table_path) status ⊎ RefusesBody c old status

-- what a status says
abbrev pub Says : Compare → Environment → Environment → Status → Type 0
Says c old new Done = AfterComparing c old.files (λ found line. (found ≡ compared.Same) × Took line old.out new.out)
Says c old new Differs = AfterComparing c old.files (λ found line. (found ≢ compared.Same) × Took line old.out new.out)
Says c old new WriteFailed =
    AfterComparing c old.files (λ found line. MetOneFault old.out new.out × TookPrefix line old.out new.out)
Says c old new status = Refuses c old.files new.files status

-- all is told and in order, but for what the bodies are, and no count rose
pub record AllIsInOrder (c : Compare) (old new : Environment) (text first second : List ℕ)
    (table : Table) (root : ℕ) : Type 0 where
  pub file : IsInOrder longest_table text (old.files c.table_path) (new.files c.table_path)
  pub accepted_as : table_of text ≡ accepted table
  pub is_root : IsRoot c.root_name table root
  pub first_file : IsInOrder longest_input first (old.files c.first.path) (new.files c.first.path)
  pub second_file : IsInOrder longest_input second (old.files c.second.path) (new.files c.second.path)
  pub out_is_well : ¬ (HasFailed old.out new.out)

-- What a status says where the words name these files.
pub record CompareAnswer (c : Compare) (old new : Environment) (status : Status) : Type 0 where
  -- a status comes only where the checks before it passed: table, root, first body, second body, comparison, write
  pub says : Says c old new status
  pub input_is_untouched : new.input ≡ old.input
  pub files_are_kept : (path : List ℕ) → (new.files path).content ≡ (old.files path).content
  -- where all is told and in order and no count rose, the status is that of an answer for these bodies, want of memory aside
  pub complete : (text first second : List ℕ) (table : Table) (root : ℕ)
      → AllIsInOrder c old new text first second table root → (status ≡ OutOfMemory)
      ⊎ ((answer : Answer) × Answers c table root first second answer × (status ≡ status_of_comparison answer))
  -- over files and an output that are told to be steady neither 6 nor 7 comes
  pub steady_never_fails : (old.files c.table_path).is_steady ≡ true → (old.files c.first.path).is_steady ≡ true
      → (old.files c.second.path).is_steady ≡ true → old.out.is_steady ≡ true
      → (status ≢ ReadFailed) × (status ≢ WriteFailed)
  pub output : WritesAtOnce old new status

-- ---- the steps, for private clauses

-- what was found has this status and this line
abbrev pub IsFound : Compare → Table → ℕ → (first second : List ℕ) → Status → List ℕ → Type 0
IsFound c table root first second status line =
    (found : Compared) × Answers c table root first second (Ok found) × (status ≡ status_of_compared found)
    × (line ≡ answer_line table root found)

-- the same of two bodies that the files hold
abbrev pub IsFoundIn : Compare → FilesTold → Status → List ℕ → Type 0
IsFoundIn c files status line =
    AfterComparing c files (λ found text. (status ≡ status_of_compared found) × (line ≡ text))

-- why nothing was found: a body is refused, or memory was wanting
abbrev pub FailsToCompare : Compare → Table → ℕ → (first second : List ℕ) → Status → Type 0
FailsToCompare c table root first second status =
    (status ≡ OutOfMemory)
    ⊎ ((error : CompareError) × Answers c table root first second (Err error) × (status ≡ status_of_compare_error error))
