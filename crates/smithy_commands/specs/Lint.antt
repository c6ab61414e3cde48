-- The command `lint TABLE ROOT WIRE`: its words, and what a status says where they are it.
use Rattle.std.specs.Prelude.{◌≡◌, ◌⊎◌, ◌↔◌, ◌≤◌, ◌++◌, ℕ, List, [], ◌∷◌, Option, None, option_map, flat_map, codes}
use Rattle.smithy_declarations.specs.Table.{Table}
use Rattle.smithy_declarations.specs.Value.{Value}
use Rattle.smithy_transcode.specs.Spelling.{Spells}
use Rattle.smithy_transcode.specs.Wires.{Wire}
use Rattle.smithy_compare.specs.PathText.{text_of_path}
use Rattle.smithy_lint.specs.declared.finding.Kind.{Kind}
use Rattle.smithy_lint.specs.declared.finding.Kind.TheVariants as kinds
use Rattle.smithy_lint.specs.declared.linting.LintError.{LintError}
use Rattle.smithy_lint.specs.declared.linting.LintError.TheVariants as errors
use Rattle.smithy_lint.specs.Findings.{Found}
use Rattle.smithy_lint.specs.Lint.{HasFindings, IsEmptyBody, IsTextWithin, KnowsAll, opening_bytes}
use Rattle.smithy_commands.specs.declared.commands.lint.Lint as kept
use Rattle.smithy_commands.specs.declared.status.Status.{Status}
use Rattle.smithy_commands.specs.declared.status.Status.TheVariants.{Done, OutOfMemory, FindingsTold, NotWellFormed, TooNested}
use Rattle.smithy_commands.specs.WireWords.{read_wire_named, named_wire}
use Rattle.smithy_commands.specs.OneInput.{InputCommand, AllIsInOrder, InputAnswer}
use Rattle.smithy_outside.specs.Outside.{Environment}

-- ---- the words

-- lint TABLE ROOT WIRE
pub record Lint : Type 0 where
  pub table_path : List ℕ
  pub root_name : List ℕ
  pub wire : Wire

-- TABLE ROOT WIRE
abbrev pub lint_of : List (List ℕ) → Option Lint
lint_of (table ∷ root ∷ wire ∷ []) =
    option_map (λ wire. record { table_path = table; root_name = root; wire = wire }) (read_wire_named wire)
lint_of _ = None

-- the command as plain data
abbrev pub lint_view : kept.Lint → Lint
lint_view c = record { table_path = c.table.now; root_name = c.root.now; wire = named_wire c.wire }

-- ---- the lines

abbrev pub kind_text : Kind → List ℕ
kind_text kinds.Unknown = codes "unknown"
kind_text kinds.Mismatch = codes "mismatch"
kind_text kinds.Wide = codes "wide"
kind_text kinds.NotCarried = codes "not carried"
kind_text kinds.Deep = codes "deep"
kind_text kinds.Key = codes "key"
kind_text kinds.Union = codes "union"
kind_text kinds.Null = codes "null"

-- the text of the path, a space and the kind
abbrev pub finding_line : Table → ℕ → Found → List ℕ
finding_line table root f = text_of_path table root f.path ++ codes " " ++ kind_text f.kind ++ codes "\n"

abbrev pub finding_lines : Table → ℕ → List Found → List ℕ
finding_lines table root found = flat_map (finding_line table root) found

-- ---- the statuses

-- by whether anything was found
abbrev pub status_of_found : List Found → Status
status_of_found [] = Done
status_of_found (f ∷ more) = FindingsTold

-- where nothing was looked for
abbrev pub status_of_lint_error : LintError → Status
status_of_lint_error errors.NotWellFormed = NotWellFormed
status_of_lint_error errors.TooNested = TooNested
status_of_lint_error errors.NoMemory = OutOfMemory

-- ---- what a status says

-- A line for each finding of the input, in order. There is none exactly where the input spells a value and no entry in it is unknown.
abbrev pub GivesFindings : Lint → Table → ℕ → List ℕ → Status → List ℕ → Type 0
GivesFindings c table root input status bytes =
    (found : List Found) × HasFindings c.wire table root input found
    × (status ≡ status_of_found found) × (bytes ≡ finding_lines table root found)
    × ((found ≡ []) ↔ (((v : Value) × Spells c.wire table root input v) × KnowsAll c.wire table root input))

-- why nothing was looked for, by the status
abbrev pub RefusesBody : Lint → Table → ℕ → List ℕ → Status → Type 0
RefusesBody c table root input NotWellFormed = ¬ IsEmptyBody c.wire input × ((most : ℕ) → ¬ IsTextWithin c.wire most input)
RefusesBody c table root input TooNested =
    ¬ IsEmptyBody c.wire input × ¬ IsTextWithin c.wire 512 input × (513 ≤ opening_bytes c.wire input)
RefusesBody c table root input OutOfMemory = Unit {0}
RefusesBody c table root input _ = ⊥

-- what the command says of an input
abbrev pub answers_of : Lint → InputCommand
answers_of c = record {
  table_path = c.table_path;
  root_name = c.root_name;
  gives = GivesFindings c;
  refuses = RefusesBody c;
}

-- What a status says where the words are this command.
pub record LintAnswer (c : Lint) (old new : Environment) (status : Status) : Type 0 where
  pub answers : InputAnswer (answers_of c) old new status
  -- all findings are told where all is in order and the input is empty or a text in which at most 512 containers nest, want of
  -- memory aside
  pub told : (text input : List ℕ) (table : Table) (root : ℕ) → AllIsInOrder (answers_of c) old new text input table root
      → IsEmptyBody c.wire input ⊎ IsTextWithin c.wire 512 input
      → (status ≡ Done) ⊎ ((status ≡ FindingsTold) ⊎ (status ≡ OutOfMemory))
