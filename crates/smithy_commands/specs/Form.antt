-- The command `form TABLE ROOT TO`: its words, and what a status says where they are it.
use Rattle.std.specs.Prelude.{◌≡◌, ◌⊎◌, ℕ, List, ◌∷◌, Option, Some, None, option_map}
use Rattle.smithy_declarations.specs.Table.{Table}
use Rattle.smithy_declarations.specs.Value.{Value}
use Rattle.smithy_shapes.specs.Site.{shape_site}
use Rattle.smithy_transcode.specs.Spelling.{body}
use Rattle.smithy_transcode.specs.Wires.{Wire, unfit}
use Rattle.smithy_form.specs.Forms.{with_bad_pair, no_form, with_repeated, parted, parts_of}
use Rattle.smithy_form.specs.Pairs.{NamedText, Tell, TellAlone}
use Rattle.smithy_form.specs.declared.error.FormError.{FormError}
use Rattle.smithy_form.specs.declared.error.FormError.TheVariants as errors
use Rattle.smithy_commands.specs.declared.commands.form.Form as kept
use Rattle.smithy_commands.specs.declared.status.Status.{Status}
use Rattle.smithy_commands.specs.declared.status.Status.TheVariants.{Done, OutOfMemory, Inexpressible, BadPair, NotForm, Repeated, NoValue}
use Rattle.smithy_commands.specs.WireWords.{wanted_wire, named_wire}
use Rattle.smithy_commands.specs.OneInput.{InputCommand, AllIsInOrder, InputAnswer}
use Rattle.smithy_outside.specs.Outside.{Environment}

-- ---- the words

-- form TABLE ROOT TO
pub record Form : Type 0 where
  pub table_path : List ℕ
  pub root_name : List ℕ
  pub to : Wire

-- TABLE ROOT TO
abbrev pub form_of : List (List ℕ) → Option Form
form_of (table ∷ root ∷ to) = option_map (λ to. record { table_path = table; root_name = root; to = to }) (wanted_wire to)
form_of _ = None

-- the command as plain data
abbrev pub form_view : kept.Form → Form
form_view c = record { table_path = c.table.now; root_name = c.root.now; to = named_wire c.to }

-- ---- what a status says

-- where no value was read
abbrev pub status_of_form_error : FormError → Status
status_of_form_error (errors.BadPair n) = BadPair n
status_of_form_error errors.NotForm = NotForm
status_of_form_error (errors.Repeated n) = Repeated n
status_of_form_error errors.NoValue = NoValue
status_of_form_error errors.NoMemory = OutOfMemory

-- the input is a form, and P holds of the pairs after the action and the version
abbrev pub IsFormWith : List ℕ → (List NamedText → Type 0) → Type 0
IsFormWith input P =
    (action : List ℕ) × (version : List ℕ) × (pairs : List NamedText) × (parts_of input ≡ parted action version pairs) × P pairs

-- the pairs of the input are the leaves of this plain value, and of no other
abbrev pub TellsValue : Table → ℕ → List ℕ → Value → Type 0
TellsValue table root input v = IsFormWith input (λ pairs. TellAlone (shape_site table root) pairs v)

-- the body of the plain value that the input tells, where the wanted wire can express it
abbrev pub GivesBody : Form → Table → ℕ → List ℕ → Status → List ℕ → Type 0
GivesBody c table root input status bytes =
    (status ≡ Done) × ((v : Value) × TellsValue table root input v × (unfit c.to table root v ≡ None)
    × (bytes ≡ body c.to table root v))

-- why there is no body, by the status
abbrev pub RefusesForm : Form → Table → ℕ → List ℕ → Status → Type 0
RefusesForm c table root input (BadPair n) = parts_of input ≡ with_bad_pair n
RefusesForm c table root input NotForm = parts_of input ≡ no_form
RefusesForm c table root input (Repeated n) = parts_of input ≡ with_repeated n
RefusesForm c table root input NoValue = IsFormWith input (λ pairs. (v : Value) → ¬ Tell (shape_site table root) pairs v)
RefusesForm c table root input (Inexpressible u) =
    (v : Value) × TellsValue table root input v × (unfit c.to table root v ≡ Some u)
RefusesForm c table root input OutOfMemory = Unit {0}
RefusesForm c table root input _ = ⊥

-- what the command says of an input
abbrev pub answers_of : Form → InputCommand
answers_of c = record {
  table_path = c.table_path;
  root_name = c.root_name;
  gives = GivesBody c;
  refuses = RefusesForm c;
}

-- What a status says where the words are this command.
pub record FormAnswer (c : Form) (old new : Environment) (status : Status) : Type 0 where
  pub answers : InputAnswer (answers_of c) old new status
  -- the program is done where all is in order and the input tells a plain value that the wanted wire can express, want of memory
  -- aside
  pub done : (text input : List ℕ) (table : Table) (root : ℕ) (v : Value)
      → AllIsInOrder (answers_of c) old new text input table root → TellsValue table root input v
      → unfit c.to table root v ≡ None → (status ≡ Done) ⊎ (status ≡ OutOfMemory)
