-- The command `transcode TABLE ROOT FROM TO`: its words, and what a status says where they are it.
use Rattle.std.specs.Prelude.{◌≡◌, ◌⊎◌, ℕ, List, ◌∷◌, Option, Some, None, option_and_then, option_map}
use Rattle.smithy_declarations.specs.Table.{Table}
use Rattle.smithy_declarations.specs.Value.{Value}
use Rattle.smithy_transcode.specs.Spelling.{Spells, body}
use Rattle.smithy_transcode.specs.ReadBody.{IsRefusedFor}
use Rattle.smithy_transcode.specs.Transcoding.{TellsAgain}
use Rattle.smithy_transcode.specs.Wires.{Wire, unfit}
use Rattle.smithy_transcode.specs.declared.wire.TranscodeError.TheVariants as errors
use Rattle.smithy_commands.specs.declared.commands.transcode.Transcode as kept
use Rattle.smithy_commands.specs.declared.status.Status.{Status}
use Rattle.smithy_commands.specs.declared.status.Status.TheVariants.{Done, OutOfMemory, InvalidInput, TooDeep, TooWide, NotCarried, Inexpressible}
use Rattle.smithy_commands.specs.WireWords.{read_wire_named, wanted_wire, named_wire}
use Rattle.smithy_commands.specs.OneInput.{InputCommand, AllIsInOrder, InputAnswer}
use Rattle.smithy_outside.specs.Outside.{Environment}

-- ---- the words

-- transcode TABLE ROOT FROM TO
pub record Transcode : Type 0 where
  pub table_path : List ℕ
  pub root_name : List ℕ
  pub from : Wire
  pub to : Wire

-- TABLE ROOT FROM TO
abbrev pub transcode_of : List (List ℕ) → Option Transcode
transcode_of (table ∷ root ∷ from ∷ to) = option_and_then
    (λ from. option_map (λ to. record { table_path = table; root_name = root; from = from; to = to }) (wanted_wire to))
    (read_wire_named from)
transcode_of _ = None

-- the command as plain data
abbrev pub transcode_view : kept.Transcode → Transcode
transcode_view c =
    record { table_path = c.table.now; root_name = c.root.now; from = named_wire c.from; to = named_wire c.to }

-- ---- what a status says

-- the body of the value that the input spells, where the wanted wire can express it; that body tells the value again
abbrev pub GivesBody : Transcode → Table → ℕ → List ℕ → Status → List ℕ → Type 0
GivesBody c table root input status bytes =
    (status ≡ Done) × ((v : Value) × Spells c.from table root input v × (unfit c.to table root v ≡ None)
    × TellsAgain c.to table root bytes v × (bytes ≡ body c.to table root v))

-- why there is no body, by the status
abbrev pub RefusesBody : Transcode → Table → ℕ → List ℕ → Status → Type 0
RefusesBody c table root input InvalidInput = IsRefusedFor c.from table root input errors.InvalidInput
RefusesBody c table root input TooDeep = IsRefusedFor c.from table root input errors.TooDeep
RefusesBody c table root input TooWide = IsRefusedFor c.from table root input errors.TooWide
RefusesBody c table root input NotCarried = IsRefusedFor c.from table root input errors.NotCarried
RefusesBody c table root input (Inexpressible u) =
    (v : Value) × Spells c.from table root input v × (unfit c.to table root v ≡ Some u)
RefusesBody c table root input OutOfMemory = Unit {0}
RefusesBody c table root input _ = ⊥

-- what the command says of an input
abbrev pub answers_of : Transcode → InputCommand
answers_of c = record {
  table_path = c.table_path;
  root_name = c.root_name;
  gives = GivesBody c;
  refuses = RefusesBody c;
}

-- What a status says where the words are this command.
pub record TranscodeAnswer (c : Transcode) (old new : Environment) (status : Status) : Type 0 where
  pub answers : InputAnswer (answers_of c) old new status
  -- the program is done where all is in order and the input spells what the wanted wire can express, want of memory aside
  pub done : (text input : List ℕ) (table : Table) (root : ℕ) (v : Value)
      → AllIsInOrder (answers_of c) old new text input table root → Spells c.from table root input v
      → unfit c.to table root v ≡ None → (status ≡ Done) ⊎ (status ≡ OutOfMemory)
