-- What the status of a step of `run` says.
use Rattle.std.specs.Prelude.{◌≡◌, ℕ, List, Some, None}
use Rattle.smithy_declarations.specs.Table.{Table, IsStructure, kind_of, shape_place, declared_as}
use Rattle.smithy_declarations.specs.Acceptance.{table_of}
use Rattle.smithy_commands.specs.declared.status.Status.{Status}
use Rattle.smithy_commands.specs.declared.status.Status.TheVariants.{ReadFailed, OutOfMemory, TableRefused, NoSuchShape, NotAStructure, TooLong}
use Rattle.smithy_outside.specs.Outside.{Shown, MetOneFault}
use Rattle.smithy_commands.specs.Checks.{IsLoaded, IsTooLong, IsRefusal, longest_table}

-- why a file wasn't loaded
abbrev pub FailsToRead : ℕ → Shown → Shown → Status → Type 0
FailsToRead limit old new ReadFailed = MetOneFault old new
FailsToRead limit old new OutOfMemory = Unit {0}
FailsToRead limit old new TooLong = IsTooLong limit old
FailsToRead limit old new _ = ⊥

-- why no table was loaded from a file
abbrev pub FailsToLoad : Shown → Shown → Status → Type 0
FailsToLoad old new (TableRefused fault) =
    (text : List ℕ) × IsLoaded longest_table text old × IsRefusal fault (table_of text)
FailsToLoad old new status = FailsToRead longest_table old new status

-- why there is no root of this name
abbrev pub FailsToFind : Table → List ℕ → Status → Type 0
FailsToFind table name NoSuchShape = declared_as table name ≡ None
FailsToFind table name NotAStructure =
    (root : ℕ) × (declared_as table name ≡ Some root) × ¬ IsStructure (kind_of table (shape_place root))
FailsToFind table name _ = ⊥
