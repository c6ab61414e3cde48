-- What the number that a run ends with says of the words, of the file and of the output.
use Rattle.std.specs.Prelude.{◌≡◌, ◌≢◌, ◌⊎◌, ◌↔◌, ◌≤◌, ℕ, List, length, ◌&&◌, not, Bool, true, false, Some, None}
use Rattle.std.specs.List.{list_any}
use Rattle.smithy_model.specs.declared.fault.ModelFault.TheVariants as faults
use Rattle.smithy_model.specs.Model.{Model}
use Rattle.smithy_model.specs.Reading.{IsModelText}
use Rattle.smithy_model.specs.Faults.{RefusesText}
use Rattle.smithy_model_table.specs.Leaving.{Reason, outside}
use Rattle.smithy_model_table.specs.Outcomes.{LeftOut as Left}
use Rattle.smithy_model_table.specs.declared.fault.WantedFault.{WantedFault}
use Rattle.smithy_model_table.specs.declared.fault.WantedFault.TheVariants as wanted_faults
use Rattle.smithy_model_table.specs.Wanted.{Wanted}
use Rattle.smithy_model_table.specs.Refusals.{RefusesWanted}
use Rattle.smithy_model_table.specs.ModelTable.{IsTableOf}
use Rattle.smithy_outside.specs.Outside.{Shown, missing, MetOneFault, MetNoFault, IsWhole, IsLonger, Took, TookPrefix, TookLine}
use Rattle.smithy_table_commands.specs.declared.status.Status.{Status}
use Rattle.smithy_table_commands.specs.declared.status.Status.TheVariants.{Done, Usage, ReadFailed, WriteFailed, OutOfMemory, TableRefused, NoSuchName, NoDeclaration, TooLong, NotJson, NotAModel, BadShape, UnknownTarget, BadMixin, Applied, Unwritable, LeftOut, NameTwice}
use Rattle.smithy_table_commands.specs.Command.{Task, command_of}
use Rattle.smithy_table_commands.specs.Status.{status_code, line_of, said}

-- in bytes
abbrev pub longest_model : ℕ
longest_model = 67_108_864

-- a file that isn't told to be missing was loaded whole, and is within the limit of a model
pub record IsLoaded (text : List ℕ) (file : Shown) : Type 0 where
  pub whole : IsWhole text file
  pub there : file.content ≢ missing
  pub within : length text ≤ longest_model

-- why the file wasn't loaded: a fault that it met, which is the only one; or it met none, and is too long, or memory is wanting
abbrev pub FailsToLoad : (old new : Shown) → Status → Type 0
FailsToLoad old new ReadFailed = MetOneFault old new
FailsToLoad old new TooLong = MetNoFault old new × (old.content ≢ missing) × IsLonger longest_model old
FailsToLoad old new OutOfMemory = MetNoFault old new
FailsToLoad old new _ = ⊥

-- the text is a model, and what is wanted of it has no table, by this cause
abbrev pub RefusesTable : List ℕ → Wanted → WantedFault → Type 0
RefusesTable text wanted fault = (m : Model) × IsModelText text m × RefusesWanted m wanted fault

-- why there is no table
abbrev pub Refuses : List ℕ → Wanted → Status → Type 0
Refuses text wanted Done = ⊥
Refuses text wanted Usage = ⊥
Refuses text wanted ReadFailed = ⊥
Refuses text wanted WriteFailed = ⊥
Refuses text wanted LeftOut = ⊥
Refuses text wanted OutOfMemory = Unit {0}
Refuses text wanted NotJson = RefusesText text faults.NotJson
Refuses text wanted NameTwice = RefusesText text faults.NameTwice
Refuses text wanted NotAModel = RefusesText text faults.NotAModel
Refuses text wanted (BadShape id) = RefusesText text (faults.BadShape id)
Refuses text wanted (UnknownTarget id) = RefusesText text (faults.UnknownTarget id)
Refuses text wanted (BadMixin id) = RefusesText text (faults.BadMixin id)
Refuses text wanted (Applied id) = RefusesText text (faults.Applied id)
Refuses text wanted NoSuchName = RefusesTable text wanted wanted_faults.NoSuchName
Refuses text wanted NoDeclaration = RefusesTable text wanted wanted_faults.NoDeclaration
Refuses text wanted TooLong = RefusesTable text wanted wanted_faults.TooLong
Refuses text wanted (TableRefused fault) = RefusesTable text wanted (wanted_faults.TableRefused fault)
Refuses text wanted Unwritable = RefusesTable text wanted wanted_faults.Unwritable

-- a body may have such a member: only one that travels outside of it is in none
abbrev pub is_lost : Reason → Bool
is_lost outside = false
is_lost _ = true

-- a table without these members loses data of bodies
abbrev pub loses_data : List Left → Bool
loses_data left = list_any (λ (l : Left). is_lost l.reason) left

-- data is lost, and the words don't allow it
abbrev pub is_forbidden : List Left → Bool → Bool
is_forbidden left is_partial = loses_data left && not is_partial

-- what the output tells and counts stays, and what it holds back
abbrev pub IsUntouched : (old new : Shown) → (held_back holds_back : Bool) → Type 0
IsUntouched old new held_back holds_back = (new ≡ old) × (holds_back ≡ held_back)

-- what becomes of a table: the output took it whole and holds nothing back, or it took a front of it and met a fault, or the table may
-- not be written
abbrev pub HandsOut : (table : List ℕ) → List Left → (is_partial : Bool) → (old new : Shown) → (held_back holds_back : Bool) → Status → Type 0
HandsOut table left is_partial old new held_back holds_back Done =
    (is_forbidden left is_partial ≡ false) × MetNoFault old new × Took table old new × (holds_back ≡ false)
HandsOut table left is_partial old new held_back holds_back WriteFailed =
    (is_forbidden left is_partial ≡ false) × MetOneFault old new × TookPrefix table old new
HandsOut table left is_partial old new held_back holds_back LeftOut =
    (is_forbidden left is_partial ≡ true) × IsUntouched old new held_back holds_back
HandsOut table left is_partial old new held_back holds_back _ = ⊥

-- What a status says of the text of a model: it has no table, the output stays, and standard error took the last line; or it has this
-- table, and standard error took a line for each member that the table leaves out, and the last line.
abbrev pub SaysOf : List ℕ → Task → (old new : Shown) → (held_back holds_back : Bool) → (old_err new_err : Shown) → (err_holds_back : Bool) → Status → Type 0
SaysOf text task old new held_back holds_back old_err new_err err_holds_back status =
    (Refuses text task.wanted status × IsUntouched old new held_back holds_back
    × TookLine (line_of status) old_err new_err err_holds_back)
    ⊎ ((m : Model) × (table : List ℕ) × (left : List Left) × IsModelText text m × IsTableOf m task.wanted table left
    × HandsOut table left task.is_partial old new held_back holds_back status
    × TookLine (said left status) old_err new_err err_holds_back)

-- What a status says where the words ask for a task: of the file of the model, of the output and of standard error.
abbrev pub TaskAnswer : Task → (old_file new_file old_out new_out : Shown) → (out_held_back out_holds_back : Bool) → (old_err new_err : Shown) → (err_holds_back : Bool) → Status → Type 0
TaskAnswer task old_file new_file old_out new_out out_held_back out_holds_back old_err new_err err_holds_back status =
    (FailsToLoad old_file new_file status × IsUntouched old_out new_out out_held_back out_holds_back
    × TookLine (line_of status) old_err new_err err_holds_back)
    ⊎ ((text : List ℕ) × IsLoaded text old_file × MetNoFault old_file new_file
    × SaysOf text task old_out new_out out_held_back out_holds_back old_err new_err err_holds_back status)

-- What the number says that `run` answers: it is that of a status.
pub record RunAnswer (words : List (List ℕ)) (old_files new_files : List ℕ → Shown) (old_out new_out old_err new_err : Shown) (out_held_back out_holds_back err_holds_back : Bool) (code : ℕ) : Type 0 where
  pub status : Status
  pub has_code : code ≡ status_code status
  pub is_usage : (status ≡ Usage) ↔ (command_of words ≡ None)
  pub answers : (task : Task) → command_of words ≡ Some task
      → TaskAnswer task (old_files task.model_path) (new_files task.model_path) old_out new_out out_held_back out_holds_back old_err new_err err_holds_back status
  -- words that ask for no task move nothing but standard error
  pub only_for_a_task : command_of words ≡ None
      → (new_files ≡ old_files) × IsUntouched old_out new_out out_held_back out_holds_back
      × TookLine (line_of status) old_err new_err err_holds_back
