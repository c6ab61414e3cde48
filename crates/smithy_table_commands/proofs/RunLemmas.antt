-- What the steps of a run say together.
use Rattle.std.proofs.Common.{◌≡◌, ◌≢◌, inl, inr, ℕ, List, Bool, Some, None, false, refl, subst}
use Rattle.smithy_model.specs.declared.fault.ModelFault.{ModelFault}
use Rattle.smithy_model.specs.declared.fault.ModelFault.TheVariants as model_faults
use Rattle.smithy_model_table.specs.declared.fault.WantedFault.{WantedFault}
use Rattle.smithy_model_table.specs.declared.fault.WantedFault.TheVariants as wanted_faults
use Rattle.smithy_model.specs.Model.{Model}
use Rattle.smithy_model.specs.Reading.{IsModelText}
use Rattle.smithy_model.specs.Faults.{RefusesText}
use Rattle.smithy_model_table.specs.Wanted.{Wanted}
use Rattle.smithy_model_table.specs.Refusals.{RefusesWanted}
use Rattle.smithy_outside.specs.Outside.{Shown, TookLine}
use Rattle.smithy_table_commands.specs.declared.status.Status as kept
use Rattle.smithy_table_commands.specs.declared.status.Status.TheVariants as statuses
use Rattle.smithy_table_commands.specs.Command.{Task, command_of}
use Rattle.smithy_table_commands.specs.Status.{status_code, is_answer, line_of, last_line, status_of_model_fault, status_of_wanted_fault}
use Rattle.smithy_table_commands.specs.RunAnswer.{FailsToLoad, Refuses, TaskAnswer, RunAnswer}

-- the text is no model
pub model_refused : (text : List ℕ) (w : Wanted) (fault : ModelFault) → RefusesText text fault → Refuses text w (status_of_model_fault fault)
model_refused text w model_faults.NotJson one = one
model_refused text w model_faults.NameTwice one = one
model_refused text w model_faults.NotAModel one = one
model_refused text w (model_faults.BadShape id) one = one
model_refused text w (model_faults.UnknownTarget id) one = one
model_refused text w (model_faults.BadMixin id) one = one
model_refused text w (model_faults.Applied id) one = one
model_refused text w model_faults.NoMemory one = tt

-- the model has no such table
pub table_refused : (text : List ℕ) (w : Wanted) (fault : WantedFault) → (m : Model) × IsModelText text m × RefusesWanted m w fault
    → Refuses text w (status_of_wanted_fault fault)
table_refused text w wanted_faults.NoSuchName is = is
table_refused text w wanted_faults.NoDeclaration is = is
table_refused text w wanted_faults.TooLong is = is
table_refused text w (wanted_faults.TableRefused fault) is = is
table_refused text w wanted_faults.Unwritable is = is
table_refused text w wanted_faults.NoMemory is = tt

-- a refusal isn't the status of a table that is written
pub refused_before : (text : List ℕ) (w : Wanted) (s : kept.Status) → Refuses text w s → is_answer s ≡ false
refused_before text w statuses.Done refused = absurd refused
refused_before text w _ refused = refl

pub unloaded_before : (a b : Shown) (s : kept.Status) → FailsToLoad a b s → is_answer s ≡ false
unloaded_before a b statuses.Done fails = absurd fails
unloaded_before a b _ fails = refl

usage_is_none : (task : Task) (old_file new_file old_out new_out : Shown) (was_back kept_back : Bool) (old_err new_err : Shown) (held : Bool)
    → TaskAnswer task old_file new_file old_out new_out was_back kept_back old_err new_err held statuses.Usage → ⊥
usage_is_none task old_file new_file old_out new_out was_back kept_back old_err new_err held (inl fails) = fails.0
usage_is_none task old_file new_file old_out new_out was_back kept_back old_err new_err held (inr (text, loaded, well, inl refused)) = refused.0
usage_is_none task old_file new_file old_out new_out was_back kept_back old_err new_err held (inr (text, loaded, well, inr (m, table, left, is, made, handed, line))) = handed

-- no task ends with the status of wrong words
pub never_usage : (task : Task) (old_file new_file old_out new_out : Shown) (was_back kept_back : Bool) (old_err new_err : Shown) (held : Bool) (s : kept.Status)
    → TaskAnswer task old_file new_file old_out new_out was_back kept_back old_err new_err held s → s ≢ statuses.Usage
never_usage task old_file new_file old_out new_out was_back kept_back old_err new_err held s says =
    λ usage. usage_is_none task old_file new_file old_out new_out was_back kept_back old_err new_err held
    (subst (λ (t : kept.Status). TaskAnswer task old_file new_file old_out new_out was_back kept_back old_err new_err held t) usage says)

-- what words that ask for a task answer
pub of_task : (words : List (List ℕ)) (task : Task) (old new : List ℕ → Shown) (old_out new_out old_err new_err : Shown) (was_back kept_back held : Bool) (code : ℕ) (s : kept.Status)
    → command_of words ≡ Some task → code ≡ status_code s
    → TaskAnswer task (old task.model_path) (new task.model_path) old_out new_out was_back kept_back old_err new_err held s
    → RunAnswer words old new old_out new_out old_err new_err was_back kept_back held code
of_task words task old new old_out new_out old_err new_err was_back kept_back held code s asked has says = record {
  status = s;
  has_code = has;
  is_usage = (
    λ usage. absurd (never_usage task (old task.model_path) (new task.model_path) old_out new_out was_back kept_back old_err new_err held s says usage),
    λ none. absurd (cc (none, asked)),
  );
  answers = λ t is.
      let same : task ≡ t = cc (asked, is) in
      subst (λ (u : Task). TaskAnswer u (old u.model_path) (new u.model_path) old_out new_out was_back kept_back old_err new_err held s) same says;
  only_for_a_task = λ none. absurd (cc (none, asked));
}

-- words that ask for none
pub of_no_task : (words : List (List ℕ)) (files : List ℕ → Shown) (out old_err new_err : Shown) (kept_back held : Bool) (code : ℕ) → command_of words ≡ None
    → code ≡ status_code statuses.Usage → TookLine (line_of statuses.Usage) old_err new_err held → RunAnswer words files files out out old_err new_err kept_back kept_back held code
of_no_task words files out old_err new_err kept_back held code none has line = record {
  status = statuses.Usage;
  has_code = has;
  is_usage = (λ usage. none, λ asked. refl);
  answers = λ task asked. absurd (cc (none, asked));
  only_for_a_task = λ is. (refl, (refl, refl), line);
}

-- the last line of a status other than 0
pub last_other : (s : kept.Status) → s ≢ statuses.Done → last_line s ≡ line_of s
last_other statuses.Done other = absurd (other refl)
last_other _ other = refl
