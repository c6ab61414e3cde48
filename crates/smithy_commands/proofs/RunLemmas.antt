-- What the status of a run says, by the command that the words are.
use Rattle.std.proofs.Common.{◌≡◌, ◌≢◌, ℕ, List, Some, None, refl, subst}
use Rattle.smithy_commands.specs.declared.status.Status.{Status}
use Rattle.smithy_commands.specs.declared.status.Status.TheVariants.{Usage}
use Rattle.smithy_commands.specs.Command.{Command, command_of, CommandAnswer}
use Rattle.smithy_outside.specs.Outside.{Environment}
use Rattle.smithy_commands.specs.RunAnswer.{StatusAnswer}

-- where the words are a command
pub status_of_command : (words : List (List ℕ)) (command : Command) (old new : Environment) (status : Status) → command_of words ≡ Some command
    → CommandAnswer command old new status → status ≢ Usage → ((path : List ℕ) → (new.files path).content ≡ (old.files path).content)
    → StatusAnswer words old new status
status_of_command words command old new status are answer other kept = record {
  is_usage = (λ e. absurd (other e), λ none. absurd (cc (none, are)));
  answers = λ c is. let same : command ≡ c = cc (are, is) in subst (λ (d : Command). CommandAnswer d old new status) same answer;
  only_for_a_command = λ none. absurd (cc (none, are));
  files_are_kept = kept;
}

-- where they are none, nothing moved
pub status_of_no_command : (words : List (List ℕ)) (e : Environment) → command_of words ≡ None → StatusAnswer words e e Usage
status_of_no_command words e none = record {
  is_usage = (λ same. none, λ same. refl);
  answers = λ c is. absurd (cc (none, is));
  only_for_a_command = λ same. refl;
  files_are_kept = λ path. refl;
}
