-- What the number that a run ends with says of the outside.
use Rattle.std.specs.Prelude.{◌≡◌, ◌↔◌, ℕ, List, Some, None, true, false}
use Rattle.smithy_commands.specs.declared.status.Status.{Status}
use Rattle.smithy_commands.specs.declared.status.Status.TheVariants.{Usage}
use Rattle.smithy_commands.specs.Command.{Command, command_of, CommandAnswer}
use Rattle.smithy_commands.specs.Status.{status_code, is_answer, line_of}
use Rattle.smithy_outside.specs.Outside.{Environment, Outside, TookLine}

-- What a status says of the files, the input and the output.
pub record StatusAnswer (words : List (List ℕ)) (old new : Environment) (status : Status) : Type 0 where
  pub is_usage : (status ≡ Usage) ↔ (command_of words ≡ None)
  pub answers : (c : Command) → command_of words ≡ Some c → CommandAnswer c old new status
  -- words that are no command move nothing but standard error
  pub only_for_a_command : command_of words ≡ None → new ≡ old
  pub files_are_kept : (path : List ℕ) → (new.files path).content ≡ (old.files path).content

-- What the number says that `run` answers: it is that of a status, whatever becomes of standard error.
pub record RunAnswer (words : List (List ℕ)) (old new : Outside) (code : ℕ) : Type 0 where
  pub status : Status
  pub has_code : code ≡ status_code status
  pub says : StatusAnswer words old.environment new.environment status
  -- standard error tells, counts and holds back what it did before, or it took the line of the status
  pub err_is_untouched : is_answer status ≡ true
      → (new.err ≡ old.err) × (new.err_holds_back ≡ old.err_holds_back)
  pub err_took_the_line : is_answer status ≡ false → TookLine (line_of status) old.err new.err new.err_holds_back
