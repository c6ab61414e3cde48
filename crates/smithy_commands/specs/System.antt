-- How the process ends, by its arguments.
use Rattle.std.specs.Prelude.{◌≡◌, ◌⊎◌, ℕ, List, false}
use Rattle.std.specs.declared.io.ErrorKind.{ErrorKind}
use Rattle.smithy_outside.specs.Outside.{Outside, OnlyErrMoved, environment_of, outside, TookLine}
use Rattle.smithy_outside.specs.Os.{only_counts, IsUnread}
use Rattle.smithy_commands.specs.declared.status.Status.{Status}
use Rattle.smithy_commands.specs.declared.status.Status.TheVariants.{Usage, OutOfMemory}
use Rattle.smithy_commands.specs.Status.{status_code, line_of}
use Rattle.smithy_commands.specs.RunAnswer.{RunAnswer}

-- the real files and streams before a run: none of them met a fault
abbrev pub at_start : Outside
at_start = outside (environment_of (λ path. only_counts 0) (only_counts 0) (only_counts 0) false) (only_counts 0) false

-- the process ends with a status, and nothing moved but standard error, which took the line
abbrev pub EndsWithLine : Status → ℕ → Type 0
EndsWithLine status code =
    (new : Outside) × OnlyErrMoved at_start new × TookLine (line_of status) at_start.err new.err new.err_holds_back
    × (code ≡ status_code status)

-- a process with these words ends as a run over the real files and streams does, if memory for the words isn't wanting
abbrev pub EndsAsRun : List (List ℕ) → ℕ → Type 0
EndsAsRun words code = ((new : Outside) × RunAnswer words at_start new code) ⊎ EndsWithLine OutOfMemory code

-- a process whose arguments weren't read ends with this status
abbrev pub EndsUnread : ErrorKind → ℕ → Type 0
EndsUnread kind code = (status : Status) × IsUnread Usage OutOfMemory kind status × EndsWithLine status code
