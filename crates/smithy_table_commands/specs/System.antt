-- How the process ends, by its arguments.
use Rattle.std.specs.Prelude.{◌≡◌, ◌⊎◌, ℕ, List, Bool, false}
use Rattle.std.specs.declared.io.ErrorKind.{ErrorKind}
use Rattle.smithy_outside.specs.Outside.{Shown, TookLine}
use Rattle.smithy_outside.specs.Os.{only_counts, IsUnread}
use Rattle.smithy_table_commands.specs.declared.status.Status.{Status}
use Rattle.smithy_table_commands.specs.declared.status.Status.TheVariants.{Usage, OutOfMemory}
use Rattle.smithy_table_commands.specs.Status.{status_code, line_of}
use Rattle.smithy_table_commands.specs.RunAnswer.{RunAnswer}

-- what the real files and streams tell before a run: none of them met a fault
abbrev pub at_start : Shown
at_start = only_counts 0

-- the process ends with a status, and standard error alone moved, which took the line
abbrev pub EndsWithLine : Status → ℕ → Type 0
EndsWithLine status code =
    (new : Shown) × (holds_back : Bool) × TookLine (line_of status) at_start new holds_back × (code ≡ status_code status)

-- a process with these words ends as a run over the real files and streams does, whose output holds nothing back before it, if memory
-- for the words isn't wanting
abbrev pub EndsAsRun : List (List ℕ) → ℕ → Type 0
EndsAsRun words code =
    ((files : List ℕ → Shown) × (out err : Shown) × (out_holds_back err_holds_back : Bool)
    × RunAnswer words (λ path. at_start) files at_start out at_start err false out_holds_back err_holds_back code)
    ⊎ EndsWithLine OutOfMemory code

-- a process whose arguments weren't read ends with this status
abbrev pub EndsUnread : ErrorKind → ℕ → Type 0
EndsUnread kind code = (status : Status) × IsUnread Usage OutOfMemory kind status × EndsWithLine status code
