use Rattle.std.proofs.Common.{◌≡◌, ◌++◌, map as mapped, drop}
use Rattle.smithy_lint.specs.View.{found_of}
use Rattle.smithy_commands.specs.Lint.{finding_lines}
use Rattle.smithy_commands.proofs.commands.lint.lines_of.Given as goal

-- what is written and the findings that are left make all lines
abbrev pub invariant-loop-finding : goal.invariant-loop-finding
invariant-loop-finding l =
    finding_lines l.table l.fn.root.0 (mapped found_of l.findings)
    ≡ l.lines.items ++ finding_lines l.table l.fn.root.0 (mapped found_of (drop l.finding-index l.findings))
