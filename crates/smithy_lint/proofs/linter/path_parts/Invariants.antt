use Rattle.std.proofs.Common.{◌≡◌, ◌++◌, drop}
use Rattle.std.proofs.Common.{map as mapped}
use Rattle.smithy_compare.specs.View.{path_of as parts_path}
use Rattle.smithy_lint.specs.Private.Walks.{label_step}
use Rattle.smithy_lint.proofs.linter.path_parts.Given as goal

-- the steps so far, and those that are left, are all
abbrev pub invariant-loop-label : goal.invariant-loop-label
invariant-loop-label l = parts_path l.parts ++ mapped label_step (drop l.label-index l.labels) ≡ mapped label_step l.labels
