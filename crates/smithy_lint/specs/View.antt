-- What a finding of the program stands for.
use Rattle.smithy_compare.specs.View.{path_of}
use Rattle.smithy_lint.specs.declared.finding.Finding.{Finding}
use Rattle.smithy_lint.specs.Findings.{Found}

abbrev pub found_of : Finding → Found
found_of f = record { path = path_of f.path; kind = f.kind }
