use Rattle.std.proofs.Common.{◌≡◌, List, ℕ, ◌<◌, ◌≤◌, ◌^◌, ◌++◌}
use Rattle.std.specs.Fmt.{HasWritten, IsPlainFormatter}
use Rattle.smithy_instants.specs.WrittenDate.{fraction_digits}
use Rattle.smithy_instants.proofs.display.write_fraction_digits.Given as goal

-- what was written and what is left are the digits
abbrev pub invariant-loop-rest : goal.invariant-loop-rest
invariant-loop-rest g l =
    (l.width ≤ 9) × (l.rest < 10 ^ l.width) × (done : List ℕ)
    × (done ++ fraction_digits l.width l.rest ≡ fraction_digits l.initial.width l.initial.rest)
    × (IsPlainFormatter l.initial.f → HasWritten g.W.Write.write_str_gives l.initial.f done l.f)

abbrev pub decreases-loop-rest : goal.decreases-loop-rest
decreases-loop-rest g l = l.width
