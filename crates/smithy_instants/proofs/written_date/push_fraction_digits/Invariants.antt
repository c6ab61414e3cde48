use Rattle.std.proofs.Common.{◌≡◌, ◌<◌, ◌≤◌, ◌^◌, ◌++◌}
use Rattle.std.specs.String.{string_bytes}
use Rattle.smithy_instants.specs.WrittenDate.{fraction_digits}
use Rattle.smithy_instants.proofs.written_date.push_fraction_digits.Given as goal

-- what was added and what is left are the digits
abbrev pub invariant-loop-rest : goal.invariant-loop-rest
invariant-loop-rest l = record {
  width : l.width ≤ 9;
  small : l.rest < 10 ^ l.width;
  same : string_bytes l.text ++ fraction_digits l.width l.rest ≡ string_bytes l.initial.text ++ fraction_digits l.initial.width l.initial.rest;
}

abbrev pub decreases-loop-rest : goal.decreases-loop-rest
decreases-loop-rest l = l.width
