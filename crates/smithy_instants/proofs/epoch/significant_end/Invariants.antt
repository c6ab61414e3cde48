use Rattle.std.proofs.Common.{◌≡◌, ◌+◌, ◌*◌, ◌^◌, ◌≤◌, length, take}
use Rattle.smithy_texts.specs.Numeral.{magnitude}
use Rattle.smithy_instants.proofs.epoch.significant_end.Given as goal

-- what stands behind the end is zeros, and bytes that are no digits
abbrev pub invariant-loop-end : goal.invariant-loop-end
invariant-loop-end l = record {
  within : l.end + l.zeros ≤ length l.text;
  value : magnitude l.text ≡ magnitude (take l.end l.text) * 10 ^ l.zeros;
}

abbrev pub decreases-loop-end : goal.decreases-loop-end
decreases-loop-end l = l.end
