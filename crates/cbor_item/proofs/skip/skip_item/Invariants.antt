use Rattle.std.proofs.Common.{◌≤◌, ◌-◌, ◌+◌, ◌*◌, [], drop, length, vec_len}
use Rattle.cbor_item.specs.Private.Skip.{Reaches, at_item, between, stack_of}
use Rattle.cbor_item.proofs.skip.skip_item.Given as goal

-- what skipping from here on finds, it finds from the beginning on
abbrev pub invariant-open : goal.invariant-open
invariant-open l = record {
  within : l.end ≤ length l.input;
  reaches : Reaches (at_item [] (drop l.at l.input)) (between (stack_of l.due.items) (drop l.end l.input));
}

-- each step takes a byte and opens two more at most, or closes one
abbrev pub decreases-open : goal.decreases-open
decreases-open l = vec_len l.due + 2 * (length l.input - l.end)
