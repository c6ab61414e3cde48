use Rattle.std.proofs.Common.{◌≤◌, ◌+◌, ◌-◌, length}
use Rattle.smithy_outside.specs.Outside.{MetNoFault, Gave}
use Rattle.smithy_outside.proofs.streams.read_to_end.Given as goal

abbrev pub invariant-loop-buffer : goal.invariant-loop-buffer
invariant-loop-buffer g l = record {
  gave : Gave l.bytes.items (g.S.Source.told l.fn.source) (g.S.Source.told l.source);
  no_fault : MetNoFault (g.S.Source.told l.fn.source) (g.S.Source.told l.source);
  within : length l.bytes.items ≤ l.limit + 1;
}

abbrev pub decreases-loop-buffer : goal.decreases-loop-buffer
decreases-loop-buffer g l = l.limit + 1 - length l.bytes.items
