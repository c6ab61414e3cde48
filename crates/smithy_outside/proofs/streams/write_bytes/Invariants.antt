use Rattle.std.proofs.Common.{◌≡◌, List, ℕ, ◌++◌, length}
use Rattle.smithy_outside.specs.Outside.{MetNoFault, Took}
use Rattle.smithy_outside.proofs.streams.write_bytes.Given as goal

abbrev pub invariant-loop-rest : goal.invariant-loop-rest
invariant-loop-rest g l = record {
  took : (front : List ℕ) × (l.bytes ≡ front ++ l.rest) × Took front (g.K.Sink.told l.fn.sink) (g.K.Sink.told l.sink);
  no_fault : MetNoFault (g.K.Sink.told l.fn.sink) (g.K.Sink.told l.sink);
}

abbrev pub decreases-loop-rest : goal.decreases-loop-rest
decreases-loop-rest g l = length l.rest
