use Rattle.std.proofs.Common.{Option, Some}
use Rattle.smithy_cbor.specs.DecoderView.{input_of, position_of}
use Rattle.smithy_error_bodies.specs.Said.{Said, said_by}
use Rattle.smithy_error_bodies.specs.Private.CborSteps.{Told}
use Rattle.smithy_error_bodies.proofs.cbor.read_counted.Given as goal

-- what is told of the pairs that are due is told of all
abbrev pub invariant-loop-due : goal.invariant-loop-due
invariant-loop-due l =
    (r : Option Said) → Told (Some l.due) (said_by l.body) (input_of l.decoder) (position_of l.decoder) r
    → Told (Some l.count) (said_by l.initial.body) (input_of l.initial.decoder) (position_of l.initial.decoder) r

abbrev pub decreases-loop-due : goal.decreases-loop-due
decreases-loop-due l = l.due
