use Rattle.std.proofs.Common.{Option, None, ◌-◌, length}
use Rattle.smithy_cbor.specs.DecoderView.{input_of, position_of}
use Rattle.smithy_error_bodies.specs.Said.{Said, said_by}
use Rattle.smithy_error_bodies.specs.Private.CborSteps.{Told}
use Rattle.smithy_error_bodies.proofs.cbor.read_until_break.Given as goal

-- what is told of the pairs that are left is told of all
abbrev pub invariant-loop-decoder : goal.invariant-loop-decoder
invariant-loop-decoder l =
    (r : Option Said) → Told None (said_by l.body) (input_of l.decoder) (position_of l.decoder) r
    → Told None (said_by l.initial.body) (input_of l.initial.decoder) (position_of l.initial.decoder) r

abbrev pub decreases-loop-decoder : goal.decreases-loop-decoder
decreases-loop-decoder l = length (input_of l.decoder) - position_of l.decoder
