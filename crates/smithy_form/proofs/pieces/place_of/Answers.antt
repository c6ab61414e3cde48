use Rattle.std.proofs.Common.{arith}
use Rattle.smithy_form.proofs.PieceLemmas.{place_found, place_missing}
use Rattle.smithy_form.proofs.pieces.place_of.Goals as goal

pub returns-in-Some-clause-place : goal.returns-in-Some-clause-place
returns-in-Some-clause-place c = place_found c.args.byte c.args.bytes.now c.in-Some.place c.in-Some.ensures

pub returns-in-None-clause-place : goal.returns-in-None-clause-place
returns-in-None-clause-place c = place_missing c.args.byte c.args.bytes.now c.in-None.ensures
