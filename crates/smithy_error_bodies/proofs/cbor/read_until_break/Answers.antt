use Rattle.std.proofs.Common.{Some, None, sym, subst, ap, ◌∙◌, ℕ, List, length, arith}
use Rattle.std.proofs.lemmas.Result.{err_from_is_err_and}
use Rattle.smithy_cbor.specs.DecoderView.{input_of, position_of, Reads}
use Rattle.smithy_error_bodies.specs.Said.{said_by}
use Rattle.smithy_error_bodies.specs.Private.CborSteps.{PairAt, NoPair, Told}
use Rattle.smithy_error_bodies.proofs.CborLemmas.{open_more, open_wrong, open_done, pair_ahead}
use Rattle.smithy_error_bodies.proofs.cbor.read_until_break.Goals as goal

pub returns-in-Ok-clause-ok : goal.returns-in-Ok-clause-ok
returns-in-Ok-clause-ok c =
    c.loop-decoder.invariant (Some (said_by c.loop-decoder.body))
    (open_done (said_by c.loop-decoder.body) (input_of c.loop-decoder.decoder) (position_of c.loop-decoder.decoder) (position_of c.read_break.new.self) c.in-Ok.ensures.read.stands.1)

pub returns-in_err-read_pair-in-Err-clause-err : goal.returns-in_err-read_pair-in-Err-clause-err
returns-in_err-read_pair-in-Err-clause-err c =
    let p = err_from_is_err_and c.from_residual.result c.from_residual.ensures.1 in
    rw p.1 (λ invalid. c.loop-decoder.invariant None
    (open_wrong (said_by c.loop-decoder.body) (input_of c.loop-decoder.decoder) (position_of c.loop-decoder.decoder) c.in-Err.field-0.kind
    (subst (λ d. NoPair (input_of d) (position_of d)) c.in-Err.ensures.stays (c.in_err-read_pair-in-Err.ensures.err (sym p.2 ∙ invalid))) c.in-Err.ensures.refused.cause))

pub loop-decoder-smaller-in_ok-read_pair-in-Err-4 : goal.loop-decoder-smaller-in_ok-read_pair-in-Err-4
loop-decoder-smaller-in_ok-read_pair-in-Err-4 c =
    let read = subst (λ d. Reads (PairAt (said_by c.loop-decoder.body) (said_by c.read_pair.new.body)) d c.read_pair.new.decoder) c.in-Err.ensures.stays c.in_ok-read_pair-in-Err.ensures.ok in
    let ahead = pair_ahead (said_by c.loop-decoder.body) (said_by c.read_pair.new.body) (input_of c.loop-decoder.decoder) (position_of c.loop-decoder.decoder) (position_of c.read_pair.new.decoder) read.stands in
    let on = ahead.0 in
    let within = ahead.1 in
    let same = ap length read.same_input in
    omega (arith, on, within, same)

pub loop-decoder-preserved-in_ok-read_pair-in-Err-4 : goal.loop-decoder-preserved-in_ok-read_pair-in-Err-4
loop-decoder-preserved-in_ok-read_pair-in-Err-4 c = λ r told.
    let read = subst (λ d. Reads (PairAt (said_by c.loop-decoder.body) (said_by c.read_pair.new.body)) d c.read_pair.new.decoder) c.in-Err.ensures.stays c.in_ok-read_pair-in-Err.ensures.ok in
    c.loop-decoder.invariant r
    (open_more (said_by c.loop-decoder.body) (said_by c.read_pair.new.body) (input_of c.loop-decoder.decoder) (position_of c.loop-decoder.decoder) (position_of c.read_pair.new.decoder) read.stands r
    (subst (λ (i : List ℕ). Told None (said_by c.read_pair.new.body) i (position_of c.read_pair.new.decoder) r) read.same_input told))
