use Rattle.std.proofs.Common.{Some, None, sym, subst, ◌∙◌, ◌-◌, ℕ, List, arith}
use Rattle.std.proofs.lemmas.Result.{err_from_is_err_and}
use Rattle.smithy_cbor.specs.DecoderView.{input_of, position_of}
use Rattle.smithy_error_bodies.specs.Said.{said_by}
use Rattle.smithy_error_bodies.specs.Private.CborSteps.{Told}
use Rattle.smithy_error_bodies.proofs.CborLemmas.{counted_more, counted_wrong, counted_done}
use Rattle.smithy_error_bodies.proofs.cbor.read_counted.Goals as goal

pub returns-in_err-read_pair-clause-err : goal.returns-in_err-read_pair-clause-err
returns-in_err-read_pair-clause-err c =
    let p = err_from_is_err_and c.from_residual.result c.from_residual.ensures.1 in
    rw p.1 (λ invalid. c.loop-due.invariant None
    (counted_wrong c.loop-due.due (said_by c.loop-due.body) (input_of c.loop-due.decoder) (position_of c.loop-due.decoder) c.loop-due-test.true (c.in_err-read_pair.ensures.err (sym p.2 ∙ invalid))))

pub loop-due-preserved : goal.loop-due-preserved
loop-due-preserved c = λ r told.
    let read = c.in_ok-read_pair.ensures.ok in
    c.loop-due.invariant r
    (counted_more c.loop-due.due (said_by c.loop-due.body) (said_by c.read_pair.new.body) (input_of c.loop-due.decoder) (position_of c.loop-due.decoder) (position_of c.read_pair.new.decoder) c.loop-due-test.true read.stands r
    (subst (λ (i : List ℕ). Told (Some (c.loop-due.due - 1)) (said_by c.read_pair.new.body) i (position_of c.read_pair.new.decoder) r) read.same_input told))

pub returns-clause-ok : goal.returns-clause-ok
returns-clause-ok c =
    let none = c.loop-due-test.false in
    c.loop-due.invariant (Some (said_by c.loop-due.body))
    (counted_done c.loop-due.due (said_by c.loop-due.body) (input_of c.loop-due.decoder) (position_of c.loop-due.decoder) (omega (arith, none)))
