use Rattle.std.proofs.Common.{sym, subst, ◌∙◌, ℕ, List}
use Rattle.std.proofs.lemmas.Result.{err_from_is_err_and}
use Rattle.smithy_cbor.specs.DecoderView.{input_of, position_of}
use Rattle.smithy_error_bodies.specs.Private.CborSteps.{NoValue}
use Rattle.smithy_error_bodies.proofs.CborLemmas.{no_pair}
use Rattle.smithy_error_bodies.proofs.cbor.read_pair.Goals as goal

pub returns-in_err-text-clause-err : goal.returns-in_err-text-clause-err
returns-in_err-text-clause-err c =
    let p = err_from_is_err_and c.from_residual-in_err-text.result c.from_residual-in_err-text.ensures.1 in
    let read = c.in_ok-key.ensures.ok in
    rw p.1 (λ invalid. no_pair (input_of c.args.decoder.now) (position_of c.args.decoder.now) (position_of c.read_key.new.decoder) c.in_ok-key.key read.stands
    (subst (λ (i : List ℕ). NoValue c.in_ok-key.key i (position_of c.read_key.new.decoder)) read.same_input (c.in_err-text.ensures.err (sym p.2 ∙ invalid))))
