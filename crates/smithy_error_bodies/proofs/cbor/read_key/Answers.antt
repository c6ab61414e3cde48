use Rattle.std.proofs.Common.{ap, ◌∙◌}
use Rattle.std.proofs.lemmas.Result.{err_from_is_err_and}
use Rattle.smithy_cbor.specs.DecoderView.{input_of, position_of}
use Rattle.smithy_error_bodies.specs.Private.CborSteps.{key_of}
use Rattle.smithy_error_bodies.proofs.CborLemmas.{key_stands, no_key}
use Rattle.smithy_error_bodies.proofs.cbor.read_key.Goals as goal

pub returns-in_err-text-clause-err : goal.returns-in_err-text-clause-err
returns-in_err-text-clause-err c =
    let p = err_from_is_err_and c.from_residual.result c.from_residual.ensures.1 in
    rw p.1 (λ invalid. no_key (input_of c.args.decoder.now) (position_of c.args.decoder.now) c.in_err-text.field-0.0.kind c.in_err-text.ensures.refused.cause (p.2.0 invalid))

pub returns-clause-ok : goal.returns-clause-ok
returns-clause-ok c =
    let read = c.in_ok-text.ensures.read in
    record {
      same_input = read.same_input;
      stands = key_stands (input_of c.args.decoder.now) (position_of c.args.decoder.now) (position_of c.str.new.self) c.in_ok-text.text c.key_of.result read.stands (c.key_of.ensures ∙ ap key_of c.deref.ensures.value);
    }
