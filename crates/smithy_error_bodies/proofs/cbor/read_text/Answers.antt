use Rattle.std.proofs.Common.{subst}
use Rattle.cbor_item.specs.WellFormed.{HoldsOneItem}
use Rattle.smithy_cbor.specs.DecoderView.{input_of, position_of, Reads}
use Rattle.smithy_error_bodies.proofs.CborLemmas.{text_stands, other_stands, no_value}
use Rattle.smithy_error_bodies.proofs.cbor.read_text.Goals as goal

pub returns-in-Ok-clause-ok : goal.returns-in-Ok-clause-ok
returns-in-Ok-clause-ok c =
    let read = c.in-Ok.ensures.read in
    record {
      same_input = read.same_input;
      stands = text_stands (input_of c.args.decoder.now) (position_of c.args.decoder.now) (position_of c.string.new.self) _ read.stands;
    }

pub returns-then-is_other-clause-ok : goal.returns-then-is_other-clause-ok
returns-then-is_other-clause-ok c =
    let read = subst (λ d. Reads HoldsOneItem d c.skip.new.self) c.in-Err.ensures.stays c.in_ok-skip-in-Err.ensures.read in
    record {
      same_input = read.same_input;
      stands = other_stands (input_of c.args.decoder.now) (position_of c.args.decoder.now) (position_of c.skip.new.self) c.in-Err.error.kind c.in-Err.ensures.refused.cause
          (c.is_other.ensures.yes c.if-is_other.true) read.stands;
    }

pub returns-else-is_other-clause-err : goal.returns-else-is_other-clause-err
returns-else-is_other-clause-err c = λ invalid.
    no_value (input_of c.args.decoder.now) (position_of c.args.decoder.now) c.in-Err.error.kind c.in-Err.ensures.refused.cause (c.from.ensures.0 invalid) (c.is_other.ensures.no_other c.if-is_other.false)
