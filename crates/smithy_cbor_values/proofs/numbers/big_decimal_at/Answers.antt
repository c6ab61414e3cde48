use Rattle.std.proofs.Common.{◌≡◌, true, false, sym, subst, ◌∙◌}
use Rattle.smithy_texts.specs.Decimal.{mantissa, net_exponent}
use Rattle.smithy_declarations.specs.Value.{decimal}
use Rattle.smithy_declarations.specs.declared.shape_type.Scalar.TheVariants as scalars
use Rattle.smithy_cbor_values.specs.Standing.{Follows}
use Rattle.smithy_cbor_values.specs.Private.ItemPlaces.{one_item}
use Rattle.smithy_cbor_values.proofs.BigNumbers.{decimal_read, decimal_fits, decimal_is_text, decimal_refused, decimal_leaves, unread_is, unread_fits}
use Rattle.smithy_cbor_values.proofs.numbers.big_decimal_at.Goals as goal

pub returns-then-not-may_end-clause-found : goal.returns-then-not-may_end-clause-found
returns-then-not-may_end-clause-found c = λ x e lies.
    let start = c.decoder_at-decoder.ensures in
    let stands = rw (start.input, start.position, ← c.position-end.ensures) at c.in-Ok.ensures.read.stands in
    let number = decimal_read c.in-Ok.number c.args.input.now c.args.at c.position-end.result stands in
    let same = (one_item x number.found c.args.input.now c.args.at e c.position-end.result lies.1 number.stands).1 in
    let may : c.may_end.result ≡ true = c.may_end.ensures.1 (subst (Follows c.args.depth c.args.input.now) same lies.2) in
    let both : true ≡ false = sym may ∙ c.if-not-may_end.true in
    cc

pub returns-else-not-may_end-clause-found : goal.returns-else-not-may_end-clause-found
returns-else-not-may_end-clause-found c =
    let start = c.decoder_at-decoder.ensures in
    let stands = rw (start.input, start.position, ← c.position-end.ensures) at c.in-Ok.ensures.read.stands in
    let number = decimal_read c.in-Ok.number c.args.input.now c.args.at c.position-end.result stands in
    record {
      found = number.found;
      lies = (number.is_leaf, number.stands, c.may_end.ensures.0 c.if-not-may_end.false);
      is = number.is;
    }

pub returns-else-not-may_end-clause-fits : goal.returns-else-not-may_end-clause-fits
returns-else-not-may_end-clause-fits c = decimal_fits c.in-Ok.number _ _ _ c.in-Ok.ensures.read.stands

pub returns-else-not-may_end-clause-text : goal.returns-else-not-may_end-clause-text
returns-else-not-may_end-clause-text c = decimal_is_text c.in-Ok.number _ _ _ c.in-Ok.ensures.read.stands

pub returns-in-Err-clause-found : goal.returns-in-Err-clause-found
returns-in-Err-clause-found c =
    let start = c.decoder_at-decoder.ensures in
    let cause = rw (start.input, start.position) at c.in-Err.ensures.refused.cause in
    unread_is scalars.BigDecimal (λ n. decimal (mantissa n) (net_exponent n)) c.args.input.now c.args.at c.args.depth c.in-Err.error.kind
    (decimal_refused c.args.input.now c.args.at c.in-Err.error.kind cause) (decimal_leaves c.args.input.now c.args.at c.in-Err.error.kind cause)
    c.unread_number.result c.unread_number.ensures

pub returns-in-Err-clause-fits : goal.returns-in-Err-clause-fits
returns-in-Err-clause-fits c =
    unread_fits scalars.BigDecimal (λ n. decimal (mantissa n) (net_exponent n)) c.args.input.now c.args.at c.args.depth c.in-Err.error.kind _ c.unread_number.result c.unread_number.ensures

pub returns-in-Err-clause-text : goal.returns-in-Err-clause-text
returns-in-Err-clause-text c =
    unread_fits scalars.BigDecimal (λ n. decimal (mantissa n) (net_exponent n)) c.args.input.now c.args.at c.args.depth c.in-Err.error.kind _ c.unread_number.result c.unread_number.ensures
