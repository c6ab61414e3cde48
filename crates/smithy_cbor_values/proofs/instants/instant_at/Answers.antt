use Rattle.std.proofs.Common.{◌≡◌, true, false, sym, subst, ◌∙◌, ap}
use Rattle.smithy_cbor_values.specs.Scalar.{timestamp_says}
use Rattle.smithy_cbor_values.specs.Standing.{Follows}
use Rattle.smithy_cbor_values.specs.Private.ItemPlaces.{one_item}
use Rattle.smithy_cbor_values.proofs.InstantPlaces.{date_stands, no_date}
use Rattle.smithy_cbor_values.proofs.instants.instant_at.Goals as goal

pub returns-in_default : goal.returns-in_default
returns-in_default c = λ x e lies.
    let start = c.decoder_at-decoder.ensures in
    let cause = rw (start.input, start.position) at c.in_default.ensures.refused.cause in
    no_date x c.args.input.now c.args.at e cause.0 lies.1 cause.2

pub returns-then-not-may_end : goal.returns-then-not-may_end
returns-then-not-may_end c = λ x e lies.
    let start = c.decoder_at-decoder.ensures in
    let stands = rw (start.input, start.position, ← c.position-end.ensures) at c.in-Ok.ensures.read.stands in
    let date = date_stands c.in-Ok.seconds c.args.input.now c.args.at c.position-end.result stands in
    let same = (one_item x date.found c.args.input.now c.args.at e c.position-end.result lies.1 date.stands).1 in
    let may : c.may_end.result ≡ true = c.may_end.ensures.1 (subst (Follows c.args.depth c.args.input.now) same lies.2) in
    let both : true ≡ false = sym may ∙ c.if-not-may_end.true in
    cc

pub returns-in-Value : goal.returns-in-Value
returns-in-Value c =
    let start = c.decoder_at-decoder.ensures in
    let stands = rw (start.input, start.position, ← c.position-end.ensures) at c.in-Ok.ensures.read.stands in
    let date = date_stands c.in-Ok.seconds c.args.input.now c.args.at c.position-end.result stands in
    record {
      found = date.found;
      lies = (date.is_leaf, date.stands, c.may_end.ensures.0 c.if-not-may_end.false);
      is = date.is ∙ (rw c.in-Value.is at c.instant_of.ensures);
    }

pub returns-in-Nothing : goal.returns-in-Nothing
returns-in-Nothing c = λ x e lies.
    let start = c.decoder_at-decoder.ensures in
    let stands = rw (start.input, start.position, ← c.position-end.ensures) at c.in-Ok.ensures.read.stands in
    let date = date_stands c.in-Ok.seconds c.args.input.now c.args.at c.position-end.result stands in
    let same = (one_item x date.found c.args.input.now c.args.at e c.position-end.result lies.1 date.stands).0 in
    ap timestamp_says same ∙ date.is ∙ (rw c.in-Nothing.is at c.instant_of.ensures)

pub returns-in-Beyond : goal.returns-in-Beyond
returns-in-Beyond c =
    let start = c.decoder_at-decoder.ensures in
    let stands = rw (start.input, start.position, ← c.position-end.ensures) at c.in-Ok.ensures.read.stands in
    let date = date_stands c.in-Ok.seconds c.args.input.now c.args.at c.position-end.result stands in
    record {
      found = date.found;
      e = c.position-end.result;
      lies = (date.is_leaf, date.stands, c.may_end.ensures.0 c.if-not-may_end.false);
      is = date.is ∙ (rw c.in-Beyond.is at c.instant_of.ensures);
    }
