use Rattle.std.proofs.Common.{sym, ◌∙◌, ap, take, drop}
use Rattle.smithy_instants.specs.DateText.{fraction_length, fraction_nanos, offset_of}
use Rattle.smithy_instants.proofs.LayoutLemmas.{date_time_is}
use Rattle.smithy_instants.proofs.date_text.read_date_time.Goals as goal

pub returns : goal.returns
returns c =
    let rest = c.after-rest.ensures in
    let size = c.fraction_length-length.result in
    let begins = sym c.begins_date_time.ensures.value ∙ c.if-not-begins_date_time.false in
    let length = c.fraction_length-length.ensures.value ∙ ap fraction_length rest in
    let nanos = c.fraction_nanos.ensures.value ∙ ap (λ t. fraction_nanos (take size t)) rest in
    let offset = c.offset_of.ensures ∙ ap (offset_of c.args.others) (c.after.ensures ∙ ap (drop size) rest) in
    c.instant_of.ensures
    ∙ date_time_is c.args.others c.args.text.now c.four_digits.result c.two_digits.result c.two_digits-2.result c.two_digits-3.result c.two_digits-4.result c.two_digits-5.result size
    c.day_number-day.result c.clock_seconds-seconds.result c.fraction_nanos.result c.offset_of.result begins
    c.four_digits.ensures c.two_digits.ensures.value c.two_digits-2.ensures.value c.two_digits-3.ensures.value c.two_digits-4.ensures.value c.two_digits-5.ensures.value
    length c.day_number-day.ensures c.clock_seconds-seconds.ensures.value nanos offset
