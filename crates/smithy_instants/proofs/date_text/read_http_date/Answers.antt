use Rattle.std.proofs.Common.{sym, ◌∙◌, ap, take, drop}
use Rattle.smithy_instants.specs.DateText.{fraction_length, fraction_nanos, gmt_offset}
use Rattle.smithy_instants.proofs.LayoutLemmas.{http_date_is}
use Rattle.smithy_instants.proofs.date_text.read_http_date.Goals as goal

pub returns : goal.returns
returns c =
    let rest = c.after-rest.ensures in
    let size = c.fraction_length-length.result in
    let begins = sym c.begins_http_date.ensures.value ∙ c.if-not-begins_http_date.false in
    let length = c.fraction_length-length.ensures.value ∙ ap fraction_length rest in
    let nanos = c.fraction_nanos.ensures.value ∙ ap (λ t. fraction_nanos (take size t)) rest in
    let offset = c.gmt_offset.ensures ∙ ap gmt_offset (c.after.ensures ∙ ap (drop size) rest) in
    c.instant_of.ensures
    ∙ http_date_is c.args.text.now c.four_digits.result c.month_named-month.result c.two_digits.result c.two_digits-2.result c.two_digits-3.result c.two_digits-4.result size
    c.day_number-day.result c.clock_seconds-seconds.result c.fraction_nanos.result c.gmt_offset.result begins
    c.four_digits.ensures c.month_named-month.ensures c.two_digits.ensures.value c.two_digits-2.ensures.value c.two_digits-3.ensures.value c.two_digits-4.ensures.value
    length c.day_number-day.ensures c.clock_seconds-seconds.ensures.value nanos offset
