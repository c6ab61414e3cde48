use Rattle.std.proofs.Common.{Some, sym, ap, ◌∙◌, w64}
use Rattle.std.proofs.lemmas.Int.{to_z-of_z}
use Rattle.smithy_texts.specs.Ranges.{fits_signed}
use Rattle.smithy_json_grammar.proofs.LongLemmas.{long_fits}
use Rattle.smithy_json_grammar.proofs.IntegralLemmas.{refused, part_of_second, whole_second}
use Rattle.smithy_json_grammar.proofs.number_run.integral_number.Goals as goal

pub returns-in_default : goal.returns-in_default
returns-in_default c = sym (refused c.args.text.now c.in_default.field-0 c.in_default.ensures.whole c.in_default.ensures.range)

pub returns-then-has_subsec_nanos : goal.returns-then-has_subsec_nanos
returns-then-has_subsec_nanos c =
    sym (part_of_second c.args.text.now c.in-Ok.instant c.in-Ok.ensures.ok (sym c.has_subsec_nanos.ensures ∙ c.if-has_subsec_nanos.true))

pub returns : goal.returns
returns c =
    let instant = c.in-Ok.ensures in
    let number = whole_second c.args.text.now c.in-Ok.instant instant.ok instant.instant (sym c.has_subsec_nanos.ensures ∙ c.if-has_subsec_nanos.false) in
    let fits = ap (fits_signed 64) c.secs.ensures ∙ instant.instant in
    ap Some (to_z-of_z w64 c.secs.result (long_fits c.secs.result fits) ∙ c.secs.ensures) ∙ sym number
