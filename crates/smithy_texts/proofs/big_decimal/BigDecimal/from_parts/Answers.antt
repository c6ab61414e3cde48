use Rattle.std.proofs.Common.{◌≡◌, ◌∙◌, ap, ◌++◌}
use Rattle.std.proofs.Common.{to_z, of_z}
use Rattle.std.proofs.lemmas.Int.{to_z-of_z}
use Rattle.std.specs.Int.{w64, w128}
use Rattle.std.specs.String.{string_bytes}
use Rattle.smithy_texts.specs.Decimal.{decimal_text}
use Rattle.smithy_texts.proofs.WrittenNumerals.{written_carried}
use Rattle.smithy_texts.proofs.big_decimal.BigDecimal.from_parts.Goals as goal

pub returns-in_err-push_decimal-clause-parts : goal.returns-in_err-push_decimal-clause-parts
returns-in_err-push_decimal-clause-parts c = (written_carried c.args.mantissa c.args.exponent c.ranges.mantissa c.requires).parts

pub invariant_of-result : goal.invariant_of-result
invariant_of-result c =
    let w = written_carried c.args.mantissa c.args.exponent c.ranges.mantissa c.requires in
    let mantissa = to_z w128 (of_z w128 c.args.mantissa) in
    let exponent = to_z w64 (of_z w64 c.args.exponent) in
    let text : string_bytes c.push_decimal.new.out ≡ decimal_text c.args.mantissa c.args.exponent =
    c.in_ok-push_decimal.ensures
    ∙ ap (λ s. s ++ decimal_text mantissa exponent) c.new-text.ensures.bytes
    ∙ ap (λ z. decimal_text z exponent) (to_z-of_z w128 c.args.mantissa c.ranges.mantissa)
    ∙ ap (decimal_text c.args.mantissa) (to_z-of_z w64 c.args.exponent c.ranges.exponent) in
    (rw text w.form, rw text w.fit)

pub returns-clause-parts : goal.returns-clause-parts
returns-clause-parts c = (written_carried c.args.mantissa c.args.exponent c.ranges.mantissa c.requires).parts
