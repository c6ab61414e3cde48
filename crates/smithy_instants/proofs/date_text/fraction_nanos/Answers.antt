use Rattle.std.proofs.Common.{◌≡◌, ◌*◌, ◌^◌, ◌-◌, length, sym, ◌∙◌, ap, arith}
use Rattle.smithy_texts.specs.Numeral.{magnitude}
use Rattle.smithy_instants.proofs.FractionLemmas.{fraction_fits}
use Rattle.smithy_instants.proofs.date_text.fraction_nanos.Goals as goal

pub returns-in_err-fraction-clause-value : goal.returns-in_err-fraction-clause-value
returns-in_err-fraction-clause-value c =
    let small = fraction_fits c.after-digits.result.now (sym c.are_digits.ensures ∙ c.if-not-are_digits.false) (omega arith) in
    absurd (c.in_err-fraction.ensures (omega (arith, small.fraction)))

pub overflow_cast-fraction : goal.overflow_cast-fraction
overflow_cast-fraction c =
    let small = fraction_fits c.after-digits.result.now (sym c.are_digits.ensures ∙ c.if-not-are_digits.false) (omega arith) in
    omega (arith, small.fraction, c.in_ok-fraction.ensures.1)

pub overflow_mul-result : goal.overflow_mul-result
overflow_mul-result c =
    let small = fraction_fits c.after-digits.result.now (sym c.are_digits.ensures ∙ c.if-not-are_digits.false) (omega arith) in
    let d = c.after-digits.result.now in
    let same : c.in_ok-fraction.field-0 * c.pow.result ≡ magnitude d * 10 ^ (9 - length d) = ap (λ n. n * c.pow.result) c.in_ok-fraction.ensures.1 ∙ ap (λ n. magnitude d * n) c.pow.ensures in
    omega (arith, same, small.nanos)

pub returns-clause-bound : goal.returns-clause-bound
returns-clause-bound c =
    let small = fraction_fits c.after-digits.result.now (sym c.are_digits.ensures ∙ c.if-not-are_digits.false) (omega arith) in
    let d = c.after-digits.result.now in
    let same : c.in_ok-fraction.field-0 * c.pow.result ≡ magnitude d * 10 ^ (9 - length d) = ap (λ n. n * c.pow.result) c.in_ok-fraction.ensures.1 ∙ ap (λ n. magnitude d * n) c.pow.ensures in
    omega (arith, same, small.nanos)
