use Rattle.std.proofs.Common.{◌+◌, ◌-◌, ◌*◌, get_or, drop, length, ◌≤◌, ◌∙◌, ap, arith, sym}
use Rattle.std.proofs.Math.ListN.{drop_of_length-le}
use Rattle.smithy_texts.proofs.NumeralLemmas.{magnitude_after, magnitude_step, magnitude_grows}
use Rattle.smithy_texts.proofs.numeral.magnitude.Goals as goal

pub returns-in_err-checked_mul : goal.returns-in_err-checked_mul
returns-in_err-checked_mul c =
    let l = c.loop-byte in
    let text = c.args.text.now in
    let step = magnitude_step text l.byte-index l.value c.loop-byte-test.true (sym c.is_ascii_digit.ensures.value ∙ c.if-is_ascii_digit.true) in
    let grows = magnitude_grows (l.value * 10 + (get_or text l.byte-index 0 - 48)) (drop (l.byte-index + 1) text) in
    rw c.from_residual.ensures (λ fits. omega (arith, l.invariant.same, step, grows, c.in_err-checked_mul.ensures))

pub returns-in_err-value : goal.returns-in_err-value
returns-in_err-value c =
    let l = c.loop-byte in
    let text = c.args.text.now in
    let step = magnitude_step text l.byte-index l.value c.loop-byte-test.true (sym c.is_ascii_digit.ensures.value ∙ c.if-is_ascii_digit.true) in
    let grows = magnitude_grows (l.value * 10 + (get_or text l.byte-index 0 - 48)) (drop (l.byte-index + 1) text) in
    let product = c.in_ok-checked_mul.ensures.1 in
    rw c.from_residual-in_err-value.ensures (λ fits. omega (arith, l.invariant.same, step, grows, product, c.from-digit.ensures, c.in_err-value.ensures))

pub returns : goal.returns
returns c =
    let l = c.loop-byte in
    let text = c.args.text.now in
    let past : length text ≤ l.byte-index = omega arith in
    let none = ap (magnitude_after l.value) (drop_of_length-le text past) in
    (omega (arith, l.invariant.same, none, l.invariant.fits), omega (arith, l.invariant.same, none))
