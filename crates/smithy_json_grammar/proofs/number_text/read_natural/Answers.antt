use Rattle.std.proofs.Common.{◌≡◌, ◌+◌, ◌-◌, ◌*◌, get_or, drop, ◌∙◌, ap, arith, inr, sym}
use Rattle.smithy_json_grammar.specs.Private.Numeral.{run_value}
use Rattle.smithy_json_grammar.proofs.RunValueLemmas.{run_value_step, run_value_grows}
use Rattle.smithy_json_grammar.proofs.number_text.read_natural.Goals as goal

pub returns-in_err-checked_mul : goal.returns-in_err-checked_mul
returns-in_err-checked_mul c =
    let l = c.loop-end in
    let input = c.args.input.now in
    let step = run_value_step input l.end l.value c.loop-end-test.true (sym c.is_ascii_digit.ensures.value ∙ c.if-is_ascii_digit.true) in
    let grows = run_value_grows (l.value * 10 + (get_or input l.end 0 - 48)) (drop (l.end + 1) input) in
    rw c.from_residual.ensures (inr (omega (arith, l.invariant.same_value, step.1, grows, c.in_err-checked_mul.ensures)))

pub returns-in_err-value : goal.returns-in_err-value
returns-in_err-value c =
    let l = c.loop-end in
    let input = c.args.input.now in
    let step = run_value_step input l.end l.value c.loop-end-test.true (sym c.is_ascii_digit.ensures.value ∙ c.if-is_ascii_digit.true) in
    let grows = run_value_grows (l.value * 10 + (get_or input l.end 0 - 48)) (drop (l.end + 1) input) in
    let product = c.in_ok-checked_mul.ensures.1 in
    rw c.from_residual-in_err-value.ensures (inr (omega (arith, l.invariant.same_value, step.1, grows, product, c.from-digit.ensures, c.in_err-value.ensures)))

pub loop-end-preserved : goal.loop-end-preserved
loop-end-preserved c =
    let l = c.loop-end in
    let input = c.args.input.now in
    let step = run_value_step input l.end l.value c.loop-end-test.true (sym c.is_ascii_digit.ensures.value ∙ c.if-is_ascii_digit.true) in
    let value : l.value * 10 + (get_or input l.end 0 - 48) ≡ c.in_ok-value.value = omega (arith, c.in_ok-checked_mul.ensures.1, c.from-digit.ensures, c.in_ok-value.ensures.1) in
    record {
      ordered = omega arith;
      within = omega arith;
      same_run = omega (arith, l.invariant.same_run, step.0);
      same_value = l.invariant.same_value ∙ step.1 ∙ ap (λ v. run_value v (drop (l.end + 1) input)) value;
    }
