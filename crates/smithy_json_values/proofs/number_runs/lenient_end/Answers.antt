use Rattle.std.proofs.Common.{◌≡◌, arith, true, false, sym, ap, ◌∙◌, slice_range}
use Rattle.smithy_json_values.specs.Private.NumberSorts.{lenient_test}
use Rattle.smithy_json_values.proofs.NumberRuns.{same_run}
use Rattle.smithy_json_values.proofs.number_runs.lenient_end.Goals as goal

pub returns-then-end-start-clause-none : goal.returns-then-end-start-clause-none
returns-then-end-start-clause-none c = λ e h.
    let same = same_run c.args.input.now c.args.start c.number_run_end-end.result e c.number_run_end-end.ensures h.run in
    let some = h.some in
    omega (arith, same, some, c.if-end-start.true)

pub returns-then-not-is_lenient-clause-none : goal.returns-then-not-is_lenient-clause-none
returns-then-not-is_lenient-clause-none c = λ e h.
    let same = same_run c.args.input.now c.args.start c.number_run_end-end.result e c.number_run_end-end.ensures h.run in
    let both : true ≡ false =
    sym h.passes ∙ ap (λ k. lenient_test c.args.sort c.args.numbers (slice_range c.args.input.now c.args.start k)) (sym same) ∙ sym c.is_lenient.ensures ∙ c.if-not-is_lenient.true in
    cc

pub returns-clause-found : goal.returns-clause-found
returns-clause-found c =
    let ordered = c.number_run_end-end.ensures.ordered in
    record {
      run = c.number_run_end-end.ensures;
      some = omega (arith, ordered, c.if-end-start.false);
      passes = sym c.is_lenient.ensures ∙ c.if-not-is_lenient.false;
      boundary = tt;
    }
