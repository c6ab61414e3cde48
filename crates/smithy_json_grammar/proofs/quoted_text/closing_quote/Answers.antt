use Rattle.std.proofs.Common.{◌≡◌, ◌+◌, length, nat_lt, true, false, sym, ap, ◌∙◌, arith}
use Rattle.std.proofs.lemmas.Bool.Decides.{nat_tests}
use Rattle.std.specs.Bool.{then_some}
use Rattle.smithy_json_grammar.proofs.QuotedPlaceLemmas.{quoted_from-run, quoted_stops, quoted_from-over, quoted_from-mark, quoted_from-escape, quoted_from-cut, other_mark}
use Rattle.smithy_json_grammar.proofs.quoted_text.closing_quote.Goals as goal
use Rattle.smithy_json_grammar.proofs.quoted_text.closing_quote.Goals.{then-loop-end-test+else-input-end-eq92, else-loop-end-test}

pub loop-end-init : goal.loop-end-init
loop-end-init c =
    let run = c.stop-end.ensures in record {
      further = omega (arith, run.value);
      within = run.bound;
      same_mark = quoted_from-run c.args.input.now c.args.at _ run.value;
      stops = quoted_stops c.args.input.now c.args.at _ run.value;
    }

pub returns-then-input-end-lt2-clause-value : goal.returns-then-input-end-lt2-clause-value
returns-then-input-end-lt2-clause-value c =
    let l = c.loop-end in
    sym (l.invariant.same_mark ∙ quoted_from-cut c.args.input.now l.end c.loop-end-test.true c.if-input-end-eq92.true (omega (arith, c.if-input-end-lt2.true)))

pub loop-end-preserved : goal.loop-end-preserved
loop-end-preserved c =
    let l = c.loop-end in
    let i = c.args.input.now in
    let run = c.stop-end-in-loop-end.ensures in
    let step = quoted_from-escape i l.end c.loop-end-test.true c.if-input-end-eq92.true (omega (arith, c.if-input-end-lt2.false)) in
    record {
      further = omega (arith, run.value, l.invariant.further);
      within = run.bound;
      same_mark = l.invariant.same_mark ∙ step ∙ quoted_from-run i (l.end + 2) _ run.value;
      stops = quoted_stops i (l.end + 2) _ run.value;
    }

pub returns-clause-value : goal.returns-clause-value
returns-clause-value c =
    let i = c.args.input.now in
    let end = c.loop-end.end in
    let here = c.loop-end.invariant.same_mark in
    c.then_some.ensures ∙ elim c.loop-end-test.branch [
      | then-loop-end-test+else-input-end-eq92 w ↦
          let less : nat_lt end (length i) ≡ true = grind (arith, nat_tests, w.loop-end-test.true) in
          ap (λ b. then_some b end) less ∙ sym (here ∙ quoted_from-mark i end w.loop-end-test.true (other_mark _ (c.loop-end.invariant.stops w.loop-end-test.true) w.if-input-end-eq92.false))
      | else-loop-end-test w ↦
          let over : nat_lt end (length i) ≡ false = grind (arith, nat_tests, w.loop-end-test.false) in
          ap (λ b. then_some b end) over ∙ sym (here ∙ quoted_from-over i end (omega (arith, w.loop-end-test.false)))
    ]
