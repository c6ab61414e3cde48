use Rattle.std.proofs.Common.{◌∙◌, refl, arith}
use Rattle.smithy_json_grammar.proofs.StringLemmas.{closing_from-run, run_stops}
use Rattle.smithy_json_grammar.proofs.string_text.closing_mark.Goals as goal

pub loop-end-init : goal.loop-end-init
loop-end-init c = record { further = omega arith; within = c.requires.within; same_mark = refl; stops = c.requires.stops }

pub loop-end-preserved : goal.loop-end-preserved
loop-end-preserved c =
    let run = c.stop-end.ensures in
    let further = c.in_ok-escape_end.ensures in record {
      further = omega arith;
      within = run.bound;
      same_mark = c.loop-end.invariant.same_mark ∙ further.0 ∙ closing_from-run c.args.input.now c.in_ok-escape_end.field-0 _ run.value;
      stops = run_stops c.args.input.now c.in_ok-escape_end.field-0 _ run.value;
    }
