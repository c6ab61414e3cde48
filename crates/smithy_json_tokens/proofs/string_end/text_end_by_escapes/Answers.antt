use Rattle.std.proofs.Common.{◌∙◌, arith}
use Rattle.smithy_json_grammar.proofs.StringLemmas.{run_stops}
use Rattle.smithy_json_tokens.proofs.ScanLemmas.{text_length-run, text_length-taken}
use Rattle.smithy_json_tokens.proofs.string_end.text_end_by_escapes.Goals as goal

pub loop-end-init : goal.loop-end-init
loop-end-init c =
    let run = c.stop-end.ensures in record {
      within = run.bound;
      same_text = text_length-run c.args.input.now c.args.at _ run.value;
      stops = run_stops c.args.input.now c.args.at _ run.value;
    }

-- a backslash, the byte that it takes, and those behind it that stand for themselves
pub loop-end-preserved : goal.loop-end-preserved
loop-end-preserved c =
    let run = c.stop-end-in-loop-end.ensures in
    let taken = text_length-taken c.args.input.now c.loop-end.end (omega arith) c.loop-end-test.true c.if-input-end-eq92.true in
    record {
      within = run.bound;
      same_text = c.loop-end.invariant.same_text ∙ taken ∙ text_length-run c.args.input.now _ _ run.value;
      stops = run_stops c.args.input.now _ _ run.value;
    }
