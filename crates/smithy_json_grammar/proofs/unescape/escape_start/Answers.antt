use Rattle.std.proofs.Common.{◌+◌, arith}
use Rattle.smithy_json_grammar.proofs.UnescapingLemmas.{further_without_escape, past_other_byte}
use Rattle.smithy_json_grammar.proofs.unescape.escape_start.Goals as goal

pub loop-end-init : goal.loop-end-init
loop-end-init c = record {
  within = c.stop-end.ensures.bound;
  same_run = further_without_escape c.args.input.now c.args.at _ c.stop-end.ensures.value;
}

-- past a quotation mark
pub loop-end-preserved : goal.loop-end-preserved
loop-end-preserved c =
    let l = c.loop-end in
    let i = c.args.input.now in
    let run = c.stop-end-in-loop-end.ensures in
    let one = past_other_byte i l.end c.loop-end-test.true c.if-input-end-ne92.true in
    record { within = run.bound; same_run = omega (arith, l.invariant.same_run, one, further_without_escape i (l.end + 1) _ run.value) }
