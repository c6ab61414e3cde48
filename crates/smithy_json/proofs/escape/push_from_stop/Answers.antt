use Rattle.std.proofs.Common.{◌≡◌, ◌+◌, ◌<◌, ◌≤◌, ◌++◌, length, drop, slice_range, refl, ap, ◌∙◌, arith}
use Rattle.std.proofs.lemmas.List.{length-append}
use Rattle.std.specs.List.{prefix_len, slice_index}
use Rattle.smithy_json.specs.Escape.{escaped, escaped_byte}
use Rattle.smithy_json_grammar.specs.Private.Chars.{is_plain}
use Rattle.smithy_json_grammar.proofs.StringLemmas.{run_is_over}
use Rattle.smithy_json.proofs.EscapeLemmas.{stop_is_other, boundary_at_stop, boundary_behind_stop}
use Rattle.smithy_json.proofs.EscapingLemmas.{run_written, all_written, byte_written, front_written, front_kept}
use Rattle.smithy_json.proofs.escape.push_from_stop.Goals as goal

pub loop-stop-init : goal.loop-stop-init
loop-stop-init g c = record {
  within = omega arith;
  stops = c.requires;
  all = refl;
  longer = omega arith;
}

pub push_escape-requires : goal.push_escape-requires
push_escape-requires g c =
    let v = c.args.text.now in
    let l = c.loop-stop in
    let same = c.as_bytes-bytes.ensures.value in
    let before : l.stop < length v = omega (arith, ap length same) in
    rw same (stop_is_other v l.stop l.stop (omega (arith, l.invariant.stops)) l.invariant.within before)

-- the escape was refused
pub returns-in_err-push_escape-clause-err : goal.returns-in_err-push_escape-clause-err
returns-in_err-push_escape-clause-err g c =
    let l = c.loop-stop in
    front_kept c.from_residual.result _ _ (g.T.AppendText.bytes l.out) _ c.in_err-push_escape.ensures.err
    (front_written (g.T.AppendText.bytes c.args.out.now) _ _ (escaped c.args.text.now) l.invariant.all l.invariant.longer)

pub range-requires-clause-start_boundary : goal.range-requires-clause-start_boundary
range-requires-clause-start_boundary g c = λ _.
    let v = c.args.text.now in
    let l = c.loop-stop in
    let same = c.as_bytes-bytes.ensures.value in
    let before : l.stop < length v = omega (arith, ap length same) in
    boundary_behind_stop v l.stop c.utf8.text before (stop_is_other v l.stop l.stop (omega (arith, l.invariant.stops)) l.invariant.within before)

pub range-requires-clause-end_boundary : goal.range-requires-clause-end_boundary
range-requires-clause-end_boundary g c =
    let v = c.args.text.now in
    let l = c.loop-stop in
    let same = c.as_bytes-bytes.ensures.value in
    let stop = c.stop-stop.result in
    let run : stop ≡ (l.stop + 1) + prefix_len is_plain (drop (l.stop + 1) v) = rw (← same) c.stop-stop.ensures.value in
    boundary_at_stop v (l.stop + 1) stop c.utf8.text run (omega (arith, ap length same))

-- the run behind it was refused
pub returns-in_err-append_text-clause-err : goal.returns-in_err-append_text-clause-err
returns-in_err-append_text-clause-err g c =
    let v = c.args.text.now in
    let l = c.loop-stop in
    let same = c.as_bytes-bytes.ensures.value in
    let before : l.stop < length v = omega (arith, ap length same) in
    let old = g.T.AppendText.bytes c.args.out.now in
    let more = g.T.AppendText.bytes c.push_escape.new.out in
    let byte : more ≡ g.T.AppendText.bytes l.out ++ escaped_byte (slice_index v l.stop) = rw (← same) c.in_ok-push_escape.ensures.ok in
    let longer : length old ≤ length more = omega (arith, l.invariant.longer, ap length byte, length-append (g.T.AppendText.bytes l.out) (escaped_byte (slice_index v l.stop))) in
    front_kept c.from_residual-in_err-append_text.result _ _ more _ c.in_err-append_text.ensures.err
    (front_written old more (escaped (drop (l.stop + 1) v)) (escaped v) (byte_written v l.stop _ more _ before byte l.invariant.all) longer)

-- an escape and the run behind it
pub loop-stop-preserved : goal.loop-stop-preserved
loop-stop-preserved g c =
    let v = c.args.text.now in
    let l = c.loop-stop in
    let same = c.as_bytes-bytes.ensures.value in
    let before : l.stop < length v = omega (arith, ap length same) in
    let stop = c.stop-stop.result in
    let run : stop ≡ (l.stop + 1) + prefix_len is_plain (drop (l.stop + 1) v) = rw (← same) c.stop-stop.ensures.value in
    let more = g.T.AppendText.bytes c.push_escape.new.out in
    let byte : more ≡ g.T.AppendText.bytes l.out ++ escaped_byte (slice_index v l.stop) = rw (← same) c.in_ok-push_escape.ensures.ok in
    let added = c.in_ok-append_text.ensures.ok ∙ ap (λ s. more ++ s) c.range.ensures.value in
    record {
      within = omega (arith, c.stop-stop.ensures.bound, ap length same);
      stops = omega (arith, run, run_is_over v (l.stop + 1) stop run);
      all = run_written v (l.stop + 1) stop run more _ _ added (byte_written v l.stop _ more _ before byte l.invariant.all);
      longer = omega (arith, l.invariant.longer, ap length byte, ap length added, length-append (g.T.AppendText.bytes l.out) (escaped_byte (slice_index v l.stop)), length-append more (slice_range v (l.stop + 1) stop));
    }

pub returns-clause-ok : goal.returns-clause-ok
returns-clause-ok g c =
    let same = c.as_bytes-bytes.ensures.value in
    all_written c.args.text.now c.loop-stop.stop _ _ (omega (arith, ap length same)) c.loop-stop.invariant.all
