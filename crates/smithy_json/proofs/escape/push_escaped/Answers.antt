use Rattle.std.proofs.Common.{◌≡◌, ◌+◌, ◌≤◌, ◌++◌, length, drop, slice_range, refl, ap, ◌∙◌, arith}
use Rattle.std.proofs.lemmas.List.{length-append}
use Rattle.std.specs.List.{prefix_len}
use Rattle.smithy_json.specs.Escape.{escaped}
use Rattle.smithy_json_grammar.specs.Private.Chars.{is_plain}
use Rattle.smithy_json.proofs.EscapeLemmas.{boundary_at_stop}
use Rattle.smithy_json_grammar.proofs.StringLemmas.{run_is_over}
use Rattle.smithy_json.proofs.EscapingLemmas.{run_written, all_written, rest_written, rest_refused}
use Rattle.smithy_json.proofs.escape.push_escaped.Goals as goal

pub range-requires-clause-end_boundary : goal.range-requires-clause-end_boundary
range-requires-clause-end_boundary g c =
    let v = c.args.text.now in
    let stop = c.stop-first_stop.result in
    let run : stop ≡ 0 + prefix_len is_plain (drop 0 v) = rw (← c.as_bytes.ensures.value) c.stop-first_stop.ensures.value in
    boundary_at_stop v 0 stop c.utf8.text run (omega arith)

-- nothing in the text is escaped
pub returns-then-first_stop-text-clause-ok : goal.returns-then-first_stop-text-clause-ok
returns-then-first_stop-text-clause-ok g c =
    let v = c.args.text.now in
    let stop = c.stop-first_stop.result in
    let run : stop ≡ 0 + prefix_len is_plain (drop 0 v) = rw (← c.as_bytes.ensures.value) c.stop-first_stop.ensures.value in
    let added = c.in_ok-append_text.ensures.ok ∙ ap (λ s. g.T.AppendText.bytes c.args.out.now ++ s) c.range.ensures.value in
    all_written v stop _ _ (omega (arith, c.if-first_stop-text.true)) (run_written v 0 stop run _ _ _ added refl)

pub range_from-requires : goal.range_from-requires
range_from-requires g c = λ _.
    let v = c.args.text.now in
    let stop = c.stop-first_stop.result in
    let run : stop ≡ 0 + prefix_len is_plain (drop 0 v) = rw (← c.as_bytes.ensures.value) c.stop-first_stop.ensures.value in
    boundary_at_stop v 0 stop c.utf8.text run (omega arith)

pub push_from_stop-requires : goal.push_from_stop-requires
push_from_stop-requires g c =
    let v = c.args.text.now in
    let stop = c.stop-first_stop.result in
    let run : stop ≡ 0 + prefix_len is_plain (drop 0 v) = rw (← c.as_bytes.ensures.value) c.stop-first_stop.ensures.value in
    let over : prefix_len is_plain (drop stop v) ≡ 0 = omega (arith, run, run_is_over v 0 stop run) in
    rw c.range_from.ensures.value over

-- the run before the first escape, and then the rest
pub returns-clause-ok : goal.returns-clause-ok
returns-clause-ok g c =
    let v = c.args.text.now in
    let stop = c.stop-first_stop.result in
    let run : stop ≡ 0 + prefix_len is_plain (drop 0 v) = rw (← c.as_bytes.ensures.value) c.stop-first_stop.ensures.value in
    let more = g.T.AppendText.bytes c.append_text.new.self in
    let added = c.in_ok-append_text.ensures.ok ∙ ap (λ s. g.T.AppendText.bytes c.args.out.now ++ s) c.range.ensures.value in
    let whole = ap (λ s. more ++ escaped s) c.range_from.ensures.value ∙ run_written v 0 stop run _ more _ added refl in
    rest_written c.push_from_stop.result more _ _ _ whole c.push_from_stop.ensures.ok

pub returns-clause-err : goal.returns-clause-err
returns-clause-err g c =
    let v = c.args.text.now in
    let stop = c.stop-first_stop.result in
    let run : stop ≡ 0 + prefix_len is_plain (drop 0 v) = rw (← c.as_bytes.ensures.value) c.stop-first_stop.ensures.value in
    let old = g.T.AppendText.bytes c.args.out.now in
    let more = g.T.AppendText.bytes c.append_text.new.self in
    let added = c.in_ok-append_text.ensures.ok ∙ ap (λ s. old ++ s) c.range.ensures.value in
    let whole = ap (λ s. more ++ escaped s) c.range_from.ensures.value ∙ run_written v 0 stop run _ more _ added refl in
    let longer : length old ≤ length more = omega (arith, ap length added, length-append old (slice_range v 0 stop)) in
    rest_refused c.push_from_stop.result old more _ _ _ whole longer c.push_from_stop.ensures.err
