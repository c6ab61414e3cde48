use Rattle.std.proofs.Common.{◌≡◌, ◌≢◌, ◌+◌, ◌++◌, [], length, drop, slice_range, refl, rules, sym, ap, ◌∙◌, arith}
use Rattle.std.specs.List.{prefix_len}
use Rattle.std.specs.Prelude.{string_bytes}
use Rattle.smithy_json.specs.Escape.{escaped}
use Rattle.smithy_json_grammar.specs.Private.Chars.{is_plain}
use Rattle.smithy_json.proofs.EscapeLemmas.{escaped_same, escaped_longer, boundary_at_stop}
use Rattle.smithy_json.proofs.EscapingLemmas.{run_written}
use Rattle.smithy_json.proofs.escape.escape_string.Goals as goal

pub returns-then-first_stop-value-clause-text : goal.returns-then-first_stop-value-clause-text
returns-then-first_stop-value-clause-text c =
    let v = c.args.value.now in
    let same = c.as_bytes.ensures.value in
    let all : prefix_len is_plain v ≡ length v = omega (arith, c.stop-first_stop.ensures.value, ap (prefix_len is_plain) same, c.if-first_stop-value.true) in
    sym (escaped_same v all)

pub returns-then-first_stop-value-clause-borrowed :
    goal.returns-then-first_stop-value-clause-borrowed
returns-then-first_stop-value-clause-borrowed c =
    let v = c.args.value.now in
    let same = c.as_bytes.ensures.value in
    let all : prefix_len is_plain v ≡ length v = omega (arith, c.stop-first_stop.ensures.value, ap (prefix_len is_plain) same, c.if-first_stop-value.true) in
    (λ _. escaped_same v all, λ _. tt)

pub returns-in_err-text-clause-unchanged : goal.returns-in_err-text-clause-unchanged
returns-in_err-text-clause-unchanged c = λ unchanged.
    let v = c.args.value.now in
    let same = c.as_bytes.ensures.value in
    let other : prefix_len is_plain v ≢ length v = λ (e : prefix_len is_plain v ≡ length v). c.if-first_stop-value.false (omega (arith, c.stop-first_stop.ensures.value, ap (prefix_len is_plain) same, e)) in
    absurd (omega (arith, escaped_longer v other, ap length unchanged))

pub range-requires-clause-end_boundary : goal.range-requires-clause-end_boundary
range-requires-clause-end_boundary c =
    let v = c.args.value.now in
    let stop = c.stop-first_stop.result in
    let run : stop ≡ 0 + prefix_len is_plain (drop 0 v) = rw (← c.as_bytes.ensures.value) c.stop-first_stop.ensures.value in
    boundary_at_stop v 0 stop c.utf8.value run (omega arith)

pub range_from-requires : goal.range_from-requires
range_from-requires c = λ _.
    let v = c.args.value.now in
    let stop = c.stop-first_stop.result in
    let run : stop ≡ 0 + prefix_len is_plain (drop 0 v) = rw (← c.as_bytes.ensures.value) c.stop-first_stop.ensures.value in
    boundary_at_stop v 0 stop c.utf8.value run (omega arith)

pub returns-in_err-push_escaped-clause-unchanged :
    goal.returns-in_err-push_escaped-clause-unchanged
returns-in_err-push_escaped-clause-unchanged c = λ unchanged.
    let v = c.args.value.now in
    let same = c.as_bytes.ensures.value in
    let other : prefix_len is_plain v ≢ length v = λ (e : prefix_len is_plain v ≡ length v). c.if-first_stop-value.false (omega (arith, c.stop-first_stop.ensures.value, ap (prefix_len is_plain) same, e)) in
    absurd (omega (arith, escaped_longer v other, ap length unchanged))

-- the run before the first escape, and then the rest
pub returns-clause-text : goal.returns-clause-text
returns-clause-text c =
    let v = c.args.value.now in
    let stop = c.stop-first_stop.result in
    let run : stop ≡ 0 + prefix_len is_plain (drop 0 v) = rw (← c.as_bytes.ensures.value) c.stop-first_stop.ensures.value in
    let front : string_bytes c.push_str.new.self ≡ slice_range v 0 stop = search rules in
    let rest : string_bytes c.push_escaped.new.out ≡ string_bytes c.push_str.new.self ++ escaped (drop stop v) = search rules in
    rest ∙ run_written v 0 stop run [] _ (escaped v) front refl

pub returns-clause-borrowed : goal.returns-clause-borrowed
returns-clause-borrowed c =
    let v = c.args.value.now in
    let same = c.as_bytes.ensures.value in
    let other : prefix_len is_plain v ≢ length v = λ (e : prefix_len is_plain v ≡ length v). c.if-first_stop-value.false (omega (arith, c.stop-first_stop.ensures.value, ap (prefix_len is_plain) same, e)) in
    (λ no. absurd no, λ unchanged. omega (arith, escaped_longer v other, ap length unchanged))
