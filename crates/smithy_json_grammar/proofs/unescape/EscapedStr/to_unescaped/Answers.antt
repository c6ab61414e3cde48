use Rattle.std.proofs.Common.{◌≡◌, ◌≢◌, length, ap, arith}
use Rattle.std.specs.List.{prefix_len}
use Rattle.smithy_json_grammar.specs.Private.Unescaping.{is_no_escape}
use Rattle.smithy_json_grammar.proofs.UnescapingLemmas.{no_escape_run, some_escape_run, no_escape_is_text}
use Rattle.smithy_json_grammar.proofs.unescape.EscapedStr.to_unescaped.Goals as goal

pub returns-then-escape_start-self-clause-text : goal.returns-then-escape_start-self-clause-text
returns-then-escape_start-self-clause-text c =
    let v = c.args.self.value.now in
    let run = c.escape_start.ensures.value in
    let same = c.as_bytes.ensures.value in
    let all : prefix_len is_no_escape v ≡ length v = omega (arith, run, ap (prefix_len is_no_escape) same, c.if-escape_start-self.true) in
    no_escape_is_text v all

pub returns-then-escape_start-self-clause-borrowed :
    goal.returns-then-escape_start-self-clause-borrowed
returns-then-escape_start-self-clause-borrowed c =
    let v = c.args.self.value.now in
    let run = c.escape_start.ensures.value in
    let same = c.as_bytes.ensures.value in
    let all : prefix_len is_no_escape v ≡ length v = omega (arith, run, ap (prefix_len is_no_escape) same, c.if-escape_start-self.true) in
    (λ _. no_escape_run v all, λ _. tt)

pub returns-in_err-unescape-clause-no_escape : goal.returns-in_err-unescape-clause-no_escape
returns-in_err-unescape-clause-no_escape c = λ none.
    let v = c.args.self.value.now in
    let run = c.escape_start.ensures.value in
    let same = c.as_bytes.ensures.value in
    let other : prefix_len is_no_escape v ≢ length v = λ (e : prefix_len is_no_escape v ≡ length v). c.if-escape_start-self.false (omega (arith, run, ap (prefix_len is_no_escape) same, e)) in
    let some = some_escape_run v other in absurd cc

pub returns-clause-borrowed : goal.returns-clause-borrowed
returns-clause-borrowed c =
    let v = c.args.self.value.now in
    let run = c.escape_start.ensures.value in
    let same = c.as_bytes.ensures.value in
    let other : prefix_len is_no_escape v ≢ length v = λ (e : prefix_len is_no_escape v ≡ length v). c.if-escape_start-self.false (omega (arith, run, ap (prefix_len is_no_escape) same, e)) in
    let some = some_escape_run v other in (λ no. absurd no, λ none. absurd cc)
