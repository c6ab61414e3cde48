use Rattle.std.proofs.Common.{◌≡◌, ◌+◌, ◌<◌, ◌++◌, Ok, length, drop, string_bytes, sym, ap, ◌∙◌, subst, arith}
use Rattle.std.proofs.lemmas.List.{take_rest}
use Rattle.std.proofs.lemmas.Result.{err_from_is_err_and}
use Rattle.std.proofs.lemmas.Str.{IsCharBoundary-start}
use Rattle.std.specs.List.{prefix_len}
use Rattle.std.specs.Prelude.{encode_utf8}
use Rattle.smithy_json_grammar.specs.Unescape.{with_front, unescape, unescape_letter}
use Rattle.smithy_json_grammar.specs.Private.Unescaping.{is_no_escape, Unescapes}
use Rattle.smithy_json_grammar.proofs.UnescapeLemmas.{with_front-nil}
use Rattle.smithy_json_grammar.proofs.UnescapingLemmas.{so_far_end, so_far_fault, so_far_escape, escape_within, boundary_before, boundary_behind}
use Rattle.smithy_json_grammar.proofs.unescape.unescape.Goals as goal

pub loop-text-init : goal.loop-text-init
loop-text-init c = record {
  within = omega arith;
  boundary = IsCharBoundary-start c.args.value.now c.utf8.value;
  so_far = rw c.in_ok-text.ensures.bytes (sym (with_front-nil (unescape c.args.value.now)));
}

pub range-requires-clause-end_boundary : goal.range-requires-clause-end_boundary
range-requires-clause-end_boundary c =
    let v = c.args.value.now in
    let l = c.loop-text in
    let start = c.escape_start-start.result in
    let run : start ≡ l.at + prefix_len is_no_escape (drop l.at v) = rw (← c.as_bytes-bytes.ensures.value) c.escape_start-start.ensures.value in
    boundary_before v l.at start l.invariant.within run (string_bytes l.text) l.invariant.so_far

-- no escape is left
pub returns-then-start-bytes : goal.returns-then-start-bytes
returns-then-start-bytes c =
    let v = c.args.value.now in
    let l = c.loop-text in
    let start = c.escape_start-start.result in
    let same = c.as_bytes-bytes.ensures.value in
    let run : start ≡ l.at + prefix_len is_no_escape (drop l.at v) = rw (← same) c.escape_start-start.ensures.value in
    so_far_end v l.at start l.invariant.within run (string_bytes l.text) l.invariant.so_far (omega (arith, c.if-start-bytes.true, ap length same))
    ∙ ap Ok (sym (c.in_ok-push_str.ensures.bytes ∙ ap (λ s. string_bytes l.text ++ s) c.range.ensures.value))

-- an escape has a fault
pub returns-in_err-character : goal.returns-in_err-character
returns-in_err-character c =
    let v = c.args.value.now in
    let l = c.loop-text in
    let start = c.escape_start-start.result in
    let same = c.as_bytes-bytes.ensures.value in
    let run : start ≡ l.at + prefix_len is_no_escape (drop l.at v) = rw (← same) c.escape_start-start.ensures.value in
    let rest = take_rest c.as_bytes-bytes.result.now (start + 1) ∙ ap (drop (start + 1)) same in
    let before : start < length v = omega (arith, c.if-start-bytes.false, c.escape_start-start.ensures.within, ap length same) in
    let p = err_from_is_err_and c.from_residual-in_err-character.result c.from_residual-in_err-character.ensures.1 in
    rw (p.1, p.2) (λ _. so_far_fault v l.at start l.invariant.within run (string_bytes l.text) l.invariant.so_far before c.in_err-character.field-0.0
    (sym (ap unescape_letter rest) ∙ c.in_err-character.ensures))

-- an escape is one character more
pub loop-text-preserved : goal.loop-text-preserved
loop-text-preserved c =
    let v = c.args.value.now in
    let l = c.loop-text in
    let start = c.escape_start-start.result in
    let same = c.as_bytes-bytes.ensures.value in
    let run : start ≡ l.at + prefix_len is_no_escape (drop l.at v) = rw (← same) c.escape_start-start.ensures.value in
    let rest = take_rest c.as_bytes-bytes.result.now (start + 1) ∙ ap (drop (start + 1)) same in
    let before : start < length v = omega (arith, c.if-start-bytes.false, c.escape_start-start.ensures.within, ap length same) in
    let character = c.in_ok-character.character in
    let n = c.in_ok-character.escape_len in
    let unescapes : Unescapes unescape_letter (drop (start + 1) v) (Ok (character, n)) = subst (λ s. Unescapes unescape_letter s (Ok (character, n))) rest c.in_ok-character.ensures in
    let text = c.in_ok-push.ensures.bytes ∙ ap (λ s. s ++ encode_utf8 character) (c.in_ok-push_str.ensures.bytes ∙ ap (λ s. string_bytes l.text ++ s) c.range.ensures.value) in
    record {
      within = escape_within v l.at start l.invariant.within run (string_bytes l.text) l.invariant.so_far before character n unescapes;
      boundary = boundary_behind v l.at start l.invariant.within run (string_bytes l.text) l.invariant.so_far before character n c.utf8.value unescapes;
      so_far = so_far_escape v l.at start l.invariant.within run (string_bytes l.text) l.invariant.so_far before character n unescapes
          ∙ ap (λ s. with_front s (unescape (drop (start + 1 + n) v))) (sym text);
    }
