use Rattle.std.proofs.Common.{◌≡◌, ◌+◌, ℕ, IsUtf8, slice_range, sym, ap, ◌∙◌, subst, rules}
use Rattle.smithy_json_grammar.specs.Unescape.{has_escape}
use Rattle.smithy_json_grammar.specs.Standing.{IsStringAt}
use Rattle.smithy_json_grammar.proofs.StringLemmas.{closing_from-run, run_stops, string_is_at, closing_is, escape_is}
use Rattle.smithy_json_grammar.proofs.string_text.scan_from.Goals as goal

pub closing_mark-requires-clause-stops : goal.closing_mark-requires-clause-stops
closing_mark-requires-clause-stops c = run_stops c.args.input.now c.args.end _ c.stop-first_stop.ensures.value

pub returns-in_err-closing : goal.returns-in_err-closing
returns-in_err-closing c =
    let none : (closing : ℕ) → IsStringAt c.args.input.now c.args.at closing → ⊥ = λ closing is.
    let run = closing_from-run c.args.input.now (c.args.at + 1) _ (c.stop-first_stop.ensures.value ∙ sym c.requires.same_run) in
    let found = closing_is c.args.input.now c.args.at closing is in
    let none = c.in_err-closing.ensures.value in cc in
    rw c.from_residual.ensures (record { found = tt; text = tt; has_escape = tt; none = none })

-- the only closing mark is that of a text that isn't in UTF-8
pub returns-in_default : goal.returns-in_default
returns-in_default c =
    record {
      found = tt;
      text = tt;
      has_escape = tt;
      none = λ closing is.
          let run = closing_from-run c.args.input.now (c.args.at + 1) _ (c.stop-first_stop.ensures.value ∙ sym c.requires.same_run) in
          let found = closing_is c.args.input.now c.args.at closing is in
          let mark = c.in_ok-closing.ensures.value in
          let same : closing ≡ c.in_ok-closing.closing = cc in
          c.in_default.ensures.cases.0 (subst (λ k. IsUtf8 (slice_range c.args.input.now (c.args.at + 1) k)) same is.text.0);
    }

pub returns : goal.returns
returns c =
    let stop = c.stop-first_stop.ensures.value ∙ sym c.requires.same_run in
    let run = closing_from-run c.args.input.now (c.args.at + 1) _ stop in
    let closes = run ∙ sym c.in_ok-closing.ensures.value in
    record {
      found = string_is_at c.args.input.now c.args.at c.in_ok-closing.closing c.requires.opens closes c.in-Ok.ensures.cases.1;
      text = search rules;
      has_escape = escape_is c.args.input.now (c.args.at + 1) c.stop-first_stop.result c.in_ok-closing.closing stop closes
          ∙ ap has_escape (sym c.in-Ok.ensures.cases.0);
      none = tt;
    }
