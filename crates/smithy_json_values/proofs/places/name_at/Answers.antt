use Rattle.std.proofs.Common.{◌+◌, ◌∙◌, ap, arith, length, subst, sym}
use Rattle.smithy_json_values.specs.Codec.{held_grammar}
use Rattle.smithy_json_values.specs.Spans.{Lies}
use Rattle.smithy_json_values.specs.Tokens.{IsNameToken}
use Rattle.smithy_json_values.proofs.ScannedStrings.{name_lies, name_stands, colon_lies}
use Rattle.smithy_json_values.proofs.PlacedTextLemmas.{stands_behind_mark}
use Rattle.smithy_json_values.proofs.places.name_at.Goals as goal

pub returns-in_err-name-clause-none : goal.returns-in_err-name-clause-none
returns-in_err-name-clause-none c =
    rw c.from_residual.ensures (λ raw e h good.
    let stands = name_stands c.args.input.now c.args.at c.skip_blanks-start.result c.skip_blanks-start.ensures raw e h in
    let fails = c.in_err-name.ensures.none (c.skip_blanks-start.result + 1 + length raw) stands.0 in
    let passes = ap (held_grammar c.args.settings.now).is_text stands.1 ∙ good in
    cc)

pub returns-in_err-end-clause-none : goal.returns-in_err-end-clause-none
returns-in_err-end-clause-none c =
    rw c.from_residual-in_err-end.ensures (λ raw e h good.
    c.in_err-end.ensures.none e
    (colon_lies c.args.input.now c.args.at c.skip_blanks-start.result c.skip_blanks-start.ensures raw e h c.in_ok-name.name.closing c.in_ok-name.ensures.found))

pub returns-clause-found : goal.returns-clause-found
returns-clause-found c =
    let i = c.args.input.now in
    subst (λ raw. Lies (IsNameToken raw) i c.args.at c.in_ok-end.end) (sym c.in_ok-name.ensures.text)
    (name_lies i c.args.at c.skip_blanks-start.result c.skip_blanks-start.ensures c.in_ok-name.name.closing c.in_ok-name.ensures.found c.in_ok-end.end c.in_ok-end.ensures.found)

pub returns-clause-stands : goal.returns-clause-stands
returns-clause-stands c =
    stands_behind_mark c.args.input.now c.in_ok-name.name.text.now c.args.at c.skip_blanks-start.result c.in_ok-name.name.closing c.skip_blanks-start.ensures.ordered c.in_ok-name.ensures.found c.in_ok-name.ensures.text
    c.in_ok-end.end (omega (arith, c.in_ok-end.ensures.found.0))
