use Rattle.std.proofs.Common.{sym, ap, ◌∙◌, subst}
use Rattle.std.specs.Char.{InScalarRange, OutOfScalarRange}
use Rattle.std.proofs.lemmas.List.{take_rest}
use Rattle.std.proofs.lemmas.Result.{err_from_is_err_and}
use Rattle.smithy_json_grammar.specs.Unescape.{unescape_digits, unescape_low}
use Rattle.smithy_json_grammar.proofs.UnescapingLemmas.{escape_further, unit_unescapes, low_alone, scalar_is_no_low, other_is_low}
use Rattle.smithy_json_grammar.proofs.UnescapeLemmas.{digits_high, unit_fits}
use Rattle.smithy_json_grammar.proofs.unescape.read_digits.Goals as goal

pub returns-in_err-character : goal.returns-in_err-character
returns-in_err-character c =
    let p = err_from_is_err_and c.from_residual-in_err-character.result c.from_residual-in_err-character.ensures.1 in
    let high = sym c.is_high_surrogate.ensures ∙ c.if-is_high_surrogate.true in
    let goes = digits_high c.args.rest.now c.in_ok-unit.unit c.if-rest-lt4.false (sym c.in_ok-unit.ensures) high in
    rw (p.1, p.2) (goes ∙ ap (unescape_low c.in_ok-unit.unit) (sym (take_rest c.args.rest.now 4)) ∙ c.in_err-character.ensures)

pub returns-then-is_high_surrogate : goal.returns-then-is_high_surrogate
returns-then-is_high_surrogate c =
    let high = sym c.is_high_surrogate.ensures ∙ c.if-is_high_surrogate.true in
    let goes = digits_high c.args.rest.now c.in_ok-unit.unit c.if-rest-lt4.false (sym c.in_ok-unit.ensures) high in
    escape_further unescape_digits (unescape_low c.in_ok-unit.unit) c.args.rest.now _ 4 c.in_ok-character.character c.in_ok-character.low_len (take_rest c.args.rest.now 4) c.if-rest-lt4.false goes
    c.in_ok-character.ensures

pub returns-in-Some : goal.returns-in-Some
returns-in-Some c =
    let high = sym c.is_high_surrogate.ensures ∙ c.if-is_high_surrogate.false in
    let low = scalar_is_no_low c.in_ok-unit.unit (subst InScalarRange c.from.ensures c.in-Some.ensures.cases) in
    rw (c.in-Some.ensures.value.1, c.from.ensures) (unit_unescapes c.args.rest.now c.in_ok-unit.unit c.if-rest-lt4.false (sym c.in_ok-unit.ensures) high low)

pub returns-in-None : goal.returns-in-None
returns-in-None c =
    let high = sym c.is_high_surrogate.ensures ∙ c.if-is_high_surrogate.false in
    let fits = unit_fits c.args.rest.now c.in_ok-unit.unit c.if-rest-lt4.false (sym c.in_ok-unit.ensures) in
    low_alone c.args.rest.now c.in_ok-unit.unit c.if-rest-lt4.false (sym c.in_ok-unit.ensures) high
    (other_is_low c.in_ok-unit.unit (subst OutOfScalarRange c.from.ensures c.in-None.ensures.cases) fits high)
