use Rattle.std.proofs.Common.{◌+◌, sym, ap, ◌∙◌, subst}
use Rattle.std.proofs.lemmas.List.{take_rest}
use Rattle.smithy_json_grammar.specs.Private.Chars.{GoesOnAt, begins_with_four_hex_digits}
use Rattle.smithy_json_grammar.proofs.StringLemmas.{short_goes_on, digits_go_on}
use Rattle.smithy_json_grammar.proofs.string_text.escape_end.Goals as goal

pub returns-then-is_short_escape : goal.returns-then-is_short_escape
returns-then-is_short_escape c =
    let letter = c.in_ok-letter.ensures.lookup.3 in
    short_goes_on c.args.input.now c.args.at c.requires.within c.requires.backslash c.in_ok-letter.field-0.now letter.0 (sym (letter.1 0)) (sym c.is_short_escape.ensures ∙ c.if-is_short_escape.true)

pub returns : goal.returns
returns c =
    let letter = c.in_ok-letter.ensures.lookup.3 in
    let digits = c.begins_with_four_hex_digits.ensures ∙ ap begins_with_four_hex_digits (take_rest c.args.input.now (c.args.at + 2)) in
    let goes = digits_go_on c.args.input.now c.args.at c.requires.within c.requires.backslash c.in_ok-letter.field-0.now letter.0 (sym (letter.1 0)) c.if-letter-ne117.false c.begins_with_four_hex_digits.result digits in
    subst (GoesOnAt c.args.input.now c.args.at) (sym c.then_some.ensures) goes
