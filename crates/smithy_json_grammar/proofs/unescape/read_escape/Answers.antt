use Rattle.std.proofs.Common.{sym, ◌∙◌, arith}
use Rattle.std.proofs.lemmas.Grind.{common_steps}
use Rattle.std.proofs.lemmas.List.{take_rest}
use Rattle.smithy_json_grammar.specs.Unescape.{unescape_letter, unescape_digits}
use Rattle.smithy_json_grammar.proofs.UnescapingLemmas.{escape_further, letter_u_goes, not_empty}
use Rattle.smithy_json_grammar.proofs.unescape.read_escape.Goals as goal

pub returns-then-letter-eq117 : goal.returns-then-letter-eq117
returns-then-letter-eq117 c =
    let some = not_empty c.args.rest.now (sym c.is_empty.ensures ∙ c.if-is_empty.false) in
    escape_further unescape_letter unescape_digits c.args.rest.now _ 1 c.in_ok-character.character c.in_ok-character.digits_len (take_rest c.args.rest.now 1) some
    (letter_u_goes c.args.rest.now some c.if-letter-eq117.true) c.in_ok-character.ensures

pub returns-in_err-character : goal.returns-in_err-character
returns-in_err-character c = grind (arith, common_steps)

pub returns : goal.returns
returns c = grind (arith, common_steps)
