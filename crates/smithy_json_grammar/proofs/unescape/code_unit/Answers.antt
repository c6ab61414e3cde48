use Rattle.std.proofs.Common.{Err, ap, ◌∙◌}
use Rattle.smithy_json_grammar.proofs.UnescapeLemmas.{code_unit_read, code_unit_fails}
use Rattle.smithy_json_grammar.proofs.unescape.code_unit.Goals as goal

pub returns-then-a-b : goal.returns-then-a-b
returns-then-a-b c = code_unit_read c.args.digits.now c.requires _ _ _ _ c.digit_value-a.ensures c.digit_value-b.ensures c.digit_value-c.ensures c.digit_value-d.ensures c.if-a-b.true

pub returns-else-a-b : goal.returns-else-a-b
returns-else-a-b c =
    ap Err c.digits_fault.ensures
    ∙ code_unit_fails c.args.digits.now c.requires _ _ _ _ c.digit_value-a.ensures c.digit_value-b.ensures c.digit_value-c.ensures c.digit_value-d.ensures c.if-a-b.false
