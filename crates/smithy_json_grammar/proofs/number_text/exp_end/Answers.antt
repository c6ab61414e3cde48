use Rattle.std.proofs.Common.{sym, ap, ◌∙◌}
use Rattle.smithy_json_grammar.specs.Ascii.{is_e}
use Rattle.smithy_json_grammar.proofs.NumberPlaceLemmas.{ends_after_e}
use Rattle.smithy_json_grammar.proofs.number_text.exp_end.Goals as goal

pub returns-then-is_e : goal.returns-then-is_e
returns-then-is_e c =
    let begins = ap is_e (sym c.byte_at.ensures) ∙ sym c.is_e.ensures ∙ c.if-is_e.true in
    ends_after_e c.args.input.now c.args.at c.sign_end.result c.digits_end.result begins c.sign_end.ensures.value c.sign_end.ensures.ordered c.digits_end.ensures
