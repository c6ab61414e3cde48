use Rattle.std.proofs.Common.{sym, ap, ◌∙◌}
use Rattle.std.specs.Option.{option_map}
use Rattle.smithy_declarations.proofs.TableTextLemmas.{no_text, text_given, empty_text}
use Rattle.smithy_declarations.proofs.table_text.line.text_of_option.Goals as goal

pub returns-in_err-text : goal.returns-in_err-text
returns-in_err-text c = ap (option_map (λ t. t.now)) c.from_residual.ensures ∙ sym (no_text c.args.name.now c.args.word.now c.in_err-text.ensures.cases)

pub returns-then-is_empty : goal.returns-then-is_empty
returns-then-is_empty c =
    sym (empty_text c.args.name.now c.args.word.now c.in_ok-text.text.now c.in_ok-text.ensures.cases (sym c.is_empty.ensures ∙ c.if-is_empty.true))

pub returns-else-is_empty : goal.returns-else-is_empty
returns-else-is_empty c =
    sym (text_given c.args.name.now c.args.word.now c.in_ok-text.text.now c.in_ok-text.ensures.cases (sym c.is_empty.ensures ∙ c.if-is_empty.false))
