use Rattle.std.proofs.Common.{sym, ap, ◌∙◌}
use Rattle.std.specs.Option.{option_and_then}
use Rattle.smithy_declarations.specs.TableText.{line_of, words_of}
use Rattle.smithy_declarations.specs.Private.Words.{texts}
use Rattle.smithy_declarations.proofs.TableTextLemmas.{no_text_line, text_line}
use Rattle.smithy_declarations.proofs.table_text.line.line_said.Goals as goal

pub returns-in_default : goal.returns-in_default
returns-in_default c = no_text_line c.args.line.now c.in_default.ensures.cases.0

pub returns-in-Some : goal.returns-in-Some
returns-in-Some c =
    let words = rw c.in-Some.is at c.in_ok-words.ensures in
    let same = text_line c.args.line.now c.in-Ok.ensures.cases.1 ∙ ap (λ t. option_and_then line_of (words_of t)) (sym c.in-Ok.ensures.cases.0)
    ∙ ap (option_and_then line_of) (sym words) ∙ ap (λ ws. line_of (texts ws)) (sym c.as_slice.ensures.value) in
    rw same c.line_of.ensures
