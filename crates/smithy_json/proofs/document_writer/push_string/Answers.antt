use Rattle.std.proofs.Common.{[], ◌∷◌, arith}
use Rattle.std.proofs.lemmas.Grind.{common_steps}
use Rattle.smithy_json_grammar.specs.Ascii.{quotation_mark}
use Rattle.smithy_json.specs.Escape.{escaped}
use Rattle.smithy_json.proofs.AppendingLemmas.{inside_refused, closing_refused}
use Rattle.smithy_json.proofs.document_writer.push_string.Goals as goal

pub returns-in_err-push_escaped-clause-err : goal.returns-in_err-push_escaped-clause-err
returns-in_err-push_escaped-clause-err g c =
    inside_refused c.from_residual-in_err-push_escaped.result (g.T.AppendText.bytes c.args.out.now) (quotation_mark ∷ []) (escaped c.args.text.now) (quotation_mark ∷ []) _ _ c.in_ok-append_text.ensures.ok c.in_err-push_escaped.ensures.err

pub returns-clause-err : goal.returns-clause-err
returns-clause-err g c =
    closing_refused c.append_text-2.result (g.T.AppendText.bytes c.args.out.now) (quotation_mark ∷ []) (escaped c.args.text.now) (quotation_mark ∷ []) _ _ c.in_ok-append_text.ensures.ok _ c.in_ok-push_escaped.ensures.ok c.append_text-2.ensures.err

pub returns-clause-ok : goal.returns-clause-ok
returns-clause-ok g c = grind (arith, common_steps)
