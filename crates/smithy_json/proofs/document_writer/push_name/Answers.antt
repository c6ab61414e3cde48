use Rattle.std.proofs.Common.{[], ◌∷◌}
use Rattle.smithy_json_grammar.specs.Ascii.{name_separator}
use Rattle.smithy_json.specs.Escape.{quoted}
use Rattle.smithy_json.proofs.AppendingLemmas.{inside_refused, closing_refused}
use Rattle.smithy_json.proofs.document_writer.push_name.Goals as goal

pub returns-in_err-push_string-clause-err : goal.returns-in_err-push_string-clause-err
returns-in_err-push_string-clause-err g c =
    inside_refused c.from_residual-in_err-push_string.result (g.T.AppendText.bytes c.args.out.now) c.args.parting.now (quoted c.args.name.now) (name_separator ∷ []) _ _ c.in_ok-append_text.ensures.ok c.in_err-push_string.ensures.err

pub returns-clause-err : goal.returns-clause-err
returns-clause-err g c =
    closing_refused c.append_text-2.result (g.T.AppendText.bytes c.args.out.now) c.args.parting.now (quoted c.args.name.now) (name_separator ∷ []) _ _ c.in_ok-append_text.ensures.ok _ c.in_ok-push_string.ensures.ok c.append_text-2.ensures.err
