use Rattle.std.proofs.Common.{◌≡◌, ◌∙◌, true, false, sym, arith}
use Rattle.std.proofs.lemmas.Grind.{common_steps}
use Rattle.std.proofs.lemmas.Result.{err_from_is_err_and}
use Rattle.smithy_types.specs.DocumentView.{document_view}
use Rattle.smithy_json_values.specs.Codec.{held_settings, held_grammar}
use Rattle.smithy_json_values.proofs.DocumentReads.{lies_refused, followed_refused, document_within}
use Rattle.smithy_json_values.proofs.documents.standing_document_at.Goals as goal

pub may_end-requires : goal.may_end-requires
may_end-requires c =
    document_within (held_grammar c.args.input.settings) (held_settings c.args.input.settings) c.args.depth c.args.input.bytes.now c.args.at (document_view c.in_ok-document.document) c.in_ok-document.end c.in_ok-document.ensures.ok

pub returns-then-not-may_end-clause-refused : goal.returns-then-not-may_end-clause-refused
returns-then-not-may_end-clause-refused c =
    followed_refused (held_grammar c.args.input.settings) (held_settings c.args.input.settings) c.args.depth c.args.input.bytes.now c.args.at (document_view c.in_ok-document.document) c.in_ok-document.end c.in_ok-document.ensures.ok
    (λ follows. let clash : true ≡ false = sym (c.may_end.ensures.1 follows) ∙ c.if-not-may_end.true in cc)

pub returns-in_err-document-clause-refused : goal.returns-in_err-document-clause-refused
returns-in_err-document-clause-refused c =
    let p = err_from_is_err_and c.from_residual.result c.from_residual.ensures.1 in
    rw (p.1, p.2) (lies_refused (held_grammar c.args.input.settings) (held_settings c.args.input.settings) c.args.depth c.args.input.bytes.now c.args.at c.in_err-document.field-0.0 c.in_err-document.ensures.refused)

pub document_at-requires-clause-within : goal.document_at-requires-clause-within
document_at-requires-clause-within c = grind (arith, common_steps)

pub document_at-requires-clause-shallow : goal.document_at-requires-clause-shallow
document_at-requires-clause-shallow c = grind (arith, common_steps)

pub returns-in_err-document-clause-ok : goal.returns-in_err-document-clause-ok
returns-in_err-document-clause-ok c = grind (arith, common_steps)

pub overflow_add-depth : goal.overflow_add-depth
overflow_add-depth c = grind (arith, common_steps)
