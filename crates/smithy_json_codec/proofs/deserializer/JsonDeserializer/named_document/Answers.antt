use Rattle.std.proofs.lemmas.Result.{err_from_is_err_and}
use Rattle.smithy_types.specs.DocumentView.{document_view}
use Rattle.smithy_json_codec.proofs.deserializer.JsonDeserializer.named_document.Goals as goal

pub returns-clause-ok : goal.returns-clause-ok
returns-clause-ok c =
    let stands = rw (c.input.ensures, c.depth.ensures) at c.in_ok-document.ensures.ok in
    record { document = document_view c.in_ok-document.document; stands = stands; is = rw (c.in_ok-protocol_id.ensures.ok) at c.in_ok-document-2.ensures }

pub returns-in_err-document-clause-refused : goal.returns-in_err-document-clause-refused
returns-in_err-document-clause-refused c =
    let p = err_from_is_err_and c.from_residual.result c.from_residual.ensures.1 in
    let refused = rw (c.input.ensures, c.depth.ensures) at c.in_err-document.ensures.refused in
    rw (p.1, p.2) refused
