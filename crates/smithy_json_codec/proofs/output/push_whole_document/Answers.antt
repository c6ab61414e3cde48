use Rattle.std.proofs.Common.{◌≡◌, ◌++◌, subst, OnOk}
use Rattle.smithy_types.specs.DocumentView.{document_view}
use Rattle.smithy_json_codec.proofs.DocumentTexts.{whole_text}
use Rattle.smithy_json_codec.proofs.output.push_whole_document.Goals as goal

pub returns : goal.returns
returns c =
    subst (λ text. OnOk c.push_document.result (c.push_document.new.out.items ≡ c.args.out.now.items ++ text))
    (whole_text (document_view c.args.document.now)) c.push_document.ensures.ok
