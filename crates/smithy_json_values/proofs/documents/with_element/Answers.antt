use Rattle.std.proofs.Common.{ap, ◌∙◌}
use Rattle.smithy_types.specs.DocumentView.{elements_view}
use Rattle.smithy_json_values.specs.Private.OpenDocuments.{open_array}
use Rattle.smithy_json_values.proofs.DocumentFrames.{elements_push}
use Rattle.smithy_json_values.proofs.documents.with_element.Goals as goal

pub returns : goal.returns
returns c =
    ap (λ ds. open_array (elements_view ds)) c.in_ok-push.ensures.items ∙ ap open_array (elements_push c.args.elements.items c.args.value)
