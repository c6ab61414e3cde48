use Rattle.std.proofs.Common.{ap, ◌∙◌}
use Rattle.smithy_types.specs.DocumentView.{properties_view}
use Rattle.smithy_types.proofs.DocumentLemmas.{view-insert_entry}
use Rattle.smithy_json_values.specs.Private.OpenDocuments.{open_object}
use Rattle.smithy_json_values.proofs.documents.with_property.Goals as goal

pub returns : goal.returns
returns c =
    ap (λ es. open_object (properties_view es)) c.in_ok-insert.ensures.entries
    ∙ ap open_object (view-insert_entry c.args.properties.entries c.args.name c.args.value)
