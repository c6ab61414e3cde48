use Rattle.std.proofs.Common.{◌∙◌, ap, option_map}
use Rattle.smithy_types.specs.DocumentView.{document_view}
use Rattle.smithy_types.specs.Identifier.{type_name}
use Rattle.smithy_types.proofs.DocumentLemmas.{copied_view, view-lookup}
use Rattle.smithy_types.proofs.named_document.type_of.Goals as goal

pub returns : goal.returns
returns c = copied_view c.get.result ∙ (ap (option_map document_view) c.get.ensures.value ∙ view-lookup type_name c.args.properties.now.entries)
