use Rattle.std.proofs.Common.{◌∙◌, ap}
use Rattle.smithy_types.specs.DocumentView.{properties_view}
use Rattle.smithy_types.specs.Identifier.{type_name}
use Rattle.smithy_types.proofs.DocumentLemmas.{view-remove_entry}
use Rattle.smithy_types.proofs.named_document.without_entry.Goals as goal

pub returns : goal.returns
returns c = ap properties_view c.remove.ensures.entries ∙ view-remove_entry type_name c.args.properties.entries
