use Rattle.std.proofs.Common.{◌≡◌, ◌++◌}
use Rattle.smithy_types.specs.DocumentView.{properties_view}
use Rattle.smithy_json_codec.specs.NamedDocument.{more_properties}
use Rattle.smithy_json_codec.proofs.named_documents.push_more_properties.Given as goal

-- with what is left of the properties, what was written is all that is to be written
abbrev pub invariant-loop-name : goal.invariant-loop-name
invariant-loop-name l = l.out.items ++ more_properties (properties_view l.name-iterator) ≡ l.fn.out.items ++ more_properties (properties_view l.properties.entries)
