use Rattle.std.proofs.Common.{◌≡◌, ◌≤◌, ◌++◌, [], length, drop, IsUtf8}
use Rattle.smithy_types.specs.DocumentView.{elements_view, properties_view}
use Rattle.smithy_json.specs.DocumentText.{elements_text, properties_text}
use Rattle.smithy_json.proofs.document_writer.+document.Given as goal

-- with what is left of the elements, what was written is all that is to be written
abbrev pub invariant-push_elements-loop-element : goal.invariant-push_elements-loop-element
invariant-push_elements-loop-element g l = record {
  all : g.T.AppendText.bytes l.out ++ elements_text l.parting (elements_view (drop l.element-index l.elements))
      ≡ g.T.AppendText.bytes l.fn.out ++ elements_text [] (elements_view l.elements);
  longer : length (g.T.AppendText.bytes l.fn.out) ≤ length (g.T.AppendText.bytes l.out);
  utf8 : IsUtf8 l.parting;
}

-- the same of the properties
abbrev pub invariant-push_properties-loop-name : goal.invariant-push_properties-loop-name
invariant-push_properties-loop-name g l = record {
  all : g.T.AppendText.bytes l.out ++ properties_text l.parting (properties_view l.name-iterator)
      ≡ g.T.AppendText.bytes l.fn.out ++ properties_text [] (properties_view l.properties.entries);
  longer : length (g.T.AppendText.bytes l.fn.out) ≤ length (g.T.AppendText.bytes l.out);
  utf8 : IsUtf8 l.parting;
}
