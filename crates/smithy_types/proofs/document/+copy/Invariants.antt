use Rattle.std.proofs.Common.{◌≡◌, List, ◌++◌, take, map}
use Rattle.smithy_types.specs.DocumentView.{document_view, properties_view}
use Rattle.smithy_types.proofs.DocumentLemmas.{Entry}
use Rattle.smithy_types.proofs.document.+copy.Given as goal

-- what was copied so far
abbrev pub invariant-copy_elements-loop-element : goal.invariant-copy_elements-loop-element
invariant-copy_elements-loop-element l =
    map document_view l.copies.items ≡ map document_view (take l.element-index l.element-items)

abbrev pub invariant-copy_properties-loop-name : goal.invariant-copy_properties-loop-name
invariant-copy_properties-loop-name l =
    (done : List Entry) × (l.object.entries ≡ done ++ l.name-iterator)
    × (properties_view l.copies.entries ≡ properties_view done)
