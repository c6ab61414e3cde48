-- The stack of containers that wait, and one more element.
use Rattle.std.proofs.Common.{◌≡◌, List, [], ◌∷◌, ◌++◌, length, map, reverse, ap, ◌∙◌, refl}
use Rattle.std.proofs.lemmas.List.{reverse-append, length-map, length-reverse}
use Rattle.smithy_types.specs.Document.{item}
use Rattle.smithy_types.specs.DocumentView.{document_view, elements_view}
use Rattle.smithy_types.specs.declared.document.Document.{Document}
use Rattle.smithy_json_values.specs.declared.documents.Frame.{Frame}
use Rattle.smithy_json_values.specs.Private.OpenDocuments.{add_element, frame_view, frames_view}

-- one more container
pub frames_push : (fs : List Frame) (f : Frame) → frames_view (fs ++ f ∷ []) ≡ frame_view f ∷ frames_view fs
frames_push fs f = ap (map frame_view) (reverse-append fs (f ∷ []))

pub frames-length : (fs : List Frame) → length (frames_view fs) ≡ length fs
frames-length fs = length-map (reverse fs) frame_view ∙ length-reverse fs

-- one more element
pub elements_push : (ds : List Document) (d : Document) → elements_view (ds ++ d ∷ []) ≡ add_element (elements_view ds) (document_view d)
elements_push [] d = refl
elements_push (e ∷ ds) d = ap (item (document_view e)) (elements_push ds d)
