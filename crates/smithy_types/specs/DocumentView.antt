-- What contracts see of a `Document`: texts as their bytes, vectors as lists, maps by their names in order.
use Rattle.std.specs.Prelude.{List, [], ◌∷◌, map, String, string_bytes}
use Rattle.std.specs.declared.alloc.Global.{Global}
use Rattle.smithy_types.specs.Document.{Document, null, boolean, number, text, array, object, Documents, no_documents, item, Properties, no_properties, property}
use Rattle.smithy_types.specs.declared.number.Number.{Number}
use Rattle.smithy_types.specs.declared.document.Document as kept
use Rattle.smithy_types.specs.declared.document.Document.TheOpen.{Document-F}

abbrev pub documents_of : List (Document Number) → Documents Number
documents_of [] = no_documents
documents_of (d ∷ ds) = item d (documents_of ds)

abbrev pub properties_of : List (String Global × Document Number) → Properties Number
properties_of [] = no_properties
properties_of (e ∷ es) = property (string_bytes e.0) e.1 (properties_of es)

-- one level, with each document inside already seen
abbrev pub view_step : Document-F (Document Number) → Document Number
view_step (Document-F.Object m) = object (properties_of m.entries)
view_step (Document-F.Array v) = array (documents_of v.items)
view_step (Document-F.Number n) = number n
view_step (Document-F.String s) = text (string_bytes s)
view_step (Document-F.Bool b) = boolean b
view_step Document-F.Null = null

abbrev pub document_view : kept.Document → Document Number
document_view = kept.fold-Document (Document Number) view_step

-- the elements of an array
abbrev pub elements_view : List kept.Document → Documents Number
elements_view ds = documents_of (map document_view ds)

-- the entries of an object
abbrev pub properties_view : List (String Global × kept.Document) → Properties Number
properties_view es = properties_of (map (λ (e : String Global × kept.Document). (e.0, document_view e.1)) es)
