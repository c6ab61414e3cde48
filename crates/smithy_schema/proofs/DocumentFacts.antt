-- Examples of documents as values: their nesting, their place, the calls that write them, by computing.
use Rattle.std.proofs.Common.{◌≡◌, ℤ, [], ◌∷◌, map, true, false, Some, None, refl, pos, neg_ℤ, codes, ◌-◌, ◌+◌, ◌^◌, Ok, Err}
use Rattle.smithy_types.specs.Document.{Document, null, boolean, number, text, array, object, no_documents, item, no_properties, property, is_document_number}
use Rattle.smithy_schema.specs.declared.error.SerdeError.TheVariants.{Unwritable}
use Rattle.smithy_declarations.specs.Table as table
use Rattle.smithy_declarations.specs.Table.{Table, document, kind_of, document_place, shape_place, is_document_place}
use Rattle.smithy_declarations.specs.Documents.{document_nesting}
use Rattle.smithy_declarations.specs.Value.{document_value, list, no_values, value, nesting}
use Rattle.smithy_shapes.specs.Site.{Site, shape_site, element_of}
use Rattle.smithy_shapes.specs.ScalarTest.{no_documents as none, scalars_pass}
use Rattle.smithy_schema.specs.Writing.{open_map_at_key, open_map_at_value, begin_list, end_list, document_of, events, open_after}

-- [null, [1]], and an object with it beside a text
abbrev nested : Document ℤ
nested = array (item null (item (array (item (number (pos 1)) no_documents)) no_documents))

abbrev an_object : Document ℤ
an_object = object (property (codes "a") (text (codes "x")) (property (codes "b") nested no_properties))

-- what has no parts counts, too
pub nestings : map document_nesting (null ∷ boolean true ∷ number (pos 1) ∷ text [] ∷ array no_documents ∷ object no_properties ∷ nested ∷ an_object ∷ [])
    ≡ 1 ∷ 1 ∷ 1 ∷ 1 ∷ 1 ∷ 1 ∷ 3 ∷ 4 ∷ []
nestings = refl

-- a list of documents nests one deeper than they do
pub nesting_in_a_list : nesting (list (value (document_value null) (value (document_value nested) no_values))) ≡ 4
nesting_in_a_list = refl

-- one before the least, the least, the greatest, and one behind it
pub numbers : map is_document_number (neg_ℤ (pos (2 ^ 63 + 1)) ∷ neg_ℤ (pos (2 ^ 63)) ∷ pos (2 ^ 64 - 1) ∷ pos (2 ^ 64) ∷ []) ≡ false ∷ true ∷ true ∷ false ∷ []
numbers = refl

-- list L document
abbrev documents : Table
documents = record { name = codes "L"; shape = table.list (record { place = document_place None; is_sparse = false; xml_name = None }) } ∷ []

pub places : (kind_of documents (document_place None) ≡ document) × (map is_document_place (document_place None ∷ shape_place 0 ∷ []) ≡ true ∷ false ∷ [])
places = (refl, refl)

abbrev at : Site
at = shape_site documents 0

-- a document is one call, whatever it holds
pub events_of_documents : events at (list (value (document_value an_object) (value (document_value null) no_values)))
    ≡ begin_list at (Some 2) ∷ document_of (element_of at) an_object ∷ document_of (element_of at) null ∷ end_list ∷ []
events_of_documents = refl

-- it is no key, also where it is a text
pub no_key : map (open_after (document_of at (text []))) ((open_map_at_key ∷ []) ∷ (open_map_at_value ∷ []) ∷ [] ∷ []) ≡ Err Unwritable ∷ Ok (open_map_at_key ∷ []) ∷ Ok [] ∷ []
no_key = refl

pub none_held : map (scalars_pass none at) (list no_values ∷ list (value (document_value null) no_values) ∷ []) ≡ true ∷ false ∷ []
none_held = refl
