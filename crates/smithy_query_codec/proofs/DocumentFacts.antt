-- Documents have no leaves and aren't written to a form, and what is refused first decides, by computing.
use Rattle.std.proofs.Common.{◌≡◌, ℕ, List, [], ◌∷◌, map as mapped, true, false, Some, None, Err, codes, refl, pos}
use Rattle.smithy_types.specs.Document as document
use Rattle.smithy_schema.specs.declared.error.SerdeError.TheVariants.{Unsupported, Unwritable}
use Rattle.smithy_declarations.specs.declared.shape_type.Scalar.TheVariants as scalars
use Rattle.smithy_shapes.specs.Site.{shape_site, member_of}
use Rattle.smithy_declarations.specs.declared.place.Place.{Place}
use Rattle.smithy_declarations.specs.Table as table
use Rattle.smithy_declarations.specs.Table.{Table, Member, document_place, scalar_place, shape_place}
use Rattle.smithy_declarations.specs.Value.{whole, Value, scalar_value, list, structure, null_element, document_value, no_values, value, no_member_values, member_value}
use Rattle.smithy_schema.specs.Writing.{document_of, open_structure, open_list, open_map_at_key, open_map_at_value, write}
use Rattle.smithy_query_codec.specs.Leaves.{neither, leaves}
use Rattle.smithy_query_codec.specs.Refusals.{refusal_of}
use Rattle.smithy_query_codec.specs.Writable.{can_be_written}
use Rattle.smithy_query_codec.specs.Writing.{fresh_state, query_after}
use Rattle.smithy_query_codec.proofs.OnLiterals.{smithy_query_codec_on_literals}

abbrev a_member : List ℕ → Place → Member
a_member name place = record { name = name; json_name = None; xml_name = None; is_flat = false; place = place }

-- list L long sparse / structure S / member a document / member b long / member l L
abbrev documents : Table
documents = record { name = codes "L"; shape = table.list (record { place = scalar_place scalars.Long None; is_sparse = true; xml_name = None }) }
    ∷ record { name = codes "S"; shape = table.structure (a_member (codes "a") (document_place None) ∷ a_member (codes "b") (scalar_place scalars.Long None) ∷ a_member (codes "l") (shape_place 0) ∷ []) } ∷ []

abbrev a_document : Value
a_document = document_value (document.number (pos 1))

-- a document, and a list with a null
abbrev both : Value
both = structure (member_value 0 a_document (member_value 2 (list (value null_element no_values)) no_member_values))

-- that list alone
abbrev a_null : Value
a_null = structure (member_value 2 (list (value null_element no_values)) no_member_values)

abbrev neither_of_them : Value
neither_of_them = structure (member_value 1 (scalar_value (whole (pos 1))) no_member_values)

-- it has no leaves
pub no_leaves : leaves (shape_site documents 1) neither (structure (member_value 0 a_document no_member_values)) ≡ []
unfolding smithy_query_codec_on_literals
no_leaves = refl

-- none is written, wherever a value may be, and a key's place and a missing name come first
pub none_is_written : mapped (λ opens. query_after (document_of (member_of (shape_site documents 1) 0) document.null) (record (fresh_state [] []) { opens = opens }))
    ([] ∷ (open_structure ∷ []) ∷ (open_list ∷ []) ∷ (open_map_at_value ∷ []) ∷ (open_map_at_key ∷ []) ∷ [])
    ≡ Err Unsupported ∷ Err Unsupported ∷ Err Unsupported ∷ Err Unsupported ∷ Err Unwritable ∷ []
unfolding smithy_query_codec_on_literals
none_is_written = refl

pub none_without_a_name : (query_after (document_of (shape_site documents 1) document.null) (fresh_state [] []) ≡ Err Unwritable)
    × (query_after (document_of (shape_site documents 1) document.null) (record (fresh_state [] []) { opens = open_list ∷ []; count = 18446744073709551615 }) ≡ Err Unwritable)
unfolding smithy_query_codec_on_literals
none_without_a_name = (refl, refl)

-- what comes first decides
pub refusals : mapped (refusal_of (shape_site documents 1)) (both ∷ a_null ∷ neither_of_them ∷ []) ≡ Some Unsupported ∷ Some Unwritable ∷ None ∷ []
unfolding smithy_query_codec_on_literals
refusals = refl

pub which_are_written : mapped (can_be_written (shape_site documents 1)) (both ∷ a_null ∷ neither_of_them ∷ []) ≡ false ∷ false ∷ true ∷ []
unfolding smithy_query_codec_on_literals
which_are_written = refl

pub in_a_value : (write query_after (shape_site documents 1) both (fresh_state [] []) ≡ Err Unsupported)
    × (write query_after (shape_site documents 1) a_null (fresh_state [] []) ≡ Err Unwritable)
unfolding smithy_query_codec_on_literals
in_a_value = (refl, refl)
