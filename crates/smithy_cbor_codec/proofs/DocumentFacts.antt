-- What stands where a document is due in CBOR, and that none is written, by computing.
use Rattle.std.proofs.Common.{◌≡◌, [], ◌∷◌, map, false, Some, None, Err, refl, pos, codes}
use Rattle.smithy_types.specs.Document as document
use Rattle.smithy_schema.specs.declared.error.SerdeError.TheVariants.{Unsupported, Unwritable}
use Rattle.smithy_shapes.specs.Site.{shape_site, member_of}
use Rattle.smithy_declarations.specs.Table as table
use Rattle.smithy_declarations.specs.Table.{Table, document_place}
use Rattle.smithy_declarations.specs.Value as values
use Rattle.smithy_declarations.specs.Value.{Value, document_value, list, no_values, value, no_member_values, member_value, null_element}
use Rattle.smithy_shapes.specs.ScalarTest.{scalars_pass}
use Rattle.smithy_schema.specs.Writing.{document_of, write, open_structure, open_list, open_map_at_key, open_map_at_value}
use Rattle.cbor_item.specs.Item.{unsigned, negative, byte_string, definite, tag, simple, float}
use Rattle.smithy_cbor_body.specs.Canonical.{cbor_holds, canonical_cbor}
use Rattle.smithy_cbor_values.specs.Meaning.{cbor_meaning}
use Rattle.smithy_cbor_values.specs.Settings.{without_limits}
use Rattle.smithy_cbor_body.specs.Codec.{strict_settings}
use Rattle.smithy_cbor_body.specs.Writing.{fresh_body, body_after}
use Rattle.smithy_cbor_codec.proofs.OnLiterals.{smithy_cbor_codec_on_literals}
use Rattle.smithy_cbor_codec.proofs.Examples.{plain_member, named, list_shape, map_shape, a_text, null, undefined, an_array, a_map, alone, both, strict, empty_structure, first_alone, long_place, whole_value, means_at, would_mean_at}

-- structure S / member a document / member b long / list L document / map M document / union U / member a document / member b long
abbrev documents : Table
documents = named (codes "S") (table.structure (plain_member (codes "a") (document_place None) ∷ plain_member (codes "b") long_place ∷ []))
    ∷ named (codes "L") (list_shape false (document_place None)) ∷ named (codes "M") (map_shape false (document_place None))
    ∷ named (codes "U") (table.union (plain_member (codes "a") (document_place None) ∷ plain_member (codes "b") long_place ∷ [])) ∷ []

-- whatever stands there is no document, a null neither
pub none_is_carried : map (cbor_meaning strict documents (document_place None) 0) (null ∷ undefined ∷ unsigned 1 ∷ negative 0 ∷ a_text [] ∷ byte_string definite ([] ∷ []) ∷ simple 20 ∷ float (0x3c ∷ 0 ∷ []) ∷ tag 1 (unsigned 0) ∷ an_array [] ∷ a_map [] ∷ [])
    ≡ None ∷ None ∷ None ∷ None ∷ None ∷ None ∷ None ∷ None ∷ None ∷ None ∷ None ∷ []
none_is_carried = refl

-- without limits each is a null
pub each_would_be_a_null : map (cbor_meaning (without_limits strict) documents (document_place None) 0) (null ∷ unsigned 1 ∷ a_text [] ∷ an_array [] ∷ a_map [] ∷ [])
    ≡ Some null_element ∷ Some null_element ∷ Some null_element ∷ Some null_element ∷ Some null_element ∷ []
each_would_be_a_null = refl

-- a member that is a null is absent, in a structure and in a union
pub null_members : (means_at documents 0 (alone (codes "a") null) ≡ Some empty_structure)
    × (means_at documents 0 (alone (codes "a") (unsigned 1)) ≡ None)
    × (would_mean_at documents 0 (alone (codes "a") (unsigned 1)) ≡ Some (first_alone null_element))
    × (means_at documents 3 (alone (codes "a") null) ≡ None)
    × (would_mean_at documents 3 (alone (codes "a") null) ≡ None)
    × (means_at documents 3 (both (codes "a") null (codes "b") (unsigned 1)) ≡ Some (values.union 1 (whole_value (pos 1))))
    × (would_mean_at documents 3 (alone (codes "a") (unsigned 1)) ≡ Some (values.union 0 null_element))
unfolding smithy_cbor_codec_on_literals
null_members = (refl, refl, refl, refl, refl, refl, refl)

-- elements and values of maps aren't
pub null_elements : (means_at documents 1 (an_array []) ≡ Some (list no_values))
    × (means_at documents 1 (an_array (null ∷ [])) ≡ None)
    × (would_mean_at documents 1 (an_array (null ∷ unsigned 1 ∷ [])) ≡ Some (list (value null_element (value null_element no_values))))
    × (means_at documents 2 (alone (codes "k") null) ≡ None)
unfolding smithy_cbor_codec_on_literals
null_elements = (refl, refl, refl, refl)

-- none is written, wherever a value may be, and a key's place comes first
pub none_is_written : map (λ opens. body_after (document_of (member_of (shape_site documents 0) 0) document.null) (record (fresh_body strict_settings) { frames = opens }))
    ([] ∷ (open_structure ∷ []) ∷ (open_list ∷ []) ∷ (open_map_at_value ∷ []) ∷ (open_map_at_key ∷ []) ∷ [])
    ≡ Err Unsupported ∷ Err Unsupported ∷ Err Unsupported ∷ Err Unsupported ∷ Err Unwritable ∷ []
none_is_written = refl

-- nor a value with one
abbrev with_a_document : Value
with_a_document = values.structure (member_value 0 (document_value (document.number (pos 1))) (member_value 1 (whole_value (pos 1)) no_member_values))

pub in_a_value : (write body_after (shape_site documents 0) with_a_document (fresh_body strict_settings) ≡ Err Unsupported)
    × (scalars_pass cbor_holds (shape_site documents 0) with_a_document ≡ false)
    × (canonical_cbor false (shape_site documents 0) (document_value document.null) ≡ [])
unfolding smithy_cbor_codec_on_literals
in_a_value = (refl, refl, refl)
