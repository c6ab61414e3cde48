-- What each call of a serializer makes of its state.
use Rattle.std.specs.Prelude.{ℕ, List, [], ◌∷◌, ◌++◌, Bool, true, false, if◌then◌else◌, Option, None, Result, Ok, Err}
use Rattle.smithy_schema.specs.declared.error.SerdeError.{SerdeError}
use Rattle.smithy_schema.specs.declared.error.SerdeError.TheVariants.{TooWide, Unsupported, Unwritable}
use Rattle.smithy_shapes.specs.Site.{View}
use Rattle.smithy_schema.specs.Writing.{Event, Writer, begin_structure, end_structure, begin_list, end_list, begin_map, end_map, null_of, scalar_of, big_integer_of, big_decimal_of, document_of, Open, open_structure, open_after}
use Rattle.cbor_item.specs.Head.{shortest_head}
use Rattle.smithy_cbor.specs.Scalar.{null_value}
use Rattle.smithy_cbor.specs.Written.{big_integer_bytes, decimal_fraction_bytes}
use Rattle.smithy_texts.specs.Numeral.{number}
use Rattle.smithy_texts.specs.Decimal.{mantissa, net_exponent}
use Rattle.smithy_texts.specs.Ranges.{fits_signed}
use Rattle.smithy_cbor_body.specs.Canonical.{key_bytes, scalar_bytes, cbor_holds}
use Rattle.smithy_cbor_body.specs.Lengths.{written_length, head_of, begun, counted_in, may_end, ending, outer}
use Rattle.smithy_cbor_values.specs.Settings.{Settings}
use Rattle.smithy_cbor_body.specs.declared.lengths.Length.{Length}

pub record BodyState : Type 0 where
  pub settings : Settings
  -- the bytes so far
  pub out : List ℕ
  -- the open containers, innermost first, and what is known of the length of each
  pub frames : List Open
  pub lengths : List Length

-- nothing is written yet
abbrev pub fresh_body : Settings → BodyState
fresh_body settings = record { settings = settings; out = []; frames = []; lengths = [] }

-- the name of a member stands in a structure or a union alone
abbrev pub key_in : List Open → List ℕ → List ℕ
key_in (open_structure ∷ frames) key = key
key_in _ key = []

-- what stands before a value
abbrev pub lead : BodyState → View → List ℕ
lead s view = key_in s.frames (key_bytes view)

-- the encoding of a value that is no container, or the head of one; of a map's key, too, which has no lead
abbrev pub wrote : BodyState → View → List ℕ → List Open → BodyState
wrote s view bytes frames =
    record s { out = s.out ++ (lead s view ++ bytes); frames = frames; lengths = counted_in s.frames s.lengths }

-- the head of a container, which is open from there on
abbrev pub opened : BodyState → View → ℕ → Option ℕ → List Open → BodyState
opened s view major length frames =
    record s { out = s.out ++ (lead s view ++ head_of major length); frames = frames; lengths = begun length ∷ counted_in s.frames s.lengths }

-- the end of a container
abbrev pub closed : BodyState → List Open → BodyState
closed s frames = record s { out = s.out ++ ending s.lengths; frames = frames; lengths = outer s.lengths }

-- What a call makes of the state, with the containers that are open behind it. Structures and unions have no written length.
abbrev pub made : Event → BodyState → List Open → BodyState
made (begin_structure site) s frames = opened s site.view 5 None frames
made end_structure s frames = closed s frames
made (begin_list site length) s frames = opened s site.view 4 (written_length s.settings length) frames
made end_list s frames = closed s frames
made (begin_map site length) s frames = opened s site.view 5 (written_length s.settings length) frames
made end_map s frames = closed s frames
made (null_of site) s frames = wrote s site.view (shortest_head 7 null_value) frames
made (scalar_of site x) s frames = wrote s site.view (scalar_bytes x) frames
made (big_integer_of site written) s frames = wrote s site.view (big_integer_bytes (number written)) frames
made (big_decimal_of site written) s frames =
    wrote s site.view (decimal_fraction_bytes (net_exponent written) (mantissa written)) frames
made (document_of site d) s frames = record s { frames = frames }

-- the state that is made of the open containers, unless the call is refused
abbrev pub where_taken : (List Open → BodyState) → Result (List Open) SerdeError → Result BodyState SerdeError
where_taken make (Ok frames) = Ok (make frames)
where_taken make (Err e) = Err e

-- an instant has to be one of whole seconds, and a container whose length is written one of so many elements or entries
abbrev pub is_writable : Event → BodyState → Bool
is_writable (scalar_of site x) s = cbor_holds.scalar site.place.time x
is_writable end_structure s = may_end s.lengths
is_writable end_list s = may_end s.lengths
is_writable end_map s = may_end s.lengths
is_writable _ s = true

-- a big number or its mantissa has to be one of 128 bits; the exponent isn't tested, as the text that a decimal keeps
-- has one within the limits
abbrev pub is_in_width : Event → Bool
is_in_width (big_integer_of site written) = fits_signed 128 (number written)
is_in_width (big_decimal_of site written) = fits_signed 128 (mantissa written)
is_in_width _ = true

-- what is made, unless it is too wide
abbrev pub where_in_width : Bool → Result BodyState SerdeError → Result BodyState SerdeError
where_in_width true made_of = made_of
where_in_width false (Ok s) = Err TooWide
where_in_width false (Err e) = Err e

-- no document is written
abbrev pub is_supported : Event → Bool
is_supported (document_of site d) = cbor_holds.documents
is_supported _ = true

-- what is made, unless CBOR has no such call
abbrev pub where_supported : Bool → Result BodyState SerdeError → Result BodyState SerdeError
where_supported true made_of = made_of
where_supported false (Ok s) = Err Unsupported
where_supported false (Err e) = Err e

-- what is made, unless CBOR can't write it
abbrev pub where_writable : Bool → Result BodyState SerdeError → Result BodyState SerdeError
where_writable can made_of = if can then made_of else Err Unwritable

-- A call is refused where no serializer takes it, its instant isn't one of whole seconds or the container that it ends has
-- another length than was written, and then where its number is too wide or where it is that of a document.
abbrev pub body_after : Writer BodyState
body_after e s =
    where_supported (is_supported e)
    (where_in_width (is_in_width e) (where_writable (is_writable e s) (where_taken (made e s) (open_after e s.frames))))
