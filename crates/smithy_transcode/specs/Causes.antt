-- What the bytes of an input say of why it is refused, wire by wire.
use Rattle.std.specs.Prelude.{◌≡◌, ◌≤◌, ◌⊎◌, ℕ, List, Option, Some}
use Rattle.smithy_declarations.specs.declared.place.Place.{Place}
use Rattle.smithy_declarations.specs.declared.shape_type.Scalar.{Scalar}
use Rattle.smithy_declarations.specs.declared.shape_type.Scalar.TheVariants.{Timestamp}
use Rattle.smithy_declarations.specs.Table.{Table, Kind, scalar, document, kind_of, shape_place, place_in, IsContainer, IsInside}
use Rattle.smithy_json_values.specs.Openers.{json_openers}
use Rattle.smithy_json_values.specs.Uncarried.{IsUncarriedJson, HasUnheldNumber}
use Rattle.smithy_json_values.specs.Wide.{IsWideJson}
use Rattle.smithy_cbor_values.specs.Openers.{cbor_openers}
use Rattle.smithy_cbor_values.specs.Uncarried.{IsUncarriedCbor}
use Rattle.smithy_cbor_values.specs.Wide.{IsWideCbor}
use Rattle.smithy_transcode.specs.Wires.{Wire, json, cbor, query}

-- how many containers may be open at once, by the bytes alone
abbrev pub openers : Wire → List ℕ → ℕ
openers (json use_json_name integral) bytes = json_openers bytes
openers (cbor definite_lengths) bytes = cbor_openers bytes
openers (query action version) bytes = 0

-- so many steps inside of the root, each to a member, an element or a map's value, lies the place of one more container
abbrev pub NestsTo : ℕ → Table → ℕ → Type 0
NestsTo greatest table root =
    (q : Place) × (count : ℕ) × (count ≡ greatest) × IsInside table (shape_place root) count q × IsContainer (kind_of table q)

-- In JSON the greatest depth holds for all that stands in a body, whatever the table has. In CBOR it holds for what is entered by the
-- table alone, and not for what is skipped, or stands where a document is due.
abbrev pub MayNest : Wire → Table → ℕ → Type 0
MayNest (json use_json_name integral) table root = Unit {0}
MayNest (cbor definite_lengths) table root = NestsTo 128 table root
MayNest (query action version) table root = ⊥

-- by the bytes 128 containers may be open at once, and so many may count as depth
abbrev pub IsTooDeep : Wire → Table → ℕ → List ℕ → Type 0
IsTooDeep wire table root bytes = (128 ≤ openers wire bytes) × MayNest wire table root

-- some slice of the bytes is, as a big number of this kind, one that leaves the limits of the kind; of forms nothing is read
abbrev pub HasWide : Wire → Scalar → List ℕ → Type 0
HasWide (json use_json_name integral) s bytes = IsWideJson s bytes
HasWide (cbor definite_lengths) s bytes = IsWideCbor s bytes
HasWide (query action version) s bytes = ⊥

-- some slice of the bytes is a number of seconds that no instant carries
abbrev pub HasOtherSeconds : Wire → List ℕ → Type 0
HasOtherSeconds (json use_json_name integral) bytes = IsUncarriedJson bytes
HasOtherSeconds (cbor definite_lengths) bytes = IsUncarriedCbor bytes
HasOtherSeconds (query action version) bytes = ⊥

-- Some slice of the bytes is what no document carries: in JSON a number with a fraction or an exponent, or outside of -2^63 to
-- 2^64-1. CBOR carries no documents, whatever the bytes are.
abbrev pub HasUncarriedPart : Wire → List ℕ → Type 0
HasUncarriedPart (json use_json_name integral) bytes = HasUnheldNumber bytes
HasUncarriedPart (cbor definite_lengths) bytes = Unit {0}
HasUncarriedPart (query action version) bytes = ⊥

-- the place is that of a member, of an element or of a map's value in the table
abbrev pub IsChildPlace : Table → Place → Type 0
IsChildPlace table q = (p : Place) × (n : Option ℕ) × (place_in (kind_of table p) n ≡ Some q)

-- a member, an element or a value of a map in the table has a target of this kind
abbrev pub HasTarget : Table → Kind → Type 0
HasTarget table kind = (place : Place) × IsChildPlace table place × (kind_of table place ≡ kind)

-- the bytes have a big number of a kind that the table has, and it leaves the limits of the kind
abbrev pub IsWide : Wire → Table → List ℕ → Type 0
IsWide wire table bytes = (s : Scalar) × HasTarget table (scalar s) × HasWide wire s bytes

-- the table has instants, and the bytes have a number of seconds that none carries; or it has documents, and the bytes have
-- what none carries
abbrev pub IsUncarried : Wire → Table → List ℕ → Type 0
IsUncarried wire table bytes =
    (HasTarget table (scalar Timestamp) × HasOtherSeconds wire bytes)
    ⊎ (HasTarget table document × HasUncarriedPart wire bytes)
