-- Which values are values of a place.
use Rattle.std.specs.Prelude.{◌≡◌, ◌≤◌, ◌&&◌, ℕ, suc, List, Bool, true, false, Some, None, IsUtf8}
use Rattle.std.specs.declared.cmp.Ordering.TheVariants.{Less}
use Rattle.std.specs.Ordering.{nat_cmp}
use Rattle.std.specs.Cmp.Lexicographic.{slice_cmp}
use Rattle.std.specs.Str.{is_utf8}
use Rattle.smithy_texts.specs.Base64Text.{are_bytes}
use Rattle.smithy_texts.specs.Ranges.{fits_signed, is_exponent}
use Rattle.smithy_instants.specs.Instant.{is_instant}
use Rattle.smithy_declarations.specs.declared.place.Place.{Place}
use Rattle.smithy_declarations.specs.declared.shape_type.Scalar.{Scalar}
use Rattle.smithy_declarations.specs.declared.shape_type.Scalar.TheVariants as scalars
use Rattle.smithy_declarations.specs.Table.{Table, Kind, scalar, kind_of, place_in, is_sparse, IsDocument, IsList, IsMap, IsStructure, IsUnion}
use Rattle.smithy_declarations.specs.Documents.{DocumentFits}
use Rattle.smithy_declarations.specs.Value.{ScalarValue, boolean, whole, text, bytes, decimal, instant, Value, scalar_value, list, map, structure, union, null_element, document_value, Values, no_values, value, MapEntries, no_map_entries, map_entry, MemberValues, no_member_values, member_value}

-- the scalar values of a kind
abbrev pub is_of : Scalar → ScalarValue → Bool
is_of scalars.Boolean (boolean b) = true
is_of scalars.Byte (whole n) = fits_signed 8 n
is_of scalars.Short (whole n) = fits_signed 16 n
is_of scalars.Integer (whole n) = fits_signed 32 n
is_of scalars.Long (whole n) = fits_signed 64 n
is_of scalars.String (text s) = is_utf8 s
is_of scalars.Blob (bytes b) = are_bytes b
is_of scalars.Timestamp (instant n) = is_instant n
is_of scalars.BigInteger (whole n) = fits_signed 128 n
is_of scalars.BigDecimal (decimal m e) = fits_signed 128 m && is_exponent e
is_of _ _ = false

-- the scalar values of what stands at a place
abbrev pub is_scalar_of : Kind → ScalarValue → Bool
is_scalar_of (scalar s) x = is_of s x
is_scalar_of _ x = false

-- the positions ascend from this one on, each once
abbrev pub AscendFrom : ℕ → MemberValues → Type 0
AscendFrom least no_member_values = Unit {0}
AscendFrom least (member_value n v ms) = (least ≤ n) × AscendFrom (suc n) ms

-- the first key, if there is one, is above this one in byte order, and so on
abbrev pub KeysAscendAbove : List ℕ → MapEntries → Type 0
KeysAscendAbove key no_map_entries = Unit {0}
KeysAscendAbove key (map_entry at v es) = (slice_cmp nat_cmp key at ≡ Less) × KeysAscendAbove at es

-- the keys ascend, each once
abbrev pub KeysAscend : MapEntries → Type 0
KeysAscend no_map_entries = Unit {0}
KeysAscend (map_entry key v es) = KeysAscendAbove key es

-- The value is one of the place, or a null element where one may stand.
abbrev mutual
  pub FitsOr : Table → Place → Bool → Value → Type 0
  FitsOr table place nulls (scalar_value x) = is_scalar_of (kind_of table place) x ≡ true
  FitsOr table place nulls (list vs) = IsList (kind_of table place) × ElementsFit table (kind_of table place) vs
  FitsOr table place nulls (map es) =
      IsMap (kind_of table place) × EntriesFit table (kind_of table place) es × KeysAscend es
  FitsOr table place nulls (structure ms) =
      IsStructure (kind_of table place) × MembersFit table (kind_of table place) ms × AscendFrom 0 ms
  FitsOr table place nulls (union n v) =
      IsUnion (kind_of table place)
      × ((inner : Place) × (place_in (kind_of table place) (Some n) ≡ Some inner) × FitsOr table inner false v)
  FitsOr table place nulls null_element = nulls ≡ true
  FitsOr table place nulls (document_value d) = IsDocument (kind_of table place) × DocumentFits d

  -- the elements of a list: a null stands only where it is sparse
  pub ElementsFit : Table → Kind → Values → Type 0
  ElementsFit table kind no_values = Unit {0}
  ElementsFit table kind (value v vs) =
      ((place : Place) × (place_in kind None ≡ Some place) × FitsOr table place (is_sparse kind) v)
      × ElementsFit table kind vs

  -- the entries of a map: a key is a text, and a null stands only where the map is sparse
  pub EntriesFit : Table → Kind → MapEntries → Type 0
  EntriesFit table kind no_map_entries = Unit {0}
  EntriesFit table kind (map_entry key v es) =
      IsUtf8 key
      × ((place : Place) × (place_in kind None ≡ Some place) × FitsOr table place (is_sparse kind) v)
      × EntriesFit table kind es

  -- the members of a structure: each is one that it has
  pub MembersFit : Table → Kind → MemberValues → Type 0
  MembersFit table kind no_member_values = Unit {0}
  MembersFit table kind (member_value n v ms) =
      ((place : Place) × (place_in kind (Some n) ≡ Some place) × FitsOr table place false v)
      × MembersFit table kind ms

-- the value is one of the place
abbrev pub Fits : Table → Place → Value → Type 0
Fits table place v = FitsOr table place false v
