-- Examples of what entries mean together, and of tables and views, by computing.
use Rattle.std.proofs.Common.{◌≡◌, ℕ, ℤ, List, [], ◌∷◌, map, Bool, true, false, Option, Some, None, option_map, refl, pos, neg_ℤ, codes, ◌+◌, ◌-◌, ◌*◌, ◌^◌, Result, Ok, Err}
use Rattle.smithy_schema.specs.declared.error.SerdeError.{SerdeError}
use Rattle.smithy_schema.specs.declared.error.SerdeError.TheVariants.{Unwritable}
use Rattle.smithy_declarations.specs.declared.place.Place.{Place}
use Rattle.smithy_declarations.specs.declared.shape_type.Scalar.TheVariants as scalars
use Rattle.smithy_declarations.specs.declared.shape_type.TimestampFormat.{TimestampFormat}
use Rattle.smithy_declarations.specs.declared.shape_type.TimestampFormat.TheVariants.{EpochSeconds, DateTime, HttpDate}
use Rattle.smithy_instants.specs.declared.format.Format.TheVariants as formats
use Rattle.smithy_instants.proofs.OnLiterals.{smithy_instants_on_literals}
use Rattle.smithy_declarations.specs.TimeForms.{format_of, form_or, form_writes, form_holds}
use Rattle.smithy_shapes.specs.ScalarTest.{scalars_pass}
use Rattle.smithy_declarations.specs.Table as table
use Rattle.smithy_declarations.specs.Table.{Table, Member, ListShape, MapShape, Kind, scalar, structure_of, union_of, list_of, map_of, nothing, kind_of, place_in, is_sparse, position_named, json_name_of, query_name_of, element_name_of, key_name_of, value_name_of, declared_as, scalar_place, shape_place}
use Rattle.smithy_declarations.specs.Value.{ScalarValue, boolean, Value, scalar_value, whole, text, bytes, decimal, instant, list, map as map_value, structure, union, null_element, no_values, value, no_map_entries, map_entry, no_member_values, member_value}
use Rattle.smithy_shapes.specs.Fits.{is_of}
use Rattle.smithy_shapes.specs.Container.{Entry, container_of}
use Rattle.smithy_shapes.specs.Site.{Site, shape_site, member_site, element_site, inner_site, key_site, nameless_site, member_named, element_of, key_of, value_of, member_of}
use Rattle.smithy_schema.specs.Writing.{Open, open_structure, open_list, open_map_at_key, open_map_at_value, Event, begin_structure, end_structure, begin_list, end_list, begin_map, end_map, null_of, scalar_of, events, open_after, run}

-- ---- entries and kinds

-- an entry of a structure that isn't absent: its key's text, the position that the key names, what the
-- child means there, and whether it can be skipped
abbrev present : Option (List ℕ) → Option ℕ → Option Value → Bool → Entry
present key position meaning is_skippable = record {
  key = key;
  position = position;
  meaning = meaning;
  is_absent = false;
  is_skippable = is_skippable;
  is_null = false;
}

-- an entry that is absent
abbrev absent : Option (List ℕ) → Option ℕ → Entry
absent key position = record {
  key = key;
  position = position;
  meaning = None;
  is_absent = true;
  is_skippable = true;
  is_null = true;
}

-- an entry that names the member at a position, and means a number there
abbrev sets : ℕ → ℕ → Entry
sets position n = present (Some (codes "a")) (Some position) (Some (scalar_value (whole (pos n)))) true

-- an element that means something or nothing, and whether it is a null
abbrev child : Option Value → Bool → Entry
child meaning is_null = record {
  key = None;
  position = None;
  meaning = meaning;
  is_absent = false;
  is_skippable = true;
  is_null = is_null;
}

abbrev of_list : Bool → Kind
of_list is_sparse = list_of (record { place = scalar_place scalars.Long None; is_sparse = is_sparse; xml_name = None })

-- what the entries of a structure mean, and those of a list
abbrev folded : List Entry → Option Value
folded = container_of (structure_of [])

-- ---- structures

pub no_entries : (folded [] ≡ Some (structure no_member_values)) × (container_of (of_list false) [] ≡ Some (list no_values))
no_entries = (refl, refl)

-- the last of the entries that name one member counts, in either order
pub last_counts : (folded (sets 0 1 ∷ sets 0 2 ∷ []) ≡ Some (structure (member_value 0 (scalar_value (whole (pos 2))) no_member_values)))
    × (folded (sets 0 2 ∷ sets 0 1 ∷ []) ≡ Some (structure (member_value 0 (scalar_value (whole (pos 1))) no_member_values)))
last_counts = (refl, refl)

-- one that is absent clears nothing, before it or behind it
pub absent_clears_nothing : (folded (sets 0 1 ∷ absent (Some (codes "a")) (Some 0) ∷ []) ≡ Some (structure (member_value 0 (scalar_value (whole (pos 1))) no_member_values)))
    × (folded (absent (Some (codes "a")) (Some 0) ∷ sets 0 1 ∷ []) ≡ Some (structure (member_value 0 (scalar_value (whole (pos 1))) no_member_values)))
    × (folded (absent (Some (codes "a")) (Some 0) ∷ []) ≡ Some (structure no_member_values))
absent_clears_nothing = (refl, refl, refl)

-- each entry that names a member and isn't absent has to mean something, whichever of equal ones it is
pub each_has_a_meaning : map folded ((present (Some (codes "a")) (Some 0) None true ∷ sets 0 1 ∷ []) ∷ (sets 0 1 ∷ present (Some (codes "a")) (Some 0) None true ∷ []) ∷ [])
    ≡ None ∷ None ∷ []
each_has_a_meaning = refl

-- an entry that names no member is passed where it can be skipped, or is absent, and only there
pub unknown_entries : map folded ((present (Some (codes "z")) None None true ∷ []) ∷ (absent (Some (codes "z")) None ∷ []) ∷ (present (Some (codes "z")) None None false ∷ []) ∷ (sets 0 1 ∷ present (Some (codes "z")) None None false ∷ []) ∷ [])
    ≡ Some (structure no_member_values) ∷ Some (structure no_member_values) ∷ None ∷ None ∷ []
unknown_entries = refl

-- one that names a member needn't be one that could be skipped
pub known_and_deep : folded (present (Some (codes "a")) (Some 0) (Some (scalar_value (whole (pos 1)))) false ∷ []) ≡ Some (structure (member_value 0 (scalar_value (whole (pos 1))) no_member_values))
known_and_deep = refl

-- a key without a text refuses, known or not, absent or not
pub key_without_text : map folded ((present None None None true ∷ []) ∷ (absent None None ∷ []) ∷ (sets 0 1 ∷ absent None None ∷ []) ∷ (present None (Some 0) (Some (scalar_value (whole (pos 1)))) true ∷ []) ∷ [])
    ≡ None ∷ None ∷ None ∷ None ∷ []
key_without_text = refl

-- members stand by position, each once, in whatever order their entries come
pub by_position : folded (sets 2 20 ∷ sets 0 1 ∷ sets 1 10 ∷ sets 2 21 ∷ sets 0 2 ∷ [])
    ≡ Some (structure (member_value 0 (scalar_value (whole (pos 2))) (member_value 1 (scalar_value (whole (pos 10))) (member_value 2 (scalar_value (whole (pos 21))) no_member_values))))
by_position = refl

-- ---- lists

-- elements stay in order, and equal ones stay
pub elements : container_of (of_list false) (child (Some (scalar_value (whole (pos 2)))) false ∷ child (Some (scalar_value (whole (pos 1)))) false ∷ child (Some (scalar_value (whole (pos 2)))) false ∷ [])
    ≡ Some (list (value (scalar_value (whole (pos 2))) (value (scalar_value (whole (pos 1))) (value (scalar_value (whole (pos 2))) no_values))))
elements = refl

-- a null is an element of a sparse list alone
pub null_elements : map (λ is_sparse. container_of (of_list is_sparse) (child None true ∷ child (Some (scalar_value (whole (pos 1)))) false ∷ [])) (true ∷ false ∷ [])
    ≡ Some (list (value null_element (value (scalar_value (whole (pos 1))) no_values))) ∷ None ∷ []
null_elements = refl

-- what means nothing and is no null is an element of no list, though it could be skipped; nor does an
-- element count as absent
pub no_elements : map (λ is_sparse. container_of (of_list is_sparse) (child None false ∷ [])) (true ∷ false ∷ []) ≡ None ∷ None ∷ []
no_elements = refl

pub no_absent_elements : container_of (of_list false) (absent None None ∷ []) ≡ None
no_absent_elements = refl

-- ---- unions

abbrev of_union : List Entry → Option Value
of_union = container_of (union_of [])

-- an entry that marks the variant, and one that names no member
abbrev mark : Bool → Entry
mark is_skippable = present (Some (codes "__type")) None None is_skippable

abbrev unknown : Entry
unknown = present (Some (codes "b")) None None true

-- exactly one member, however often a mark or what is absent stands beside it
pub one_variant : map of_union ((sets 1 5 ∷ []) ∷ (mark true ∷ sets 1 5 ∷ absent (Some (codes "c")) None ∷ mark true ∷ []) ∷ [])
    ≡ Some (union 1 (scalar_value (whole (pos 5)))) ∷ Some (union 1 (scalar_value (whole (pos 5)))) ∷ []
one_variant = refl

-- none, two, one member twice, an entry that names none beside it, a mark that can't be skipped, a key that is no text
pub no_variant : map of_union ([] ∷ (mark true ∷ []) ∷ (sets 0 1 ∷ sets 1 2 ∷ []) ∷ (sets 0 1 ∷ sets 0 1 ∷ []) ∷ (unknown ∷ sets 0 1 ∷ [])
    ∷ (mark false ∷ sets 0 1 ∷ []) ∷ (absent None None ∷ sets 0 1 ∷ []) ∷ (present (Some (codes "a")) (Some 0) None true ∷ []) ∷ [])
    ≡ None ∷ None ∷ None ∷ None ∷ None ∷ None ∷ None ∷ None ∷ []
no_variant = refl

-- where `__type` names a member it is one
pub type_member : of_union (present (Some (codes "__type")) (Some 0) (Some (scalar_value (whole (pos 1)))) true ∷ []) ≡ Some (union 0 (scalar_value (whole (pos 1))))
type_member = refl

-- ---- maps

abbrev of_map : Bool → List Entry → Option Value
of_map is_sparse = container_of (map_of (record { place = scalar_place scalars.Long None; is_sparse = is_sparse; key_name = None; value_name = None }))

-- an entry with a key and a number, and one with a null
abbrev at_key : List ℕ → ℕ → Entry
at_key key n = present (Some key) None (Some (scalar_value (whole (pos n)))) true

abbrev null_at : List ℕ → Entry
null_at key = record (child None true) { key = Some key }

-- keys come in byte order, and of equal ones the last counts
pub entries_in_order : of_map false (at_key (codes "b") 1 ∷ at_key (codes "a") 2 ∷ at_key [] 4 ∷ at_key (codes "b") 3 ∷ [])
    ≡ Some (map_value (map_entry [] (scalar_value (whole (pos 4))) (map_entry (codes "a") (scalar_value (whole (pos 2))) (map_entry (codes "b") (scalar_value (whole (pos 3))) no_map_entries))))
entries_in_order = refl

-- a null is a value of a sparse map alone, also where a later entry has its key
pub null_values : map (λ is_sparse. of_map is_sparse (null_at (codes "a") ∷ at_key (codes "b") 1 ∷ [])) (true ∷ false ∷ [])
    ≡ Some (map_value (map_entry (codes "a") null_element (map_entry (codes "b") (scalar_value (whole (pos 1))) no_map_entries))) ∷ None ∷ []
null_values = refl

pub null_before_a_value : of_map false (null_at (codes "a") ∷ at_key (codes "a") 1 ∷ []) ≡ None
null_before_a_value = refl

-- each key is a text, and each entry has to mean something
pub no_map : map (of_map true) ((child (Some (scalar_value (whole (pos 1)))) false ∷ []) ∷ (present (Some (codes "a")) None None true ∷ []) ∷ []) ≡ None ∷ None ∷ []
no_map = refl

-- scalars have no entries
pub no_containers : map (λ kind. container_of kind []) (scalar scalars.Long ∷ scalar scalars.String ∷ nothing ∷ []) ≡ None ∷ None ∷ None ∷ []
no_containers = refl

-- ---- tables

-- structure S / member a long xml=x / member ab string json=a flat / list L S sparse xml=e / list P string / union U / member ab
-- string json=a flat / map M L sparse key=k
abbrev first : Member
first = record { name = codes "a"; json_name = None; xml_name = Some (codes "x"); is_flat = false; place = scalar_place scalars.Long None }

abbrev second : Member
second = record { name = codes "ab"; json_name = Some (codes "a"); xml_name = None; is_flat = true; place = scalar_place scalars.String None }

abbrev items : ListShape
items = record { place = shape_place 0; is_sparse = true; xml_name = Some (codes "e") }

abbrev plain : ListShape
plain = record { place = scalar_place scalars.String None; is_sparse = false; xml_name = None }

abbrev by_key : MapShape
by_key = record { place = shape_place 1; is_sparse = true; key_name = Some (codes "k"); value_name = None }

abbrev shapes : Table
shapes = record { name = codes "S"; shape = table.structure (first ∷ second ∷ []) }
    ∷ record { name = codes "L"; shape = table.list items }
    ∷ record { name = codes "P"; shape = table.list plain }
    ∷ record { name = codes "U"; shape = table.union (second ∷ []) }
    ∷ record { name = codes "M"; shape = table.map by_key } ∷ []

pub kinds : map (kind_of shapes) (shape_place 0 ∷ shape_place 1 ∷ shape_place 2 ∷ shape_place 3 ∷ shape_place 4 ∷ shape_place 5 ∷ scalar_place scalars.Long None ∷ [])
    ≡ structure_of (first ∷ second ∷ []) ∷ list_of items ∷ list_of plain ∷ union_of (second ∷ []) ∷ map_of by_key ∷ nothing ∷ scalar scalars.Long ∷ []
kinds = refl

-- a union has the places of its members, and a map one for all its values
pub other_places : (map (place_in (kind_of shapes (shape_place 3))) (Some 0 ∷ Some 1 ∷ None ∷ []) ≡ Some (scalar_place scalars.String None) ∷ None ∷ None ∷ [])
    × (place_in (kind_of shapes (shape_place 4)) None ≡ Some (shape_place 1))
other_places = (refl, refl)

-- lists and maps are sparse where they say so
pub sparse_kinds : map (λ n. is_sparse (kind_of shapes (shape_place n))) (0 ∷ 1 ∷ 2 ∷ 3 ∷ 4 ∷ []) ≡ false ∷ true ∷ false ∷ false ∷ true ∷ []
sparse_kinds = refl

pub places : map (λ n. place_in (kind_of shapes (shape_place 0)) n) (Some 0 ∷ Some 1 ∷ Some 2 ∷ None ∷ [])
    ≡ Some (scalar_place scalars.Long None) ∷ Some (scalar_place scalars.String None) ∷ None ∷ None ∷ []
places = refl

-- a name is met whole: `a`, `ab`, `abc`, the empty one, `A`
pub positions : map (position_named (λ (m : Member). m.name) (first ∷ second ∷ [])) (codes "a" ∷ codes "ab" ∷ codes "abc" ∷ [] ∷ codes "A" ∷ [])
    ≡ Some 0 ∷ Some 1 ∷ None ∷ None ∷ None ∷ []
positions = refl

-- the names under `json-name` and in a form, and what stands in place of one that isn't given
pub other_names : (map json_name_of (first ∷ second ∷ []) ≡ codes "a" ∷ codes "a" ∷ [])
    × (map query_name_of (first ∷ second ∷ []) ≡ codes "x" ∷ codes "ab" ∷ [])
    × (map element_name_of (items ∷ plain ∷ []) ≡ codes "e" ∷ codes "member" ∷ [])
    × (key_name_of by_key ≡ codes "k") × (value_name_of by_key ≡ codes "value")
other_names = (refl, refl, refl, refl, refl)

pub declarations : map (declared_as shapes) (codes "S" ∷ codes "L" ∷ codes "P" ∷ codes "s" ∷ codes "SL" ∷ [])
    ≡ Some 0 ∷ Some 1 ∷ Some 2 ∷ None ∷ None ∷ []
declarations = refl

-- ---- views

-- a member's site, one beyond the members, and one of a list
pub member_sites : (member_site (shape_site shapes 0) 1 ≡ Some (record { table = shapes; place = scalar_place scalars.String None; view = record { name = Some (codes "ab"); index = Some 1; json_name = Some (codes "a"); xml_name = None; is_flat = true } }))
    × (member_site (shape_site shapes 0) 2 ≡ None) × (member_site (shape_site shapes 1) 0 ≡ None)
member_sites = (refl, refl, refl)

-- the elements of a list stand under the name `member`, those of a structure don't stand at all
pub element_sites : (element_site (shape_site shapes 1) ≡ Some (record { table = shapes; place = shape_place 0; view = record { name = Some (codes "member"); index = None; json_name = None; xml_name = Some (codes "e"); is_flat = false } }))
    × (element_site (shape_site shapes 0) ≡ None)
element_sites = (refl, refl)

-- a map's values stand under `value`, and its keys, which are strings, under `key`; a list has no keys
pub entry_sites : (inner_site (shape_site shapes 4) ≡ Some (record { table = shapes; place = shape_place 1; view = record { name = Some (codes "value"); index = None; json_name = None; xml_name = None; is_flat = false } }))
    × (key_site (shape_site shapes 4) ≡ Some (record { table = shapes; place = scalar_place scalars.String None; view = record { name = Some (codes "key"); index = None; json_name = None; xml_name = Some (codes "k"); is_flat = false } }))
    × (inner_site (shape_site shapes 1) ≡ element_site (shape_site shapes 1)) × (key_site (shape_site shapes 1) ≡ None)
entry_sites = (refl, refl, refl, refl)

-- a union's member is seen as a structure's is
pub variant_site : member_site (shape_site shapes 3) 0 ≡ Some (record { table = shapes; place = scalar_place scalars.String None; view = record { name = Some (codes "ab"); index = Some 0; json_name = Some (codes "a"); xml_name = None; is_flat = true } })
variant_site = refl

-- a view without a name keeps its other names and its place
pub without_name : option_map nameless_site (member_site (shape_site shapes 0) 1)
    ≡ Some (record { table = shapes; place = scalar_place scalars.String None; view = record { name = None; index = None; json_name = Some (codes "a"); xml_name = None; is_flat = false } })
without_name = refl

-- `a` is the name of the first member, and the JSON name of both: the first counts
pub sites_by_name : map (λ (name : List ℕ). member_named json_name_of (shape_site shapes 0) name) (codes "a" ∷ codes "ab" ∷ [])
    ≡ member_site (shape_site shapes 0) 0 ∷ None ∷ []
sites_by_name = refl

-- ---- scalar values of kinds

-- one before the least of each width, the least, the greatest, and one behind it
abbrev ends_of : ℕ → List ScalarValue
ends_of half = map whole (neg_ℤ (pos (half + 1)) ∷ neg_ℤ (pos half) ∷ pos (half - 1) ∷ pos half ∷ [])

pub widths : (map (is_of scalars.Byte) (ends_of (2 ^ 7)) ≡ false ∷ true ∷ true ∷ false ∷ [])
    × (map (is_of scalars.Short) (ends_of (2 ^ 15)) ≡ false ∷ true ∷ true ∷ false ∷ [])
    × (map (is_of scalars.Integer) (ends_of (2 ^ 31)) ≡ false ∷ true ∷ true ∷ false ∷ [])
    × (map (is_of scalars.Long) (ends_of (2 ^ 63)) ≡ false ∷ true ∷ true ∷ false ∷ [])
    × (map (is_of scalars.BigInteger) (ends_of (2 ^ 127)) ≡ false ∷ true ∷ true ∷ false ∷ [])
widths = (refl, refl, refl, refl, refl)

-- no kind has the values of another one
pub other_kinds : map (λ s. is_of s (whole (pos 1))) (scalars.Boolean ∷ scalars.String ∷ scalars.Blob ∷ []) ≡ false ∷ false ∷ false ∷ []
other_kinds = refl

pub other_values : map (is_of scalars.Byte) (boolean true ∷ text (codes "1") ∷ []) ≡ false ∷ false ∷ []
other_values = refl

-- a text is no bytes, and bytes are below 256
pub blobs : map (is_of scalars.Blob) (bytes [] ∷ bytes (0 ∷ 255 ∷ []) ∷ bytes (0 ∷ 256 ∷ []) ∷ text (codes "AA==") ∷ []) ≡ true ∷ true ∷ false ∷ false ∷ []
blobs = refl

-- the exponent of a decimal has no least number of 64 bits, and a decimal is no whole number
pub decimals : map (is_of scalars.BigDecimal)
    (decimal (pos (2 ^ 127 - 1)) (pos (2 ^ 63 - 1)) ∷ decimal (neg_ℤ (pos (2 ^ 127))) (neg_ℤ (pos (2 ^ 63 - 1)))
    ∷ decimal (pos (2 ^ 127)) (pos 0) ∷ decimal (pos 0) (neg_ℤ (pos (2 ^ 63))) ∷ whole (pos 1) ∷ [])
    ≡ true ∷ true ∷ false ∷ false ∷ false ∷ []
decimals = refl

-- the seconds of an instant, rounded down, are a number of 64 bits, and an instant is no whole number
pub instants : map (is_of scalars.Timestamp)
    (instant (pos (2 ^ 63 * 1_000_000_000 - 1)) ∷ instant (neg_ℤ (pos (2 ^ 63 * 1_000_000_000))) ∷ instant (neg_ℤ (pos 1))
    ∷ instant (pos (2 ^ 63 * 1_000_000_000)) ∷ instant (neg_ℤ (pos (2 ^ 63 * 1_000_000_000 + 1))) ∷ whole (pos 1) ∷ [])
    ≡ true ∷ true ∷ true ∷ false ∷ false ∷ false ∷ []
instants = refl

pub no_instants : map (λ s. is_of s (instant (pos 1))) (scalars.Long ∷ scalars.BigInteger ∷ scalars.BigDecimal ∷ scalars.String ∷ []) ≡ false ∷ false ∷ false ∷ false ∷ []
no_instants = refl

-- ---- time forms, and tests of the scalars of a value

-- each form as one of texts, and the one that counts at a place
pub forms : (map format_of (EpochSeconds ∷ DateTime ∷ HttpDate ∷ []) ≡ formats.EpochSeconds ∷ formats.DateTime ∷ formats.HttpDate ∷ [])
    × (map (form_or DateTime) (None ∷ Some HttpDate ∷ Some EpochSeconds ∷ []) ≡ DateTime ∷ HttpDate ∷ EpochSeconds ∷ [])
forms = (refl, refl)

-- of a date the year is from 0 to 9999; a date-time holds microseconds, an http-date seconds, and seconds any instant
pub written_in_forms : map (λ form. map (λ n. form_writes form (instant n)) (pos 1 ∷ pos 253_402_300_800_000_000_000 ∷ neg_ℤ (pos 62_167_219_200_000_000_001) ∷ []))
    (EpochSeconds ∷ DateTime ∷ HttpDate ∷ []) ≡ (true ∷ true ∷ true ∷ []) ∷ (true ∷ false ∷ false ∷ []) ∷ (true ∷ false ∷ false ∷ []) ∷ []
unfolding smithy_instants_on_literals
written_in_forms = refl

pub held_by_forms : map (λ form. map (λ n. form_holds form (instant n)) (pos 1_000_000_000 ∷ pos 1_000 ∷ pos 1 ∷ pos 253_402_300_800_000_000_000 ∷ []))
    (EpochSeconds ∷ DateTime ∷ HttpDate ∷ [])
    ≡ (true ∷ true ∷ true ∷ true ∷ []) ∷ (true ∷ true ∷ false ∷ false ∷ []) ∷ (true ∷ false ∷ false ∷ false ∷ []) ∷ []
unfolding smithy_instants_on_literals
held_by_forms = refl

abbrev of_place : List ℕ → Place → Member
of_place name place = record { name = name; json_name = None; xml_name = None; is_flat = false; place = place }

abbrev in_form : Option TimestampFormat → Place
in_form time = scalar_place scalars.Timestamp time

-- structure S / member e timestamp / member h timestamp time=http-date / member l L / member m M / member u U;
-- list L timestamp time=date-time; map M timestamp time=http-date; union U / member h timestamp time=http-date
abbrev timed : Table
timed =
    map (λ shape. record { name = []; shape = shape })
    (table.structure (of_place (codes "e") (in_form None) ∷ of_place (codes "h") (in_form (Some HttpDate)) ∷ of_place (codes "l") (shape_place 1) ∷ of_place (codes "m") (shape_place 2) ∷ of_place (codes "u") (shape_place 3) ∷ [])
    ∷ table.list (record { place = in_form (Some DateTime); is_sparse = true; xml_name = None })
    ∷ table.map (record { place = in_form (Some HttpDate); is_sparse = false; key_name = None; value_name = None })
    ∷ table.union (of_place (codes "h") (in_form (Some HttpDate)) ∷ []) ∷ [])

-- every instant is tested by the form of its own place: one of a nanosecond past its second stands at a place without a form alone
abbrev instant_at : ℤ → Value
instant_at n = scalar_value (instant n)

pub tested : map (λ (m : ℕ × Value). scalars_pass (record { scalar = λ time x. form_holds (form_or EpochSeconds time) x; documents = true }) (shape_site timed 0) (structure (member_value m.0 m.1 no_member_values)))
    ((0, instant_at (pos 1)) ∷ (1, instant_at (pos 1)) ∷ (1, instant_at (pos 0))
    ∷ (2, list (value (instant_at (pos 1_000)) (value null_element no_values))) ∷ (2, list (value (instant_at (pos 0)) (value (instant_at (pos 1)) no_values)))
    ∷ (3, map_value (map_entry [] (instant_at (pos 1_000)) no_map_entries)) ∷ (3, map_value (map_entry [] (instant_at (pos 0)) no_map_entries))
    ∷ (4, union 0 (instant_at (pos 1_000))) ∷ (4, union 0 (instant_at (pos 0))) ∷ [])
    ≡ true ∷ false ∷ true ∷ true ∷ false ∷ false ∷ true ∷ false ∷ true ∷ []
unfolding smithy_instants_on_literals
tested = refl

-- ---- the calls that write a value

-- a structure with its second member: its begin, the member by its own site, its end
pub events_of_structure : events (shape_site shapes 0) (structure (member_value 1 (scalar_value (text (codes "x"))) no_member_values))
    ≡ begin_structure (shape_site shapes 0) ∷ scalar_of (member_of (shape_site shapes 0) 1) (text (codes "x")) ∷ end_structure ∷ []
events_of_structure = refl

-- a list with its count, elements without a name, a null among them and a list inside
pub events_of_list : events (shape_site shapes 1) (list (value null_element (value (list no_values) no_values)))
    ≡ begin_list (shape_site shapes 1) (Some 2) ∷ null_of (element_of (shape_site shapes 1)) ∷ begin_list (element_of (shape_site shapes 1)) (Some 0) ∷ end_list ∷ end_list ∷ []
events_of_list = refl

pub site_of_elements : Some (element_of (shape_site shapes 1)) ≡ option_map nameless_site (element_site (shape_site shapes 1))
site_of_elements = refl

-- a union is a structure with one member
pub events_of_union : events (shape_site shapes 3) (union 0 (scalar_value (text (codes "x"))))
    ≡ begin_structure (shape_site shapes 3) ∷ scalar_of (member_of (shape_site shapes 3) 0) (text (codes "x")) ∷ end_structure ∷ []
events_of_union = refl

-- a map with its count: of each entry the key, and then its value without a name
pub events_of_map : events (shape_site shapes 4) (map_value (map_entry (codes "a") null_element (map_entry (codes "b") (list no_values) no_map_entries)))
    ≡ begin_map (shape_site shapes 4) (Some 2) ∷ scalar_of (key_of (shape_site shapes 4)) (text (codes "a")) ∷ null_of (value_of (shape_site shapes 4))
    ∷ scalar_of (key_of (shape_site shapes 4)) (text (codes "b")) ∷ begin_list (value_of (shape_site shapes 4)) (Some 0) ∷ end_list ∷ end_map ∷ []
events_of_map = refl

pub site_of_values : Some (value_of (shape_site shapes 4)) ≡ option_map nameless_site (inner_site (shape_site shapes 4))
site_of_values = refl

-- ---- open containers

-- the calls, and the containers that are open behind them
abbrev behind : List Event → List Open → Result (List Open) SerdeError
behind = run open_after

abbrev at : Site
at = shape_site shapes 4

abbrev key : Event
key = scalar_of at (text (codes "k"))

abbrev number : Event
number = scalar_of at (whole (pos 1))

-- in a map a key and its value come in turn, and a text is both
pub in_turn : map (λ calls. behind calls []) ((begin_map at None ∷ []) ∷ (begin_map at None ∷ key ∷ []) ∷ (begin_map at None ∷ key ∷ key ∷ []) ∷ (begin_map at None ∷ key ∷ begin_list at None ∷ []) ∷ (begin_map at None ∷ key ∷ null_of at ∷ end_map ∷ []) ∷ [])
    ≡ Ok (open_map_at_key ∷ []) ∷ Ok (open_map_at_value ∷ []) ∷ Ok (open_map_at_key ∷ []) ∷ Ok (open_list ∷ open_map_at_key ∷ []) ∷ Ok [] ∷ []
in_turn = refl

-- in a key's place nothing else comes
pub no_key : map (λ call. behind (call ∷ []) (open_map_at_key ∷ [])) (number ∷ null_of at ∷ begin_list at None ∷ begin_map at None ∷ begin_structure at ∷ end_list ∷ end_structure ∷ [])
    ≡ Err Unwritable ∷ Err Unwritable ∷ Err Unwritable ∷ Err Unwritable ∷ Err Unwritable ∷ Err Unwritable ∷ Err Unwritable ∷ []
no_key = refl

-- behind a key the map doesn't end, and no other container ends by its call
pub no_end : (map (behind (end_map ∷ [])) ((open_map_at_value ∷ []) ∷ (open_list ∷ open_map_at_key ∷ []) ∷ (open_structure ∷ []) ∷ [] ∷ []) ≡ Err Unwritable ∷ Err Unwritable ∷ Err Unwritable ∷ Err Unwritable ∷ [])
    × (map (behind (end_list ∷ [])) ((open_map_at_value ∷ []) ∷ (open_structure ∷ open_list ∷ []) ∷ [] ∷ []) ≡ Err Unwritable ∷ Err Unwritable ∷ Err Unwritable ∷ [])
    × (map (behind (end_structure ∷ [])) ((open_map_at_value ∷ []) ∷ (open_list ∷ open_structure ∷ []) ∷ [] ∷ []) ≡ Err Unwritable ∷ Err Unwritable ∷ Err Unwritable ∷ [])
no_end = (refl, refl, refl)
