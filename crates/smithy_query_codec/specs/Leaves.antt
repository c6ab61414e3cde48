-- The leaves of a value in a form: where each text stands, and the text.
use Rattle.std.specs.Prelude.{ℕ, suc, List, [], ◌∷◌, ◌++◌, map as mapped, true, false, Option, option_map, option_to_list, unwrap_or, if◌then◌else◌, codes, decimal}
use Rattle.std.specs.Option.{option_map_or}
use Rattle.std.specs.Fmt.{signed_decimal}
use Rattle.smithy_texts.specs.Base64Text.{blob_text}
use Rattle.smithy_texts.specs.Decimal.{decimal_text}
use Rattle.smithy_instants.specs.WrittenDate.{date_text}
use Rattle.smithy_declarations.specs.declared.shape_type.TimestampFormat.{TimestampFormat}
use Rattle.smithy_declarations.specs.declared.shape_type.TimestampFormat.TheVariants.{DateTime}
use Rattle.smithy_declarations.specs.TimeForms.{format_of, form_or}
use Rattle.smithy_declarations.specs.Table.{list_shape_of, map_shape_of, element_name_of, key_name_of, value_name_of}
use Rattle.smithy_shapes.specs.Site.{Site, View, kind_at, element_of, value_of, member_of}
use Rattle.smithy_declarations.specs.Value.{ScalarValue, boolean, whole, text, bytes, decimal as decimal_value, instant, Value, scalar_value, list, map, structure, union, Values, no_values, value, MapEntries, no_map_entries, map_entry, MemberValues, no_member_values, member_value}

-- segments, outermost first
abbrev pub Path : Type 0
Path = List (List ℕ)

-- a text, and where it stands
pub record Leaf : Type 0 where
  pub path : Path
  pub text : List ℕ

-- the leaves, each under these segments
abbrev pub under : Path → List Leaf → List Leaf
under path leaves = mapped (λ (l : Leaf). record l { path = path ++ l.path }) leaves

-- one text, at the value itself
abbrev pub leaf : List ℕ → Leaf
leaf t = record { path = []; text = t }

-- the leaves of each part under its number
abbrev pub numbered : ℕ → List (List Leaf) → List Leaf
numbered i [] = []
numbered i (leaves ∷ parts) = under (decimal i ∷ []) leaves ++ numbered (suc i) parts

-- whose value it is: a flat member's, another member's, or neither
pub data MemberRole : Type 0 where
  flat_member member neither : MemberRole

-- the name of a member in a form: the one that is given, else its own
abbrev pub query_name : View → Option (List ℕ)
query_name view = option_map (λ name. unwrap_or view.xml_name name) view.name

abbrev pub role_of : View → MemberRole
role_of view = option_map_or (λ name. if view.is_flat then flat_member else member) (query_name view) neither

-- the name of a list's elements in a form
abbrev pub element_name : Site → List ℕ
element_name site = option_map_or element_name_of (list_shape_of (kind_at site)) (codes "member")

-- the names of a map's keys and of its values in a form
abbrev pub key_name : Site → List ℕ
key_name site = option_map_or key_name_of (map_shape_of (kind_at site)) (codes "key")

abbrev pub value_name : Site → List ℕ
value_name site = option_map_or value_name_of (map_shape_of (kind_at site)) (codes "value")

-- what stands between a list or a map and the numbers of its parts: nothing where it is a flat member's value
abbrev pub inner_path : MemberRole → List ℕ → Path
inner_path flat_member name = []
inner_path _ name = name ∷ []

-- a list that is a member's value has a leaf without a text where it would have none
abbrev pub or_empty : MemberRole → List Leaf → List Leaf
or_empty neither leaves = leaves
or_empty _ [] = leaf [] ∷ []
or_empty _ (l ∷ leaves) = l ∷ leaves

-- the text of a scalar, before it is percent-encoded, where instants have this form
abbrev pub scalar_text : TimestampFormat → ScalarValue → List ℕ
scalar_text form (boolean true) = codes "true"
scalar_text form (boolean false) = codes "false"
scalar_text form (whole n) = signed_decimal n
scalar_text form (text s) = s
scalar_text form (bytes b) = blob_text b
scalar_text form (decimal_value m e) = decimal_text m e
-- where the form can't write the instant, its text counts as empty
scalar_text form (instant n) = unwrap_or (date_text (format_of form) n) []

-- the form of instants at a site: a date-time where it has none
abbrev pub form_at : Site → TimestampFormat
form_at site = form_or DateTime site.place.time

-- the leaves of an entry: its key, and the leaves of its value
abbrev pub entry_part : List ℕ → List ℕ → List ℕ → List Leaf → List Leaf
entry_part key_name value_name key leaves =
    record { path = key_name ∷ []; text = key } ∷ under (value_name ∷ []) leaves

-- Members stand in the table's order, elements in theirs and the entries of a map in that of its keys' bytes, and parts are
-- counted from 1. A union is a structure of its one member. Paths begin at the value.
abbrev mutual
  pub leaves : Site → MemberRole → Value → List Leaf
  leaves site stand (scalar_value x) = leaf (scalar_text (form_at site) x) ∷ []
  leaves site stand (list vs) =
      or_empty stand (under (inner_path stand (element_name site)) (numbered 1 (element_leaves (element_of site) vs)))
  leaves site stand (map es) =
      under (inner_path stand (codes "entry")) (numbered 1 (entry_leaves (key_name site) (value_name site) (value_of site) es))
  leaves site stand (structure ms) = member_leaves site ms
  leaves site stand (union n v) =
      under (option_to_list (query_name (member_of site n).view))
      (leaves (member_of site n) (role_of (member_of site n).view) v)
  -- a form has neither nulls nor documents
  leaves site stand _ = []

  -- the leaves of each element of a list
  pub element_leaves : Site → Values → List (List Leaf)
  element_leaves site no_values = []
  element_leaves site (value v vs) = leaves site neither v ∷ element_leaves site vs

  -- the leaves of each entry of a map
  pub entry_leaves : List ℕ → List ℕ → Site → MapEntries → List (List Leaf)
  entry_leaves key_name value_name site no_map_entries = []
  entry_leaves key_name value_name site (map_entry key v es) =
      entry_part key_name value_name key (leaves site neither v) ∷ entry_leaves key_name value_name site es

  -- the leaves of the members of a structure, each under its name
  pub member_leaves : Site → MemberValues → List Leaf
  member_leaves site no_member_values = []
  member_leaves site (member_value n v ms) =
      under (option_to_list (query_name (member_of site n).view))
      (leaves (member_of site n) (role_of (member_of site n).view) v)
      ++ member_leaves site ms
