-- Which values have leaves with paths of their own: the names of their members, elements, keys and values can stand in a path,
-- the names in one structure and in one map differ, and each element and entry has a position.
use Rattle.std.specs.Prelude.{◌≡◌, ◌≢◌, ◌<◌, ℕ, List, [], ◌++◌, Some, true, option_to_list}
use Rattle.std.specs.List.{AllByRecursion}
use Rattle.smithy_declarations.specs.Names.{is_query_name}
use Rattle.smithy_shapes.specs.Site.{Site, element_of, value_of, member_of}
use Rattle.smithy_declarations.specs.Value.{Value, scalar_value, list, map, structure, union, null_element, document_value, Values, no_values, value, MapEntries, no_map_entries, map_entry, MemberValues, no_member_values, member_value}
use Rattle.smithy_schema.specs.Writing.{count_of, entry_count}
use Rattle.smithy_query_codec.specs.Leaves.{query_name, element_name, key_name, value_name}

-- the names of the members that are present
abbrev pub names_of : Site → MemberValues → List (List ℕ)
names_of site no_member_values = []
names_of site (member_value n v ms) = option_to_list (query_name (member_of site n).view) ++ names_of site ms

-- the member has a name that can stand in a path, and that is none of these
abbrev pub HasOwnName : Site → List (List ℕ) → Type 0
HasOwnName site others =
    (name : List ℕ) × (query_name site.view ≡ Some name) × (is_query_name name ≡ true)
    × AllByRecursion (λ other. name ≢ other) others

-- so have the keys and the values of the map
pub record HasEntryNames (site : Site) : Type 0 where
  pub key_fits : is_query_name (key_name site) ≡ true
  pub value_fits : is_query_name (value_name site) ≡ true
  pub differ : key_name site ≢ value_name site

-- a null is the value of no member
abbrev pub IsNoNull : Value → Type 0
IsNoNull null_element = ⊥
IsNoNull _ = Unit {0}

abbrev mutual
  pub HasForm : Site → Value → Type 0
  HasForm site (scalar_value x) = Unit {0}
  HasForm site (list vs) =
      (is_query_name (element_name site) ≡ true) × (count_of vs < 18446744073709551616)
      × ElementsHaveForm (element_of site) vs
  HasForm site (map es) =
      HasEntryNames site × (entry_count es < 18446744073709551616) × EntriesHaveForm (value_of site) es
  HasForm site (structure ms) = MembersHaveForm site ms
  HasForm site (union n v) = HasOwnName (member_of site n) [] × IsNoNull v × HasForm (member_of site n) v
  HasForm site null_element = Unit {0}
  HasForm site (document_value d) = Unit {0}

  pub ElementsHaveForm : Site → Values → Type 0
  ElementsHaveForm site no_values = Unit {0}
  ElementsHaveForm site (value v vs) = HasForm site v × ElementsHaveForm site vs

  pub EntriesHaveForm : Site → MapEntries → Type 0
  EntriesHaveForm site no_map_entries = Unit {0}
  EntriesHaveForm site (map_entry key v es) = HasForm site v × EntriesHaveForm site es

  pub MembersHaveForm : Site → MemberValues → Type 0
  MembersHaveForm site no_member_values = Unit {0}
  MembersHaveForm site (member_value n v ms) =
      HasOwnName (member_of site n) (names_of site ms) × IsNoNull v × HasForm (member_of site n) v
      × MembersHaveForm site ms
