-- What holds of each table that was accepted.
use Rattle.std.specs.Prelude.{◌≡◌, ◌≤◌, ℕ, List, map, length, true, false, Option, Some, bytes_eq, IsUtf8}
use Rattle.std.specs.List.{AllByRecursion, list_all, list_any}
use Rattle.smithy_declarations.specs.declared.place.Place.{Place}
use Rattle.smithy_declarations.specs.Table.{Table, Declaration, Member, ListShape, MapShape, kind_of, place_in, IsDocument, IsSparse, members_of, list_shape_of, map_shape_of, json_name_of, query_name_of, element_name_of, key_name_of, value_name_of, IsClosed}
use Rattle.smithy_declarations.specs.Names.{has_equal_texts, is_query_name, is_reserved}

-- the members of a structure or a union: no two have one name, one JSON name or one name in a form
pub record AreAcceptedMembers (members : List Member) : Type 0 where
  pub are_few : length members ≤ 65535
  pub names_differ : has_equal_texts (map (λ (m : Member). m.name) members) ≡ false
  pub json_names_differ : has_equal_texts (map json_name_of members) ≡ false
  pub query_names_differ : has_equal_texts (map query_name_of members) ≡ false
  pub query_names_fit : list_all is_query_name (map query_name_of members) ≡ true

-- the name and the JSON name of each are in UTF-8
abbrev pub HaveTextNames : List Member → Type 0
HaveTextNames members = AllByRecursion (λ (m : Member). IsUtf8 m.name × IsUtf8 (json_name_of m)) members

-- the names of a map's keys and values in a form: they differ
pub record AreAcceptedNames (m : MapShape) : Type 0 where
  pub key_name_fits : is_query_name (key_name_of m) ≡ true
  pub value_name_fits : is_query_name (value_name_of m) ≡ true
  pub names_differ : bytes_eq (key_name_of m) (value_name_of m) ≡ false

-- the whole table
pub record IsAccepted (table : Table) : Type 0 where
  pub is_closed : IsClosed table
  pub are_few : length table ≤ 65535
  pub names_differ : has_equal_texts (map (λ (d : Declaration). d.name) table) ≡ false
  pub names_are_free : list_any is_reserved (map (λ (d : Declaration). d.name) table) ≡ false
  pub names_are_texts : (at : Place) → HaveTextNames (members_of (kind_of table at))
  pub members_are_accepted : (at : Place) → AreAcceptedMembers (members_of (kind_of table at))
  pub element_names_fit : (at : Place) (l : ListShape) → list_shape_of (kind_of table at) ≡ Some l
      → is_query_name (element_name_of l) ≡ true
  pub entry_names_are_accepted : (at : Place) (m : MapShape) → map_shape_of (kind_of table at) ≡ Some m
      → AreAcceptedNames m
  pub sparse_without_documents : (at inner : Place) (n : Option ℕ) → IsSparse (kind_of table at)
      → place_in (kind_of table at) n ≡ Some inner → IsDocument (kind_of table inner) → ⊥
