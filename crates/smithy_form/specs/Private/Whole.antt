-- What a value that a form represents in full is at its site, without a look at the table.
use Rattle.std.specs.Prelude.{◌≡◌, ◌≢◌, ◌<◌, ℕ, List, [], true, Some, slice_get, IsUtf8}
use Rattle.smithy_declarations.specs.Table.{Member, members_of, IsStructure, IsUnion, IsList, IsMap}
use Rattle.smithy_declarations.specs.TimeForms.{form_holds}
use Rattle.smithy_declarations.specs.Value.{Value, scalar_value, list, map, structure, union, null_element, document_value, Values, no_values, value, MapEntries, no_map_entries, map_entry, MemberValues, no_member_values, member_value}
use Rattle.smithy_shapes.specs.Fits.{is_scalar_of, AscendFrom, KeysAscend}
use Rattle.smithy_shapes.specs.Site.{Site, kind_at, element_of, value_of, member_of}
use Rattle.smithy_schema.specs.Writing.{count_of, entry_count}
use Rattle.smithy_query_codec.specs.Leaves.{neither, query_name, role_of, key_name, value_name, form_at, leaves}
use Rattle.smithy_form.specs.Plain.{HasEntry}

-- a member is at the position, and this is its name in a form
pub record IsNamed (site : Site) (n : ℕ) (name : List ℕ) : Type 0 where
  pub member : Member
  pub found : slice_get (members_of (kind_at site)) n ≡ Some member
  pub is : query_name (member_of site n).view ≡ Some name

-- no two members have one name
abbrev pub AreNamesApart : Site → Type 0
AreNamesApart site = (n k : ℕ) (name : List ℕ) → IsNamed site n name → IsNamed site k name → n ≡ k

-- the member has a name, and its value has leaves
abbrev pub WholeMember : Site → ℕ → Value → Type 0
WholeMember site n v =
    (name : List ℕ) × IsNamed site n name × (leaves (member_of site n) (role_of (member_of site n).view) v ≢ [])

-- The value is one of the site that a form can represent, and each part of it writes a pair.
abbrev mutual
  pub IsWhole : Site → Value → Type 0
  IsWhole site (scalar_value x) = (is_scalar_of (kind_at site) x ≡ true) × (form_holds (form_at site) x ≡ true)
  IsWhole site (list vs) = IsList (kind_at site) × (count_of vs < 18446744073709551616) × WholeElements (element_of site) vs
  IsWhole site (map es) =
      IsMap (kind_at site) × (key_name site ≢ value_name site) × HasEntry es × KeysAscend es
      × (entry_count es < 18446744073709551616) × WholeEntries (value_of site) es
  IsWhole site (structure ms) =
      IsStructure (kind_at site) × AreNamesApart site × AscendFrom 0 ms × WholeMembers site ms
  IsWhole site (union n v) = IsUnion (kind_at site) × AreNamesApart site × WholeMember site n v × IsWhole (member_of site n) v
  IsWhole site null_element = ⊥
  IsWhole site (document_value d) = ⊥

  pub WholeElements : Site → Values → Type 0
  WholeElements site no_values = Unit {0}
  WholeElements site (value v vs) = (leaves site neither v ≢ []) × IsWhole site v × WholeElements site vs

  pub WholeEntries : Site → MapEntries → Type 0
  WholeEntries site no_map_entries = Unit {0}
  WholeEntries site (map_entry key v es) =
      IsUtf8 key × (leaves site neither v ≢ []) × IsWhole site v × WholeEntries site es

  pub WholeMembers : Site → MemberValues → Type 0
  WholeMembers site no_member_values = Unit {0}
  WholeMembers site (member_value n v ms) = WholeMember site n v × IsWhole (member_of site n) v × WholeMembers site ms
