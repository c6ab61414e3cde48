-- The values that a form represents in full: each part of them writes a pair.
use Rattle.std.specs.Prelude.{◌≡◌, ◌≢◌, ◌≤◌, ℕ, [], true, false}
use Rattle.smithy_declarations.specs.Value.{Value, scalar_value, list, map, structure, union, null_element, document_value, Values, no_values, value, MapEntries, no_map_entries, map_entry, MemberValues, no_member_values, member_value, nesting}
use Rattle.smithy_shapes.specs.Fits.{Fits}
use Rattle.smithy_shapes.specs.Site.{Site, element_of, value_of, member_of}
use Rattle.smithy_shapes.specs.ScalarTest.{scalars_pass}
use Rattle.smithy_query_codec.specs.Leaves.{neither, role_of, leaves}
use Rattle.smithy_query_codec.specs.Nulls.{holds_null}
use Rattle.smithy_query_codec.specs.Writable.{query_holds}
use Rattle.smithy_query_codec.specs.Counts.{HasPositions}

-- the value of a map isn't empty
abbrev pub HasEntry : MapEntries → Type 0
HasEntry no_map_entries = ⊥
HasEntry (map_entry key v es) = Unit {0}

-- Each member's value, each element and each map's value in it writes a leaf of its own, and no map in it is empty.
abbrev mutual
  pub TellsParts : Site → Value → Type 0
  TellsParts site (scalar_value x) = Unit {0}
  TellsParts site (list vs) = ElementsTold (element_of site) vs
  TellsParts site (map es) = HasEntry es × EntriesTold (value_of site) es
  TellsParts site (structure ms) = MembersTold site ms
  TellsParts site (union n v) =
      (leaves (member_of site n) (role_of (member_of site n).view) v ≢ []) × TellsParts (member_of site n) v
  TellsParts site null_element = Unit {0}
  TellsParts site (document_value d) = Unit {0}

  pub ElementsTold : Site → Values → Type 0
  ElementsTold site no_values = Unit {0}
  ElementsTold site (value v vs) = (leaves site neither v ≢ []) × TellsParts site v × ElementsTold site vs

  pub EntriesTold : Site → MapEntries → Type 0
  EntriesTold site no_map_entries = Unit {0}
  EntriesTold site (map_entry key v es) = (leaves site neither v ≢ []) × TellsParts site v × EntriesTold site es

  pub MembersTold : Site → MemberValues → Type 0
  MembersTold site no_member_values = Unit {0}
  MembersTold site (member_value n v ms) =
      (leaves (member_of site n) (role_of (member_of site n).view) v ≢ []) × TellsParts (member_of site n) v
      × MembersTold site ms

-- The value fits the site, a form can represent it, at most `depth` containers are nested, and each part writes a pair.
pub record IsPlain (site : Site) (depth : ℕ) (v : Value) : Type 0 where
  pub fits : Fits site.table site.place v
  pub no_null : holds_null v ≡ false
  pub holds : scalars_pass query_holds site v ≡ true
  pub counts : HasPositions v
  pub nests : nesting v ≤ depth
  pub tells : TellsParts site v
