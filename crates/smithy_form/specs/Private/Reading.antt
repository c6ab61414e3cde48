-- What reading the leaves of a place says.
use Rattle.std.specs.Prelude.{◌≤◌, ◌+◌, ℕ, List, Bool, true, Option, Some, None}
use Rattle.std.specs.Ordering.{nat_cmp, is_lt}
use Rattle.std.specs.Cmp.Lexicographic.{slice_cmp}
use Rattle.smithy_declarations.specs.Value.{Value, nesting, elements_nesting, entries_nesting, Values, no_values, value, MemberValues, no_member_values, member_value, MapEntries, no_map_entries, map_entry}
use Rattle.smithy_schema.specs.Writing.{count_of, entry_count}
use Rattle.smithy_shapes.specs.Fits.{KeysAscend}
use Rattle.smithy_shapes.specs.Site.{Site}
use Rattle.smithy_query_codec.specs.Leaves.{Leaf, role_of, numbered, leaves, element_leaves, entry_leaves}
use Rattle.smithy_form.specs.Lookup.{AreSame}
use Rattle.smithy_form.specs.Private.Whole.{IsWhole, WholeElements, WholeEntries}

-- the leaves are those of a value of the site in which at most this many containers are nested
pub record TellHere (site : Site) (left : ℕ) (ls : List Leaf) (v : Value) : Type 0 where
  pub whole : IsWhole site v
  pub nests : nesting v ≤ left
  pub same : AreSame ls (leaves site (role_of site.view) v)

-- the leaves are those of no value
abbrev pub TellNothing : Site → ℕ → List Leaf → Type 0
TellNothing site left ls = (v : Value) → TellHere site left ls v → ⊥

-- elements before others
abbrev pub followed_by : Values → Values → Values
followed_by no_values ws = ws
followed_by (value v vs) ws = value v (followed_by vs ws)

-- members before others
abbrev pub before_members : MemberValues → MemberValues → MemberValues
before_members no_member_values us = us
before_members (member_value n v ms) us = member_value n v (before_members ms us)

-- and one after them
abbrev pub and_member : MemberValues → ℕ → Value → MemberValues
and_member ms n v = before_members ms (member_value n v no_member_values)

-- entries before others
abbrev pub before_entries : MapEntries → MapEntries → MapEntries
before_entries no_map_entries us = us
before_entries (map_entry key v es) us = map_entry key v (before_entries es us)

-- and one after them
abbrev pub and_entry : MapEntries → List ℕ → Value → MapEntries
and_entry es key v = before_entries es (map_entry key v no_map_entries)

-- positions are below this
abbrev pub limit : ℕ
limit = 18446744073709551616

-- elements that have these leaves
pub record AreElements (site : Site) (left : ℕ) (ls : List Leaf) (ws : Values) : Type 0 where
  pub whole : WholeElements site ws
  pub few : 1 + count_of ws ≤ limit
  pub nests : elements_nesting ws ≤ left
  pub same : AreSame ls (numbered 1 (element_leaves site ws))

-- entries that have these leaves
pub record AreEntries (keys vals : List ℕ) (site : Site) (left : ℕ) (ls : List Leaf) (ws : MapEntries) : Type 0 where
  pub whole : WholeEntries site ws
  pub few : 1 + entry_count ws ≤ limit
  pub nests : entries_nesting ws ≤ left
  pub ascend : KeysAscend ws
  pub same : AreSame ls (numbered 1 (entry_leaves keys vals site ws))

-- the last key of the entries, or this one where there are none
abbrev pub last_key : Option (List ℕ) → MapEntries → Option (List ℕ)
last_key before no_map_entries = before
last_key before (map_entry key v es) = last_key (Some key) es

-- a key may come after the last one
abbrev pub comes_after : Option (List ℕ) → List ℕ → Bool
comes_after None key = true
comes_after (Some before) key = is_lt (slice_cmp nat_cmp before key)
