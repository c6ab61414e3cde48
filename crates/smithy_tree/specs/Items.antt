-- Values with their labels, one behind another, and the containers that they make.
use Rattle.std.specs.Prelude.{ℕ, ℤ, List, [], ◌∷◌, map as mapped}
use Rattle.smithy_declarations.specs.Value.{Value, scalar_value, whole, null_element, Values, no_values, value, MapEntries, no_map_entries, map_entry, put_entry, MemberValues, no_member_values, member_value, put_member}

-- a value with its label, which is a position or a key
pub record Item : Type 0 where
  pub position : ℕ
  pub key : List ℕ
  pub shown : Value

-- what stands at no place
abbrev pub nothing : Item
nothing = record { position = 0; key = []; shown = null_element }

-- the elements that they are, in order
abbrev pub elements_of : List Item → Values
elements_of [] = no_values
elements_of (x ∷ xs) = value x.shown (elements_of xs)

-- their values alone, in order
abbrev pub shown_of : List Item → List Value
shown_of [] = []
shown_of (x ∷ xs) = x.shown ∷ shown_of xs

-- whole numbers as values
abbrev pub whole_value : ℤ → Value
whole_value n = scalar_value (whole n)

abbrev pub whole_values : List ℤ → List Value
whole_values ns = mapped whole_value ns

-- the members that they are, as they stand
abbrev pub members_of : List Item → MemberValues
members_of [] = no_member_values
members_of (x ∷ xs) = member_value x.position x.shown (members_of xs)

-- the entries that they are, as they stand
abbrev pub entries_of : List Item → MapEntries
entries_of [] = no_map_entries
entries_of (x ∷ xs) = map_entry x.key x.shown (entries_of xs)

-- members that are put one after another, so that the last of a position counts
abbrev pub put_members : MemberValues → List Item → MemberValues
put_members ms [] = ms
put_members ms (x ∷ xs) = put_members (put_member x.position x.shown ms) xs

-- entries that are put one after another, so that the last of a key counts
abbrev pub put_entries : MapEntries → List Item → MapEntries
put_entries es [] = es
put_entries es (x ∷ xs) = put_entries (put_entry x.key x.shown es) xs
