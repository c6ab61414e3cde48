-- The values that hold a null element, which no form can express.
use Rattle.std.specs.Prelude.{Bool, true, false, ◌||◌}
use Rattle.smithy_declarations.specs.Value.{Value, scalar_value, list, map, structure, union, null_element, document_value, Values, no_values, value, MapEntries, no_map_entries, map_entry, MemberValues, no_member_values, member_value}

-- a null element stands in the value
abbrev mutual
  pub holds_null : Value → Bool
  holds_null (scalar_value x) = false
  holds_null (list vs) = elements_hold_null vs
  holds_null (map es) = entries_hold_null es
  holds_null (structure ms) = members_hold_null ms
  holds_null (union n v) = holds_null v
  holds_null null_element = true
  holds_null (document_value d) = false

  pub elements_hold_null : Values → Bool
  elements_hold_null no_values = false
  elements_hold_null (value v vs) = holds_null v || elements_hold_null vs

  pub entries_hold_null : MapEntries → Bool
  entries_hold_null no_map_entries = false
  entries_hold_null (map_entry key v es) = holds_null v || entries_hold_null es

  pub members_hold_null : MemberValues → Bool
  members_hold_null no_member_values = false
  members_hold_null (member_value n v ms) = holds_null v || members_hold_null ms
