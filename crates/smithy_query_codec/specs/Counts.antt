-- That each part of a value has a position.
use Rattle.std.specs.Prelude.{◌<◌}
use Rattle.smithy_declarations.specs.Value.{Value, scalar_value, list, map, structure, union, null_element, document_value, Values, no_values, value, MapEntries, no_map_entries, map_entry, MemberValues, no_member_values, member_value}
use Rattle.smithy_schema.specs.Writing.{count_of, entry_count}

-- each list and map in the value has fewer than 2^64 parts
abbrev mutual
  pub HasPositions : Value → Type 0
  HasPositions (scalar_value x) = Unit {0}
  HasPositions (list vs) = (count_of vs < 18446744073709551616) × ElementsHavePositions vs
  HasPositions (map es) = (entry_count es < 18446744073709551616) × EntriesHavePositions es
  HasPositions (structure ms) = MembersHavePositions ms
  HasPositions (union n v) = HasPositions v
  HasPositions null_element = Unit {0}
  HasPositions (document_value d) = Unit {0}

  pub ElementsHavePositions : Values → Type 0
  ElementsHavePositions no_values = Unit {0}
  ElementsHavePositions (value v vs) = HasPositions v × ElementsHavePositions vs

  pub EntriesHavePositions : MapEntries → Type 0
  EntriesHavePositions no_map_entries = Unit {0}
  EntriesHavePositions (map_entry key v es) = HasPositions v × EntriesHavePositions es

  pub MembersHavePositions : MemberValues → Type 0
  MembersHavePositions no_member_values = Unit {0}
  MembersHavePositions (member_value n v ms) = HasPositions v × MembersHavePositions ms
