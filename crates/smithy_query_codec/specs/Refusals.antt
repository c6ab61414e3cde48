-- Why a value can't be written to a form: by the first of its parts that can't be, in the order in which they are written.
use Rattle.std.specs.Prelude.{Option, Some, None, if◌then◌else◌}
use Rattle.std.specs.Option.{option_or}
use Rattle.smithy_schema.specs.declared.error.SerdeError.{SerdeError}
use Rattle.smithy_schema.specs.declared.error.SerdeError.TheVariants.{Unsupported, Unwritable}
use Rattle.smithy_shapes.specs.Site.{Site, element_of, value_of, member_of}
use Rattle.smithy_declarations.specs.Value.{Value, scalar_value, list, map, structure, union, null_element, document_value, Values, no_values, value, MapEntries, no_map_entries, map_entry, MemberValues, no_member_values, member_value}
use Rattle.smithy_query_codec.specs.Writable.{can_write}

abbrev mutual
  -- why the value at a site can't be written: none where it can
  pub refusal_of : Site → Value → Option SerdeError
  refusal_of site (scalar_value x) = if can_write.scalar site.place.time x then None else Some Unwritable
  refusal_of site (list vs) = elements_refusal (element_of site) vs
  refusal_of site (map es) = entries_refusal (value_of site) es
  refusal_of site (structure ms) = members_refusal site ms
  refusal_of site (union n v) = refusal_of (member_of site n) v
  refusal_of site null_element = Some Unwritable
  refusal_of site (document_value d) = Some Unsupported

  -- why the elements of a list can't be written, by the first that can't, each at the same site: none where all can
  pub elements_refusal : Site → Values → Option SerdeError
  elements_refusal site no_values = None
  elements_refusal site (value v vs) = option_or (refusal_of site v) (elements_refusal site vs)

  -- why the values of a map can't be written, by the first that can't, each at the same site: none where all can
  pub entries_refusal : Site → MapEntries → Option SerdeError
  entries_refusal site no_map_entries = None
  entries_refusal site (map_entry key v es) = option_or (refusal_of site v) (entries_refusal site es)

  -- why the members of a structure at this site can't be written, by the first that can't: none where all can
  pub members_refusal : Site → MemberValues → Option SerdeError
  members_refusal site no_member_values = None
  members_refusal site (member_value n v ms) = option_or (refusal_of (member_of site n) v) (members_refusal site ms)
