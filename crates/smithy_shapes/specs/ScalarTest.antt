-- Whether each scalar of a value passes a test, by the time form of its place, and whether documents may stand in it.
use Rattle.std.specs.Prelude.{◌&&◌, Bool, true, false, Option}
use Rattle.smithy_declarations.specs.declared.shape_type.TimestampFormat.{TimestampFormat}
use Rattle.smithy_shapes.specs.Site.{Site, element_of, value_of, member_of}
use Rattle.smithy_declarations.specs.Value.{ScalarValue, Value, scalar_value, list, map, structure, union, null_element, document_value, Values, no_values, value, MapEntries, no_map_entries, map_entry, MemberValues, no_member_values, member_value}

-- a test of a scalar by the time form of its place, and whether documents pass it
pub record ValueTest : Type 0 where
  pub scalar : Option TimestampFormat → ScalarValue → Bool
  pub documents : Bool

-- the test that no document stands in a value
abbrev pub no_documents : ValueTest
no_documents = record { scalar = λ time x. true; documents = false }

abbrev mutual
  -- each scalar of the value at a site passes the test, and so do its documents; keys are texts and aren't tested
  pub scalars_pass : ValueTest → Site → Value → Bool
  scalars_pass test site (scalar_value x) = test.scalar site.place.time x
  scalars_pass test site (list vs) = elements_pass test (element_of site) vs
  scalars_pass test site (map es) = entries_pass test (value_of site) es
  scalars_pass test site (structure ms) = members_pass test site ms
  scalars_pass test site (union n v) = scalars_pass test (member_of site n) v
  scalars_pass test site null_element = true
  scalars_pass test site (document_value d) = test.documents

  -- the scalars and documents of the elements of a list pass, each element at the same site
  pub elements_pass : ValueTest → Site → Values → Bool
  elements_pass test site no_values = true
  elements_pass test site (value v vs) = scalars_pass test site v && elements_pass test site vs

  -- the scalars and documents of the values of a map pass, each value at the same site
  pub entries_pass : ValueTest → Site → MapEntries → Bool
  entries_pass test site no_map_entries = true
  entries_pass test site (map_entry key v es) = scalars_pass test site v && entries_pass test site es

  -- the members of a structure at this site
  pub members_pass : ValueTest → Site → MemberValues → Bool
  members_pass test site no_member_values = true
  members_pass test site (member_value n v ms) = scalars_pass test (member_of site n) v && members_pass test site ms
