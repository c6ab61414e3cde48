-- The encoding in which a value is written, one with the lengths of lists and maps, and one without.
use Rattle.std.specs.Prelude.{ℕ, ◌==◌, List, [], ◌++◌, Bool, true, false, Option, None}
use Rattle.std.specs.Option.{option_map_or}
use Rattle.smithy_instants.specs.Instant.{seconds_of, subsecond_of}
use Rattle.smithy_declarations.specs.declared.shape_type.TimestampFormat.{TimestampFormat}
use Rattle.smithy_shapes.specs.ScalarTest.{ValueTest}
use Rattle.smithy_shapes.specs.Site.{Site, View, element_of, value_of, member_of}
use Rattle.smithy_declarations.specs.Value.{ScalarValue, boolean, whole, text, bytes, decimal, instant, Value, scalar_value, list, map, structure, union, null_element, document_value, Values, no_values, value, MapEntries, no_map_entries, map_entry, MemberValues, no_member_values, member_value}
use Rattle.smithy_schema.specs.Writing.{count_of, entry_count}
use Rattle.cbor_item.specs.Head.{shortest_head}
use Rattle.smithy_cbor.specs.Scalar.{null_value}
use Rattle.smithy_cbor.specs.Written.{big_integer_bytes, decimal_fraction_bytes, epoch_seconds_bytes, boolean_bytes, text_bytes, byte_string_bytes}
use Rattle.smithy_cbor_body.specs.Lengths.{told_length, container_bytes}

abbrev pub scalar_bytes : ScalarValue → List ℕ
scalar_bytes (boolean b) = boolean_bytes b
scalar_bytes (whole n) = big_integer_bytes n
scalar_bytes (decimal m e) = decimal_fraction_bytes e m
scalar_bytes (text s) = text_bytes s
scalar_bytes (bytes b) = byte_string_bytes b
scalar_bytes (instant n) = epoch_seconds_bytes (seconds_of n)

-- what is written for a scalar stands for exactly it: an instant is one of whole seconds, and no other is written
abbrev pub is_held : Option TimestampFormat → ScalarValue → Bool
is_held time (instant n) = subsecond_of n == 0
is_held time _ = true

-- no document is written
abbrev pub cbor_holds : ValueTest
cbor_holds = record { scalar = is_held; documents = false }

-- what stands before the value of a member: its name, where it has one
abbrev pub key_bytes : View → List ℕ
key_bytes view = option_map_or text_bytes view.name []

-- Members in the table's order, elements in theirs and the entries of a map in that of its keys' bytes. Lists and maps have their
-- number of elements or entries in the head where lengths are definite. Structures and unions, of which a union is a map of its one
-- member, are of indefinite length. There is no encoding of a document.
abbrev mutual
  pub canonical_cbor : Bool → Site → Value → List ℕ
  canonical_cbor definite_lengths site (scalar_value x) = scalar_bytes x
  canonical_cbor definite_lengths site (list vs) =
      container_bytes 4 (told_length definite_lengths (count_of vs)) (element_bytes definite_lengths (element_of site) vs)
  canonical_cbor definite_lengths site (map es) =
      container_bytes 5 (told_length definite_lengths (entry_count es)) (entry_bytes definite_lengths (value_of site) es)
  canonical_cbor definite_lengths site (structure ms) = container_bytes 5 None (member_bytes definite_lengths site ms)
  canonical_cbor definite_lengths site (union n v) =
      container_bytes 5 None (key_bytes (member_of site n).view ++ canonical_cbor definite_lengths (member_of site n) v)
  canonical_cbor definite_lengths site null_element = shortest_head 7 null_value
  canonical_cbor definite_lengths site (document_value d) = []

  pub element_bytes : Bool → Site → Values → List ℕ
  element_bytes definite_lengths site no_values = []
  element_bytes definite_lengths site (value v vs) = canonical_cbor definite_lengths site v ++ element_bytes definite_lengths site vs

  pub entry_bytes : Bool → Site → MapEntries → List ℕ
  entry_bytes definite_lengths site no_map_entries = []
  entry_bytes definite_lengths site (map_entry key v es) =
      text_bytes key ++ (canonical_cbor definite_lengths site v ++ entry_bytes definite_lengths site es)

  pub member_bytes : Bool → Site → MemberValues → List ℕ
  member_bytes definite_lengths site no_member_values = []
  member_bytes definite_lengths site (member_value n v ms) =
      key_bytes (member_of site n).view
      ++ (canonical_cbor definite_lengths (member_of site n) v ++ member_bytes definite_lengths site ms)
