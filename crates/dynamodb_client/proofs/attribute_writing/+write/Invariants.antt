use Rattle.std.proofs.Common.{◌≡◌, ◌≤◌, ◌+◌, ◌*◌, ◌++◌, [], ◌∷◌, false, drop, length, Result}
use Rattle.smithy_schema.specs.declared.error.SerdeError.{SerdeError}
use Rattle.smithy_shapes.specs.Site.{site_of, element_of, key_of, value_of}
use Rattle.smithy_declarations.specs.Value.{list, map, values_of, nesting, elements_nesting, entries_nesting}
use Rattle.smithy_schema.specs.Writing.{events, element_events, entry_events, end_list, end_map}
use Rattle.smithy_schema.specs.Written.{Runs}
use Rattle.dynamodb_client.specs.Attributes.{attribute_value, attribute_values, attribute_entries}
use Rattle.dynamodb_client.proofs.attribute_writing.+write.Given as goal

-- twice the containers that stand in one another
abbrev pub decreases-write_attribute_value : goal.decreases-write_attribute_value
decreases-write_attribute_value g l = 2 * nesting (attribute_value l.value.now) + 1

abbrev pub decreases-write_variant : goal.decreases-write_variant
decreases-write_variant g l = 2 * nesting (attribute_value l.value.now)

abbrev pub decreases-write_attributes : goal.decreases-write_attributes
decreases-write_attributes g l = 2 * nesting (map (attribute_entries l.entries.now.entries))

abbrev pub decreases-write_attribute_list : goal.decreases-write_attribute_list
decreases-write_attribute_list g l = 2 * nesting (list (values_of (attribute_values l.values.now)))

-- what the rest of the map comes to, the map comes to
abbrev pub invariant-write_attributes-loop-key : goal.invariant-write_attributes-loop-key
invariant-write_attributes-loop-key g l =
    let sink = g.S.ShapeSerializer in
    let site = site_of l.schema in
    record {
      sound : sink.failed l.sink ≡ false;
      rest : (r : Result sink.State SerdeError) → Runs sink.after (entry_events (key_of site) (value_of site) (attribute_entries l.left) ++ end_map ∷ []) (sink.state l.sink) r
          → Runs sink.after (events site (map (attribute_entries l.entries.entries))) (sink.state l.fn.sink) r;
      nests : entries_nesting (attribute_entries l.left) ≤ entries_nesting (attribute_entries l.entries.entries);
    }

abbrev pub decreases-write_attributes-loop-key : goal.decreases-write_attributes-loop-key
decreases-write_attributes-loop-key g l = length l.left

-- what the rest of the list comes to, the list comes to
abbrev pub invariant-write_attribute_list-loop-value : goal.invariant-write_attribute_list-loop-value
invariant-write_attribute_list-loop-value g l =
    let sink = g.S.ShapeSerializer in
    let site = site_of l.schema in
    let all = attribute_values l.values in
    let now = attribute_values (drop l.value-index l.values) in
    record {
      sound : sink.failed l.sink ≡ false;
      rest : (r : Result sink.State SerdeError) → Runs sink.after (element_events (element_of site) (values_of now) ++ end_list ∷ []) (sink.state l.sink) r
          → Runs sink.after (events site (list (values_of all))) (sink.state l.fn.sink) r;
      nests : elements_nesting (values_of now) ≤ elements_nesting (values_of all);
    }
