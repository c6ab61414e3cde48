use Rattle.std.proofs.Common.{◌≡◌, ◌++◌, [], ◌∷◌, false, drop, map, Result}
use Rattle.smithy_schema.specs.declared.error.SerdeError.{SerdeError}
use Rattle.smithy_shapes.specs.Site.{site_of, element_of}
use Rattle.smithy_declarations.specs.Value.{list, values_of}
use Rattle.smithy_schema.specs.Writing.{events, element_events, end_list}
use Rattle.smithy_schema.specs.Written.{Runs}
use Rattle.smithy_typed.proofs.lists.write_list.Given as goal

-- what the rest of the list comes to, the list comes to
abbrev pub invariant-loop-value : goal.invariant-loop-value
invariant-loop-value g l =
    let sink = g.S.ShapeSerializer in
    let site = site_of l.schema in
    let view = g.T.Typed.value in
    record {
      sound : sink.failed l.sink ≡ false;
      rest : (r : Result sink.State SerdeError) → Runs sink.after (element_events (element_of site) (values_of (map view (drop l.value-index l.values))) ++ end_list ∷ []) (sink.state l.sink) r
          → Runs sink.after (events site (list (values_of (map view l.values)))) (sink.state l.fn.sink) r;
    }
