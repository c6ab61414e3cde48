use Rattle.std.proofs.Common.{◌≡◌, ◌++◌, [], ◌∷◌, false, length, Result}
use Rattle.smithy_schema.specs.declared.error.SerdeError.{SerdeError}
use Rattle.smithy_shapes.specs.Site.{site_of, key_of, value_of}
use Rattle.smithy_declarations.specs.Value.{map}
use Rattle.smithy_schema.specs.Writing.{events, entry_events, end_map}
use Rattle.smithy_schema.specs.Written.{Runs}
use Rattle.smithy_typed.specs.Values.{entries_with}
use Rattle.smithy_typed.proofs.maps.write_map.Given as goal

-- what the rest of the map comes to, the map comes to
abbrev pub invariant-loop-key : goal.invariant-loop-key
invariant-loop-key g l =
    let sink = g.S.ShapeSerializer in
    let site = site_of l.schema in
    let view = g.T.Typed.value in
    record {
      sound : sink.failed l.sink ≡ false;
      rest : (r : Result sink.State SerdeError) → Runs sink.after (entry_events (key_of site) (value_of site) (entries_with view l.left) ++ end_map ∷ []) (sink.state l.sink) r
          → Runs sink.after (events site (map (entries_with view l.entries.entries))) (sink.state l.fn.sink) r;
    }

abbrev pub decreases-loop-key : goal.decreases-loop-key
decreases-loop-key g l = length l.left
