use Rattle.std.proofs.Common.{◌≡◌, false, drop, Result}
use Rattle.smithy_schema.specs.declared.error.SerdeError.{SerdeError}
use Rattle.smithy_shapes.specs.Site.{site_of}
use Rattle.smithy_declarations.specs.Value.{values_of}
use Rattle.smithy_schema.specs.Writing.{element_events, open_list}
use Rattle.smithy_schema.specs.Written.{Runs, IsInside}
use Rattle.smithy_schema.specs.Fields.{structures_with}
use Rattle.smithy_schema.proofs.fields.WrittenListWriteElements.write.Given as goal

-- what the rest of the list comes to, the list comes to
abbrev pub invariant-loop-element : goal.invariant-loop-element
invariant-loop-element g l =
    let sink = g.S.ShapeSerializer in
    let site = site_of l.self.shape in
    let fields = g.T.WriteFields.fields in
    record {
      rest : (r : Result sink.State SerdeError) → Runs sink.after (element_events site (values_of (structures_with fields (drop l.element-index l.self.items.now)))) (sink.state l.sink) r
          → Runs sink.after (element_events site (values_of (structures_with fields l.self.items.now))) (sink.state l.fn.sink) r;
      nests : sink.open_in (sink.state l.sink) ≡ sink.open_in (sink.state l.fn.sink);
      inside : IsInside open_list (sink.open_in (sink.state l.sink));
      sound : sink.failed l.sink ≡ false;
    }
