use Rattle.std.proofs.Common.{◌≡◌, false, drop, map}
use Rattle.smithy_shapes.specs.Site.{site_of}
use Rattle.smithy_declarations.specs.Value.{scalar_value, whole}
use Rattle.smithy_schema.specs.Writing.{write, run}
use Rattle.smithy_schema.specs.Written.{list_of_wholes}
use Rattle.smithy_schema.proofs.WrittenLists.{list_rest}
use Rattle.smithy_schema.proofs.write.ShapeSerializer.write_long_list.Given as goal

-- what the list adds is what the rest of it adds
abbrev pub invariant-loop-value : goal.invariant-loop-value
invariant-loop-value g l =
    let sink = g.Self.ShapeSerializer in
    let site = site_of l.schema in
    record {
      before : sink.failed l.fn.self ≡ false;
      failed : sink.failed l.self ≡ false;
      rest : write sink.after site (list_of_wholes l.values) (sink.state l.fn.self)
          ≡ run sink.after (list_rest site (map (λ n. scalar_value (whole n)) (drop l.value-index l.values))) (sink.state l.self);
    }
