use Rattle.std.proofs.Common.{◌≡◌}
use Rattle.smithy_schema.specs.Reading.{in_list}
use Rattle.reader_rows.proofs.longs.last_element.Given as goal

abbrev pub invariant-elements : goal.invariant-elements
invariant-elements g l = (g.R.ShapeDeserializer.state l.source).inner.within ≡ in_list
