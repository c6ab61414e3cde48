use Rattle.std.proofs.Common.{◌≡◌}
use Rattle.smithy_schema.specs.Reading.{in_map}
use Rattle.reader_rows.proofs.longs.last_value.Given as goal

abbrev pub invariant-entries : goal.invariant-entries
invariant-entries g l = (g.R.ShapeDeserializer.state l.source).inner.within ≡ in_map
