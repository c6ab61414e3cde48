use Rattle.std.proofs.Common.{◌≡◌}
use Rattle.smithy_schema.specs.Reading.{in_structure}
use Rattle.reader_rows.proofs.longs.last_member.Given as goal

abbrev pub invariant-members : goal.invariant-members
invariant-members g l = (g.R.ShapeDeserializer.state l.source).inner.within ≡ in_structure
