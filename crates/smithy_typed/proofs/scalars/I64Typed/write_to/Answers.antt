use Rattle.std.proofs.Common.{◌≡◌, rules, to_z, of_z}
use Rattle.std.specs.Int.{w64}
use Rattle.smithy_declarations.specs.Value.{whole}
use Rattle.smithy_shapes.specs.Site.{site_of}
use Rattle.smithy_schema.specs.Writing.{scalar_of}
use Rattle.smithy_typed.proofs.ScalarReads.{event_written}
use Rattle.smithy_typed.proofs.scalars.I64Typed.write_to.Goals as goal

pub returns : goal.returns
returns g c =
    let number : to_z w64 (of_z w64 c.args.self.now) ≡ c.args.self.now = search rules in
    let told = c.write_long.ensures in
    record { writes = event_written g.S.ShapeSerializer.after (scalar_of (site_of c.args.schema.now) (whole c.args.self.now)) _ _ _ _ c.write_long.result c.requires.sound (record { failed = told.failed; broken = told.broken; ok = rw number at told.ok; refused = rw number at told.refused }) }
