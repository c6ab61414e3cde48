use Rattle.std.proofs.Common.{◌≡◌, rules, to_z, of_z}
use Rattle.std.specs.Int.{w64}
use Rattle.smithy_shapes.specs.Site.{site_of}
use Rattle.smithy_declarations.specs.Value.{scalar_value, whole}
use Rattle.smithy_schema.proofs.WrittenFields.{value_added, called, not_had, has_broken}
use Rattle.smithy_schema.proofs.fields.I64WriteMember.write_member.Goals as goal

pub returns : goal.returns
returns g c =
    let s = g.S.ShapeSerializer in
    let told = c.write_long.ensures in
    let number : to_z w64 (of_z w64 c.args.self.now) ≡ c.args.self.now = search rules in
    record {
      adds = value_added s.after s.open_in g.met.S.ShapeSerializer.nested (site_of c.args.member.now) (scalar_value (whole c.args.self.now)) (s.state c.args.sink.now) _ _ c.write_long.result c.requires.inside
          (called s.after _ (s.state c.args.sink.now) _ _ c.write_long.result c.requires.sound told.failed (rw number at told.ok) (rw number at told.refused))
          (not_had c.write_long.result _ told.broken)
          (has_broken c.write_long.result _ told.broken);
    }
