use Rattle.smithy_shapes.specs.Site.{site_of}
use Rattle.smithy_declarations.specs.Value.{scalar_value, text}
use Rattle.smithy_schema.proofs.WrittenFields.{value_added, called, not_had, has_broken}
use Rattle.smithy_schema.proofs.fields.RefStrWriteMember.write_member.Goals as goal

pub returns : goal.returns
returns g c =
    let s = g.S.ShapeSerializer in
    let told = c.write_string.ensures in
    record {
      adds = value_added s.after s.open_in g.met.S.ShapeSerializer.nested (site_of c.args.member.now) (scalar_value (text c.args.self.now.now)) (s.state c.args.sink.now) _ _ c.write_string.result c.requires.inside
          (called s.after _ (s.state c.args.sink.now) _ _ c.write_string.result c.requires.sound told.failed told.ok told.refused)
          (not_had c.write_string.result _ told.broken)
          (has_broken c.write_string.result _ told.broken);
    }
