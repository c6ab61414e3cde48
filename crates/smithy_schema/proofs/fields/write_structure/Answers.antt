use Rattle.smithy_shapes.specs.Site.{site_of}
use Rattle.smithy_schema.specs.Fields.{structure_with, members_at}
use Rattle.smithy_schema.proofs.WrittenFields.{value_added, structure_runs, not_had, has_broken}
use Rattle.smithy_schema.proofs.fields.write_structure.Goals as goal

pub returns : goal.returns
returns g c =
    let s = g.S.ShapeSerializer in
    let site = site_of c.args.member.now in
    let told = c.write_struct.ensures in
    record {
      adds = value_added s.after s.open_in g.met.S.ShapeSerializer.nested site (structure_with (g.T.WriteFields.fields c.args.value.now)) (s.state c.args.sink.now) _ _ c.write_struct.result c.requires.inside
          (structure_runs s.after site (members_at 0 (g.T.WriteFields.fields c.args.value.now)) _ (s.state c.args.sink.now) _ c.requires.sound told.wraps)
          (not_had c.write_struct.result _ told.broken)
          (has_broken c.write_struct.result _ told.broken);
    }
