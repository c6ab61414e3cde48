use Rattle.smithy_shapes.specs.Site.{site_of}
use Rattle.smithy_schema.specs.Fields.{members_at}
use Rattle.smithy_schema.proofs.WrittenFields.{structure_written}
use Rattle.smithy_typed.proofs.structures.write_root.Goals as goal

pub returns : goal.returns
returns g c =
    let s = g.S.ShapeSerializer in
    structure_written s.after s.open_in (site_of c.args.schema.now) (members_at 0 (g.T.WriteFields.fields c.args.value.now)) (s.failed c.args.sink.now) (s.failed c.write_struct.new.self) (s.state c.args.sink.now) (s.state c.write_struct.new.self)
    c.write_struct.result c.write_struct.ensures
