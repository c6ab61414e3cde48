use Rattle.smithy_shapes.specs.Site.{site_of}
use Rattle.smithy_schema.specs.Fields.{members_at}
use Rattle.smithy_schema.proofs.WrittenFields.{structure_written}
use Rattle.dynamodb_client.specs.PutItem.{put_item_fields}
use Rattle.dynamodb_client.proofs.put_item.write_put_item.Goals as goal

pub returns : goal.returns
returns g c =
    let s = g.S.ShapeSerializer in
    structure_written s.after s.open_in (site_of c.args.schema.now) (members_at 0 (put_item_fields c.args.input.now)) (s.failed c.args.sink.now) (s.failed c.write_struct.new.self) (s.state c.args.sink.now) (s.state c.write_struct.new.self)
    c.write_struct.result c.write_struct.ensures
