use Rattle.std.proofs.Common.{sym, subst}
use Rattle.smithy_shapes.specs.Site.{site_of}
use Rattle.smithy_schema.specs.Writing.{Makes}
use Rattle.smithy_json_codec.specs.Serializing.{state_of, has_failed}
use Rattle.smithy_json_codec.proofs.LongLists.{list_written}
use Rattle.smithy_json_codec.proofs.serializer.JsonSerializerShapeSerializer.write_long_list.Goals as goal

pub returns : goal.returns
returns c =
    let new = c.write_longs.new.self in
    subst (λ r. Makes r (has_failed c.args.self.now) (state_of new) (has_failed new) c.write_longs.result) (sym (list_written (state_of c.args.self.now) (site_of c.args.schema.now) c.args.values.now))
    c.write_longs.ensures
