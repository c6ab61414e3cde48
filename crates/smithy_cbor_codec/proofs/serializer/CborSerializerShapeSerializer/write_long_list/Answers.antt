use Rattle.std.proofs.Common.{sym, subst}
use Rattle.smithy_shapes.specs.Site.{site_of}
use Rattle.smithy_schema.specs.Writing.{Makes, write}
use Rattle.smithy_schema.specs.Written.{list_of_wholes}
use Rattle.smithy_cbor_body.specs.Body.{body_of, body_has_failed}
use Rattle.smithy_cbor_body.specs.Writing.{body_after}
use Rattle.smithy_cbor_codec.specs.Serializing.{body_in, prefix_in, has_failed}
use Rattle.smithy_cbor_codec.proofs.LongLists.{list_prefixed, makes_prefixed}
use Rattle.smithy_cbor_codec.proofs.serializer.CborSerializerShapeSerializer.write_long_list.Goals as goal

pub returns : goal.returns
returns g c =
    let p = g.P.StructPrefix.adds (prefix_in c.args.self.now) in
    subst (λ r. Makes r (has_failed c.args.self.now) (record { body = body_of c.write_long_list.new.self; prefix = p }) (body_has_failed c.write_long_list.new.self) c.write_long_list.result)
    (sym (list_prefixed p (site_of c.args.schema.now) c.args.values.now (body_in c.args.self.now)))
    (makes_prefixed p (write body_after (site_of c.args.schema.now) (list_of_wholes c.args.values.now) (body_in c.args.self.now)) (has_failed c.args.self.now) (body_of c.write_long_list.new.self) (body_has_failed c.write_long_list.new.self) c.write_long_list.result c.write_long_list.ensures)
