use Rattle.std.proofs.Common.{sym, subst}
use Rattle.smithy_shapes.specs.Site.{site_of}
use Rattle.smithy_schema.specs.Writing.{Makes}
use Rattle.smithy_cbor_body.specs.Body.{body_of, body_has_failed}
use Rattle.smithy_cbor_body.proofs.LongLists.{list_written}
use Rattle.smithy_cbor_body.proofs.body.CborBodyShapeSerializer.write_long_list.Goals as goal

pub returns : goal.returns
returns c =
    let new = c.write_longs.new.self in
    subst (λ r. Makes r (body_has_failed c.args.self.now) (body_of new) (body_has_failed new) c.write_longs.result) (sym (list_written (body_of c.args.self.now) (site_of c.args.schema.now) c.args.values.now))
    c.write_longs.ensures
