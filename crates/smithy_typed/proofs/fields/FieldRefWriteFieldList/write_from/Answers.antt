use Rattle.std.proofs.Common.{option_map, arith, add-one}
use Rattle.std.proofs.lemmas.Result.{err_from_is_err_and}
use Rattle.smithy_shapes.specs.Site.{site_of}
use Rattle.smithy_schema.proofs.WrittenFields.{first_field, field_fails}
use Rattle.smithy_typed.proofs.fields.FieldRefWriteFieldList.write_from.Goals as goal

pub returns-in_err-write_field : goal.returns-in_err-write_field
returns-in_err-write_field g c =
    let p = err_from_is_err_and c.from_residual.result c.from_residual.ensures.1 in
    let field = option_map g.T.Typed.value c.args.self.now.value.now in
    record { adds = rw (p.1, p.2) (field_fails (site_of c.args.shape.now) c.args.position field (g.R.WriteFieldList.fields c.args.self.now.rest) c.in_err-write_field.ensures.adds) }

pub write_from-requires : goal.write_from-requires
write_from-requires g c = record {
  sound = c.in_ok-write_field.ensures.adds.sound;
  inside = c.in_ok-write_field.ensures.adds.inside;
  few = omega (arith, c.requires.few);
}

pub returns : goal.returns
returns g c =
    let field = option_map g.T.Typed.value c.args.self.now.value.now in
    record { adds = first_field (site_of c.args.shape.now) c.args.position field (g.R.WriteFieldList.fields c.args.self.now.rest) c.in_ok-write_field.ensures.adds (rw add-one at c.write_from.ensures.adds) }
