use Rattle.std.proofs.Common.{[], ◌∷◌, Some, None, option_map, subst}
use Rattle.std.proofs.lemmas.Result.{err_from_is_err_and}
use Rattle.smithy_shapes.specs.Site.{site_of, member_of}
use Rattle.smithy_declarations.specs.Value.{map}
use Rattle.smithy_schema.specs.TextMaps.{text_value}
use Rattle.smithy_schema.specs.Writing.{events}
use Rattle.smithy_schema.proofs.WrittenFields.{first_field, field_fails, last_field, value_added, nothing_added}
use Rattle.dynamodb_client.specs.Attributes.{attribute_entries}
use Rattle.smithy_schema.specs.Typed.{WritesAs}
use Rattle.dynamodb_client.proofs.put_item.PutItemInputWriteFields.write_fields.Goals as goal

pub returns-in_err-write_field : goal.returns-in_err-write_field
returns-in_err-write_field g c =
    let p = err_from_is_err_and c.from_residual.result c.from_residual.ensures.1 in
    let v = c.args.self.now in
    record { adds = rw (p.1, p.2) (field_fails (site_of c.args.shape.now) 0 (option_map text_value v.table_name) (option_map (λ m. map (attribute_entries m.entries)) v.item ∷ []) c.in_err-write_field.ensures.adds) }

pub returns-in_default : goal.returns-in_default
returns-in_default g c =
    let s = g.S.ShapeSerializer in
    let v = c.args.self.now in
    let first = c.in_ok-write_field.ensures.adds in
    record {
      adds = rw c.in_default.is (first_field (site_of c.args.shape.now) 0 (option_map text_value v.table_name) (None ∷ []) first
          (nothing_added s.after s.open_in (s.state c.write_field.new.sink) (s.failed c.write_field.new.sink) first.inside first.sound));
    }

pub returns : goal.returns
returns g c =
    let s = g.S.ShapeSerializer in
    let v = c.args.self.now in
    let site = site_of c.args.shape.now in
    let first = c.in_ok-write_field.ensures.adds in
    let call = c.write_attributes in
    let item = map (attribute_entries c.in-Some.item.entries) in
    let writes = subst (λ at. WritesAs s.after (events at item) (s.state c.write_field.new.sink) (s.failed call.new.sink) (s.state call.new.sink) call.result) c.member_under.ensures call.ensures.writes in
    record {
      adds = rw c.in-Some.is (first_field site 0 (option_map text_value v.table_name) (Some item ∷ []) first
          (last_field site 1 (Some item)
          (value_added s.after s.open_in g.met.S.ShapeSerializer.nested (member_of site 1) item (s.state c.write_field.new.sink) (s.state call.new.sink) (s.failed call.new.sink) call.result first.inside writes.runs writes.sound writes.broken)));
    }
