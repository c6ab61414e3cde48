use Rattle.smithy_shapes.specs.Site.{site_of, member_of}
use Rattle.smithy_schema.proofs.WrittenFields.{nothing_added, value_added}
use Rattle.smithy_typed.proofs.fields.write_field.Goals as goal

pub returns-in_default : goal.returns-in_default
returns-in_default g c = record { adds = rw c.in_default.is (nothing_added _ _ _ _ c.requires.inside c.requires.sound) }

pub returns : goal.returns
returns g c =
    let s = g.S.ShapeSerializer in
    let writes = c.write_to.ensures.writes in
    record {
      adds = rw c.in-Some.is (value_added s.after s.open_in g.met.S.ShapeSerializer.nested (member_of (site_of c.args.shape.now) c.args.position) (g.T.Typed.value c.in-Some.value) _ _ _ c.write_to.result c.requires.inside
          (rw c.member_under.ensures at writes.runs) writes.sound writes.broken);
    }
