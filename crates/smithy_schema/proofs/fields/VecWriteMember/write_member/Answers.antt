use Rattle.std.proofs.Common.{◌≡◌, rules, length}
use Rattle.smithy_shapes.specs.Site.{site_of}
use Rattle.smithy_declarations.specs.Value.{list, values_of}
use Rattle.smithy_schema.specs.Fields.{structure_with, structures_with}
use Rattle.smithy_schema.proofs.WrittenFields.{value_added, list_runs, not_had, has_broken}
use Rattle.smithy_schema.proofs.fields.VecWriteMember.write_member.Goals as goal

pub returns : goal.returns
returns g c =
    let s = g.S.ShapeSerializer in
    let fields = g.T.WriteFields.fields in
    let site = site_of c.args.member.now in
    let items = c.args.self.now.items in
    let count : c.len.result ≡ length items = search rules in
    let made = c.write_list_with_length.ensures in
    record {
      adds = value_added s.after s.open_in g.met.S.ShapeSerializer.nested site (list (values_of (structures_with fields items))) (s.state c.args.sink.now) _ _ c.write_list_with_length.result c.requires.inside
          (list_runs s.after site (site_of c.elements_under.result) (λ t. structure_with (fields t)) items c.as_slice.result.now c.len.result _ (s.state c.args.sink.now) _ c.requires.sound c.elements_under.ensures c.as_slice.ensures.value count made.wraps)
          (not_had c.write_list_with_length.result _ made.broken)
          (has_broken c.write_list_with_length.result _ made.broken);
    }
