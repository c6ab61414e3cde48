use Rattle.std.proofs.Common.{Some, None, sym, ◌∙◌, ap, map, option_map}
use Rattle.smithy_declarations.specs.Table.{Declaration}
use Rattle.smithy_shapes.specs.Views.{declaration_of}
use Rattle.smithy_declarations.specs.declared.shape_type.ShapeRef.{ShapeRef}
use Rattle.smithy_declarations.proofs.Positions.{position-seen}
use Rattle.smithy_shapes.proofs.shapes.Shapes.find.Goals as goal

pub returns : goal.returns
returns c =
    sym (position-seen declaration_of (λ (d : Declaration). d.name) c.as_slice.result.now c.args.self.now c.args.name.now (Some c.in_ok-number.number)
    (ap (map declaration_of) c.as_slice.ensures.value ∙ c.self.view_is) c.in_ok-number.ensures)

pub returns-in_err-number : goal.returns-in_err-number
returns-in_err-number c =
    ap (option_map (λ (r : ShapeRef). r.0)) c.from_residual.ensures ∙
    sym (position-seen declaration_of (λ (d : Declaration). d.name) c.as_slice.result.now c.args.self.now c.args.name.now None
    (ap (map declaration_of) c.as_slice.ensures.value ∙ c.self.view_is) c.in_err-number.ensures)
