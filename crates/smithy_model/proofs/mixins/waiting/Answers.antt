use Rattle.std.proofs.Common.{◌∙◌, sym, ap}
use Rattle.smithy_model.specs.declared.model.Shape as kept
use Rattle.smithy_model.specs.Views.{shape_view}
use Rattle.smithy_model.proofs.Mixing.{at_item}
use Rattle.smithy_model.proofs.mixins.waiting.Goals as goal

pub returns-then-not-is_done-clause-one : goal.returns-then-not-is_done-clause-one
returns-then-not-is_done-clause-one c = (
  c.loop-number.number,
  shape_view c.index-shapes-number.result,
  at_item shape_view c.args.shapes.now c.loop-number.number c.index-shapes-number.result c.loop-number-test.true c.index-shapes-number.is,
  sym c.is_done.ensures ∙ c.if-not-is_done.true,
  ap (λ (s : kept.Shape). s.id.now) c.index-shapes-number.is,
)
