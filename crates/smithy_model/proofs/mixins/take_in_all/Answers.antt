use Rattle.std.proofs.Common.{◌∙◌, map, refl}
use Rattle.std.proofs.lemmas.Result.{err_from_is_err_and}
use Rattle.smithy_model.specs.Views.{shape_view}
use Rattle.smithy_model.proofs.Mixing.{ids_kept}
use Rattle.smithy_model.proofs.Taking.{one_refuses}
use Rattle.smithy_model.proofs.mixins.take_in_all.Goals as goal

pub loop-init : goal.loop-init
loop-init c = record { mixed = λ own half. half; uses = refl }

pub take_in_some-requires : goal.take_in_some-requires
take_in_some-requires c =
    c.requires ∙ ids_kept (map shape_view c.args.shapes.now.items) (map shape_view c.loop.shapes.items) c.loop.invariant.uses

pub returns-in_err-take_in_some-clause-taken : goal.returns-in_err-take_in_some-clause-taken
returns-in_err-take_in_some-clause-taken c =
    let p = err_from_is_err_and c.from_residual.result c.from_residual.ensures.1 in
    rw (p.1, p.2)
    (one_refuses (map shape_view c.args.shapes.now.items) (map shape_view c.loop.shapes.items) c.args.done.now.items c.loop.done.items c.in_err-take_in_some.field-0.0
    c.loop.invariant.uses c.loop.invariant.mixed c.in_err-take_in_some.ensures.taken.refused)

pub loop-preserved : goal.loop-preserved
loop-preserved c = record {
  mixed = λ own half. c.in_ok-take_in_some.ensures.taken.mixed own (c.loop.invariant.mixed own half);
  uses = c.in_ok-take_in_some.ensures.taken.uses ∙ c.loop.invariant.uses;
}

pub returns-clause-taken : goal.returns-clause-taken
returns-clause-taken c = record {
  mixed = λ own half. c.in_ok-take_in_some.ensures.taken.mixed own (c.loop.invariant.mixed own half);
  uses = c.in_ok-take_in_some.ensures.taken.uses ∙ c.loop.invariant.uses;
  refused = tt;
}

pub returns-clause-held_up : goal.returns-clause-held_up
returns-clause-held_up c = c.in_ok-take_in_some.ensures.held_up c.if-branch.false
