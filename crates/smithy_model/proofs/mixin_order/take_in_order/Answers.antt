use Rattle.std.proofs.Common.{◌∙◌, map}
use Rattle.std.proofs.lemmas.Result.{err_from_is_err_and}
use Rattle.smithy_model.specs.Views.{shape_view}
use Rattle.smithy_model.proofs.Mixing.{ids_kept}
use Rattle.smithy_model.proofs.Taking.{takes_both, one_refuses}
use Rattle.smithy_model.proofs.mixin_order.take_in_order.Goals as goal

pub take_in_users-requires : goal.take_in_users-requires
take_in_users-requires c =
    c.requires ∙ ids_kept (map shape_view c.args.shapes.now.items) (map shape_view c.loop-turn.shapes.items) c.loop-turn.invariant.uses

pub loop-turn-preserved : goal.loop-turn-preserved
loop-turn-preserved c = takes_both c.loop-turn.invariant c.in_ok-take_in_users.ensures.mixed

pub returns-in_err-take_in_users : goal.returns-in_err-take_in_users
returns-in_err-take_in_users c =
    let p = err_from_is_err_and c.from_residual-in_err-take_in_users.result c.from_residual-in_err-take_in_users.ensures.1 in
    rw (p.1, p.2)
    (one_refuses (map shape_view c.args.shapes.now.items) (map shape_view c.loop-turn.shapes.items) c.args.done.now.items c.loop-turn.done.items
    c.in_err-take_in_users.field-0.0 c.loop-turn.invariant.uses c.loop-turn.invariant.mixed c.in_err-take_in_users.ensures.refused)

pub returns : goal.returns
returns c = record { mixed = c.loop-turn.invariant.mixed; uses = c.loop-turn.invariant.uses; refused = tt }
