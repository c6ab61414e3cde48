use Rattle.std.proofs.Common.{◌∙◌, map}
use Rattle.std.proofs.lemmas.Result.{err_from_is_err_and}
use Rattle.smithy_model.specs.Views.{shape_view}
use Rattle.smithy_model.proofs.Mixing.{ids_kept, refused_before}
use Rattle.smithy_model.proofs.mixin_order.take_in_users.Goals as goal

pub take_in-requires : goal.take_in-requires
take_in-requires c =
    c.requires ∙ ids_kept (map shape_view c.args.shapes.now.items) (map shape_view c.loop-user.shapes.items) c.loop-user.invariant.uses

pub returns-in_err-take_in-clause-refused : goal.returns-in_err-take_in-clause-refused
returns-in_err-take_in-clause-refused c =
    let p = err_from_is_err_and c.from_residual.result c.from_residual.ensures.1 in
    rw (p.1, p.2)
    (refused_before (map shape_view c.args.shapes.now.items) (map shape_view c.loop-user.shapes.items) c.args.done.now.items c.loop-user.done.items
    c.in_err-take_in.field-0.0 c.loop-user.invariant.uses c.loop-user.invariant.mixed c.in_err-take_in.ensures.taken.refused)
