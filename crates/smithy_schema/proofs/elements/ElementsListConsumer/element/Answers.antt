use Rattle.std.proofs.Common.{refl}
use Rattle.std.proofs.lemmas.Result.{err_from_is_err_and}
use Rattle.smithy_schema.specs.Elements.{put, refused, no_room}
use Rattle.smithy_schema.proofs.elements.ElementsListConsumer.element.Goals as goal

pub returns-in_err-value-clause-called : goal.returns-in_err-value-clause-called
returns-in_err-value-clause-called g c =
    let p = err_from_is_err_and c.from_residual.result c.from_residual.ensures.1 in
    rw (p.1, p.2) (refused c.in_err-value.ensures.read, refl)

pub returns-in_err-push-clause-called : goal.returns-in_err-push-clause-called
returns-in_err-push-clause-called g c =
    let p = err_from_is_err_and c.from_residual-in_err-push.result c.from_residual-in_err-push.ensures.1 in
    rw (p.1, p.2, c.in_err-push.ensures.items) (no_room c.in_ok-value.value c.in_ok-value.ensures.read, refl)

pub returns-clause-called : goal.returns-clause-called
returns-clause-called g c = rw c.in_ok-push.ensures.items (put c.in_ok-value.value c.in_ok-value.ensures.read, refl)
