use Rattle.smithy_json_values.proofs.NextInContainerLemmas.{name_there}
use Rattle.smithy_json_values.proofs.skip.next_inside.Goals as goal

pub returns-in_err-place : goal.returns-in_err-place
returns-in_err-place c =
    let none = c.in_err-place.ensures in
    rw (c.from_residual.ensures, c.if-not-is_object.false) (λ e h. none.0 h.0 e h.1, none.1)

pub returns-in_err-start-in-Element : goal.returns-in_err-start-in-Element
returns-in_err-start-in-Element c =
    let due = rw c.in-Element.is at c.in_ok-place.ensures in
    rw (c.from_residual-in_err-start-in-Element.ensures, c.if-not-is_object.false) (
      λ e h. c.in_err-start-in-Element.ensures.none h.0 e (name_there c.args.input.now c.args.at c.args.entered c.in-Element.place due h.0 e h.1) h.2,
      λ e h. due.1 e h.0,
    )

pub returns-in_ok-start-in-Element : goal.returns-in_ok-start-in-Element
returns-in_ok-start-in-Element c =
    let due = rw c.in-Element.is at c.in_ok-place.ensures in
    let name = c.in_ok-start-in-Element.ensures.found in
    rw c.if-not-is_object.false (name.0, (c.in-Element.place, due.0, name.1), name.2)
