use Rattle.smithy_json_values.specs.Private.BytePlaces.{separated_ahead}
use Rattle.smithy_json_values.proofs.NextInContainerLemmas.{name_there}
use Rattle.smithy_json_values.proofs.PlacedTextLemmas.{stands_sooner}
use Rattle.smithy_json_values.proofs.places.next_in_object.Goals as goal

pub returns-in_err-place : goal.returns-in_err-place
returns-in_err-place c =
    let none = c.in_err-place.ensures in
    rw c.from_residual.ensures (λ raw e h. none.0 raw e h.0, none.1)

pub returns-in_err-name-in-Element : goal.returns-in_err-name-in-Element
returns-in_err-name-in-Element c =
    let due = rw c.in-Element.is at c.in_ok-place.ensures in
    rw c.from_residual-in_err-name-in-Element.ensures (
      λ raw e h. c.in_err-name-in-Element.ensures.none raw e (name_there c.args.input.now c.args.at c.args.entered c.in-Element.place due raw e h.0) h.1,
      λ e h. due.1 e h.0,
    )

pub returns-in_ok-name-in-Element : goal.returns-in_ok-name-in-Element
returns-in_ok-name-in-Element c =
    let due = rw c.in-Element.is at c.in_ok-place.ensures in
    let name = c.in_ok-name-in-Element.name in
    let up = separated_ahead c.args.input.now c.args.entered c.args.at c.in-Element.place due.0 in
    record {
      names = ((c.in-Element.place, due.0, c.in_ok-name-in-Element.ensures.found), c.in_ok-name-in-Element.ensures.valid);
      stands = stands_sooner c.args.input.now c.args.at c.in-Element.place name.end name.at name.raw.now up c.in_ok-name-in-Element.ensures.stands;
      has_escape = c.in_ok-name-in-Element.ensures.has_escape;
    }
