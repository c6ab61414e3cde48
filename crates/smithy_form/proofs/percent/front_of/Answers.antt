use Rattle.std.proofs.Common.{◌∷◌, ◌∙◌, ap}
use Rattle.smithy_form.proofs.PercentForms.{front_byte, front_plus, front_escape}
use Rattle.smithy_form.proofs.percent.front_of.Goals as goal

pub returns-then-byte-eq43 : goal.returns-then-byte-eq43
returns-then-byte-eq43 c = front_plus c.args.side.now c.in_ok-byte.rest.now c.in_ok-byte.byte.now c.in_ok-byte.ensures.cases.0 c.if-byte-eq43.true

pub returns-then-byte-ne37 : goal.returns-then-byte-ne37
returns-then-byte-ne37 c = front_byte c.args.side.now c.in_ok-byte.rest.now c.in_ok-byte.byte.now c.in_ok-byte.ensures.cases.0 c.if-byte-eq43.false c.if-byte-ne37.true

pub returns : goal.returns
returns c =
    let b = c.in_ok-byte.byte.now in
    let high = c.in_ok-high.high.now in
    front_escape c.args.side.now c.in_ok-low.rest.now b high c.in_ok-low.low.now c.in_ok-escaped_byte.field-0
    (c.in_ok-byte.ensures.cases.0 ∙ ap (λ r. b ∷ r) c.in_ok-high.ensures.cases.0 ∙ ap (λ r. b ∷ high ∷ r) c.in_ok-low.ensures.cases.0) c.if-byte-ne37.false
    c.in_ok-escaped_byte.ensures
