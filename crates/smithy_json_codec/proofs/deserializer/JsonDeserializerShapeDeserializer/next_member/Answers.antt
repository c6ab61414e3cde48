use Rattle.std.proofs.Common.{◌≡◌, false, refl, arith, rules}
use Rattle.std.proofs.lemmas.Grind.{common_steps}
use Rattle.smithy_json_codec.specs.Cursor.{cursor_of}
use Rattle.smithy_wire.proofs.ContainerAnswers.{steps_undue, steps_always}
use Rattle.smithy_json_codec.proofs.deserializer.JsonDeserializerShapeDeserializer.next_member.Goals as goal

pub returns-then-self-2-clause-goes_on : goal.returns-then-self-2-clause-goes_on
returns-then-self-2-clause-goes_on c = steps_always _ _ _ _ _ _ _ _ c.step_past_unread.ensures.goes_on

pub returns-clause-goes_on : goal.returns-clause-goes_on
returns-clause-goes_on c =
    let undue : c.args.self.now.walk.due ≡ false = search rules in
    steps_undue _ _ _ _ _ (cursor_of c.args.self.now) _ _ undue c.step_from.ensures.steps (λ deep. refl)

pub returns-clause-too_deep : goal.returns-clause-too_deep
returns-clause-too_deep c = λ deep. c.step_from.ensures.too_deep deep

pub step_from-requires-clause-ahead : goal.step_from-requires-clause-ahead
step_from-requires-clause-ahead c = grind (arith, common_steps)

pub step_from-requires-clause-within : goal.step_from-requires-clause-within
step_from-requires-clause-within c = grind (arith, common_steps)

pub step_from-requires-clause-sound : goal.step_from-requires-clause-sound
step_from-requires-clause-sound c = grind (arith, common_steps)

pub step_from-requires-clause-inside : goal.step_from-requires-clause-inside
step_from-requires-clause-inside c = grind (arith, common_steps)

pub step_from-requires-clause-place : goal.step_from-requires-clause-place
step_from-requires-clause-place c = grind (arith, common_steps)
