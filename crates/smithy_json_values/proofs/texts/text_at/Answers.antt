use Rattle.smithy_json_values.proofs.texts.text_at.Goals as goal

pub returns-in_default : goal.returns-in_default
returns-in_default c = λ text e h. (rw c.in_default.is at c.in_ok-text.ensures.found) text e h
