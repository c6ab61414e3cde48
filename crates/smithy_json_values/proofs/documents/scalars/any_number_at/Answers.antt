use Rattle.std.proofs.Common.{sym}
use Rattle.smithy_json_values.proofs.documents.scalars.any_number_at.Goals as goal

pub returns-in_default : goal.returns-in_default
returns-in_default c = λ raw e h. c.in_default.ensures.none raw e h

pub returns-in-Some-number_of_text : goal.returns-in-Some-number_of_text
returns-in-Some-number_of_text c = record { raw = _; lies = c.in-Some.ensures.found; is = sym c.in-Some-number_of_text.ensures }

pub returns-in-None : goal.returns-in-None
returns-in-None c = record { raw = _; e = c.in-Some.end; lies = c.in-Some.ensures.found; not_held = sym c.in-None.ensures }
