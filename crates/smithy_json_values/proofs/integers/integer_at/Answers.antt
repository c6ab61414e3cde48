use Rattle.smithy_json_values.specs.Codec.{held_settings}
use Rattle.smithy_json_values.proofs.IntegerReads.{integer_lies, integer_stands}
use Rattle.smithy_wire.proofs.ScalarReads.{if_some, if_none}
use Rattle.smithy_json_values.proofs.integers.integer_at.Goals as goal

pub returns-clause-found : goal.returns-clause-found
returns-clause-found c =
    if_some c.standing_integer.result _ _
    (λ r. integer_lies (held_settings c.args.settings.now) c.args.input.now c.args.at c.skip_blanks.result c.skip_blanks.ensures r.0 r.1)
    c.standing_integer.ensures.found

pub returns-clause-none : goal.returns-clause-none
returns-clause-none c =
    if_none c.standing_integer.result _ _
    (λ none n e h. none n e (integer_stands (held_settings c.args.settings.now) c.args.input.now c.args.at c.skip_blanks.result c.skip_blanks.ensures n e h))
    c.standing_integer.ensures.none
