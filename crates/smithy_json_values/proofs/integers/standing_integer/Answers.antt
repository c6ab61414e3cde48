use Rattle.smithy_json_values.specs.Codec.{held_settings}
use Rattle.smithy_json_values.proofs.PlainIntegers.{plain_stands}
use Rattle.smithy_json_values.proofs.integers.standing_integer.Goals as goal

pub returns-in-Some-clause-found : goal.returns-in-Some-clause-found
returns-in-Some-clause-found c =
    plain_stands (held_settings c.args.settings.now) c.args.input.now c.args.start c.in-Some.plain.1 c.in-Some.plain.0 c.in-Some.ensures.found
