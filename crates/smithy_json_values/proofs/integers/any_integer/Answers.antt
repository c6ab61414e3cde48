use Rattle.smithy_json_values.specs.Codec.{held_settings}
use Rattle.smithy_json_values.proofs.IntegerReads.{of_signed, signed_of}
use Rattle.smithy_wire.proofs.ScalarReads.{if_some, if_none}
use Rattle.smithy_json_values.proofs.integers.any_integer.Goals as goal

pub returns-then-not-settings-clause-found : goal.returns-then-not-settings-clause-found
returns-then-not-settings-clause-found c =
    if_some c.read_signed.result _ _
    (λ r. of_signed (held_settings c.args.settings.now) c.args.input.now c.args.start r.1 r.0 c.if-not-settings.true c.if-settings.false)
    c.read_signed.ensures.found

pub returns-then-not-settings-clause-none : goal.returns-then-not-settings-clause-none
returns-then-not-settings-clause-none c =
    if_none c.read_signed.result _ _
    (λ none n e h. none n e (signed_of (held_settings c.args.settings.now) c.args.input.now c.args.start e n c.if-not-settings.true c.if-settings.false h))
    c.read_signed.ensures.none
