use Rattle.smithy_json_values.specs.Codec.{held_settings}
use Rattle.smithy_json_values.proofs.IntegerReads.{of_both, both_of}
use Rattle.smithy_wire.proofs.ScalarReads.{if_some, if_none}
use Rattle.smithy_json_values.proofs.integers.whole_of_grammar.Goals as goal

pub returns-in_err-scan_number_of-clause-none : goal.returns-in_err-scan_number_of-clause-none
returns-in_err-scan_number_of-clause-none c =
    rw c.from_residual.ensures (λ n e h.
    c.in_err-scan_number_of.ensures.none e (both_of (held_settings c.args.settings.now) c.args.input.now c.args.start e n c.requires.strict c.requires.whole h).0)

pub returns-clause-found : goal.returns-clause-found
returns-clause-found c =
    let found = c.in_ok-scan_number_of.ensures in
    if_some c.read_signed.result _ _
    (λ r. of_both (held_settings c.args.settings.now) c.args.input.now c.args.start r.1 r.0 c.requires.strict c.requires.whole _ found.found found.run)
    c.read_signed.ensures.found

pub returns-clause-none : goal.returns-clause-none
returns-clause-none c =
    if_none c.read_signed.result _ _
    (λ none n e h. none n e (both_of (held_settings c.args.settings.now) c.args.input.now c.args.start e n c.requires.strict c.requires.whole h).1)
    c.read_signed.ensures.none
