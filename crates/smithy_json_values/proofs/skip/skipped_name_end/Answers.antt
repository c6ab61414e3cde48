use Rattle.std.proofs.Common.{◌+◌, ◌∙◌, ap, length}
use Rattle.smithy_json_values.specs.Codec.{held_grammar}
use Rattle.smithy_json_values.proofs.ScannedStrings.{name_lies, name_stands, colon_lies}
use Rattle.smithy_wire.proofs.ScalarReads.{if_some, if_none}
use Rattle.smithy_json_values.proofs.skip.skipped_name_end.Goals as goal

pub returns-in_err-closing-clause-none : goal.returns-in_err-closing-clause-none
returns-in_err-closing-clause-none c =
    rw c.from_residual.ensures (λ raw e h good.
    let stands = name_stands c.args.input.now c.args.at c.skip_blanks.result c.skip_blanks.ensures raw e h in
    c.in_err-closing.ensures.none (c.skip_blanks.result + 1 + length raw) stands.0 (ap (held_grammar c.args.settings.now).is_skipped_text stands.1 ∙ good))

pub returns-clause-found : goal.returns-clause-found
returns-clause-found c =
    if_some c.byte_end.result _ _
    (λ e h. (_, name_lies c.args.input.now c.args.at c.skip_blanks.result c.skip_blanks.ensures c.in_ok-closing.closing c.in_ok-closing.ensures.found e h, c.in_ok-closing.ensures.valid))
    c.byte_end.ensures.found

pub returns-clause-none : goal.returns-clause-none
returns-clause-none c =
    if_none c.byte_end.result _ _
    (λ none raw e h good. none e (colon_lies c.args.input.now c.args.at c.skip_blanks.result c.skip_blanks.ensures raw e h c.in_ok-closing.closing c.in_ok-closing.ensures.found))
    c.byte_end.ensures.none
