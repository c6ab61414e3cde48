use Rattle.std.proofs.Common.{◌+◌, ◌∙◌, ap, length}
use Rattle.smithy_json_values.specs.Codec.{held_settings, held_grammar}
use Rattle.smithy_json_values.proofs.OptionLemmas.{some_where, none_where}
use Rattle.smithy_json_values.proofs.ScannedStrings.{string_lies, token_stands, boundary_there}
use Rattle.smithy_json_values.proofs.skip.skipped_string_end.Goals as goal

pub returns-in_err-closing-clause-none : goal.returns-in_err-closing-clause-none
returns-in_err-closing-clause-none c =
    rw c.from_residual.ensures (λ raw e h.
    let stands = token_stands c.args.input.now c.args.at c.skip_blanks.result c.skip_blanks.ensures raw e h.0.0 in
    c.in_err-closing.ensures.none (c.skip_blanks.result + 1 + length raw) stands.0 (ap (held_grammar c.args.settings.now).is_skipped_text stands.1 ∙ h.1))

pub returns-clause-found : goal.returns-clause-found
returns-clause-found c =
    let i = c.args.input.now in
    let strict = (held_settings c.args.settings.now).enforce_strictness in
    rw c.then_some.ensures (some_where c.may_follow.result _ _ (λ holds. (
      _,
      (string_lies i c.args.at c.skip_blanks.result c.skip_blanks.ensures c.in_ok-closing.closing c.in_ok-closing.ensures.found strict (c.may_follow.ensures.0 holds), c.in_ok-closing.ensures.valid),
    )))

pub returns-clause-none : goal.returns-clause-none
returns-clause-none c =
    let i = c.args.input.now in
    let strict = (held_settings c.args.settings.now).enforce_strictness in
    rw c.then_some.ensures (none_where c.may_follow.result _ _ (λ fails raw e h.
    let holds = c.may_follow.ensures.1 (boundary_there i c.args.at c.skip_blanks.result c.skip_blanks.ensures c.in_ok-closing.closing c.in_ok-closing.ensures.found strict raw e h.0) in
    cc))
