use Rattle.std.proofs.Common.{◌+◌, ◌∙◌, ap, length, subst, sym}
use Rattle.smithy_json_values.specs.Codec.{held_settings, held_grammar}
use Rattle.smithy_json_values.specs.LexicalGrammar.{frames_of}
use Rattle.smithy_json_values.specs.Scalar.{a_string}
use Rattle.smithy_json_values.proofs.OptionLemmas.{some_where, none_where}
use Rattle.smithy_json_values.proofs.ScannedStrings.{string_lies, token_stands, boundary_there}
use Rattle.smithy_json_values.proofs.PlacedTextLemmas.{begins_within, stands_before_mark}
use Rattle.smithy_json_values.proofs.values.string_at.Goals as goal

pub returns-in_err-string-clause-none : goal.returns-in_err-string-clause-none
returns-in_err-string-clause-none c =
    rw c.from_residual.ensures (λ raw e h.
    let stands = token_stands c.args.input.now c.args.at c.skip_blanks.result c.skip_blanks.ensures raw e h.0.0 in
    let fails = c.in_err-string.ensures.none (c.skip_blanks.result + 1 + length raw) stands.0 in
    let passes = ap (held_grammar c.args.settings.now).is_text stands.1 ∙ h.1 in
    cc)

pub returns-clause-found : goal.returns-clause-found
returns-clause-found c =
    let i = c.args.input.now in
    let strict = (held_settings c.args.settings.now).enforce_strictness in
    let closing = c.in_ok-string.string.closing in
    rw c.then_some.ensures (some_where c.may_follow.result c.in_ok-string.string _ (λ holds. (
      subst (λ raw. (frames_of (held_grammar c.args.settings.now)).scalar i 0 (a_string raw) c.args.at (closing + 1)) (sym c.in_ok-string.ensures.text)
          (string_lies i c.args.at c.skip_blanks.result c.skip_blanks.ensures closing c.in_ok-string.ensures.found strict (c.may_follow.ensures.0 holds)),
      c.in_ok-string.ensures.valid,
    )))

pub returns-clause-begins : goal.returns-clause-begins
returns-clause-begins c =
    let string = c.in_ok-string.string in
    rw c.then_some.ensures (some_where c.may_follow.result string _ (λ holds.
    begins_within c.args.input.now string.text.now c.args.at c.skip_blanks.result string.closing c.skip_blanks.ensures.ordered c.in_ok-string.ensures.found c.in_ok-string.ensures.text))

pub returns-clause-stands : goal.returns-clause-stands
returns-clause-stands c =
    let string = c.in_ok-string.string in
    rw c.then_some.ensures (some_where c.may_follow.result string _ (λ holds.
    stands_before_mark c.args.input.now string.text.now c.args.at c.skip_blanks.result string.closing c.skip_blanks.ensures.ordered c.in_ok-string.ensures.found c.in_ok-string.ensures.text))

pub returns-clause-none : goal.returns-clause-none
returns-clause-none c =
    let i = c.args.input.now in
    let strict = (held_settings c.args.settings.now).enforce_strictness in
    rw c.then_some.ensures (none_where c.may_follow.result c.in_ok-string.string _ (λ fails raw e h.
    let holds = c.may_follow.ensures.1 (boundary_there i c.args.at c.skip_blanks.result c.skip_blanks.ensures c.in_ok-string.string.closing c.in_ok-string.ensures.found strict raw e h.0) in
    cc))
