use Rattle.std.proofs.Common.{◌≡◌, ◌+◌, true, false, slice_range, ap, sym, ◌∙◌}
use Rattle.smithy_json_grammar.proofs.LenientTextLemmas.{string_is_quoted, one_closing}
use Rattle.smithy_json_values.specs.Codec.{held_grammar}
use Rattle.smithy_json_values.proofs.StringsOf.{standard_passes, passes_standard}
use Rattle.smithy_json_values.proofs.skip.skipped_closing.Goals as goal

pub returns-in_err-string-clause-none : goal.returns-in_err-string-clause-none
returns-in_err-string-clause-none c =
    rw c.from_residual.ensures (λ closing here valid.
    c.in_err-string.ensures.none closing (passes_standard c.args.input.now c.args.start closing here (rw (c.if-settings.true, c.if-settings-2.true) at valid)))

pub returns-then-settings-2-clause-found : goal.returns-then-settings-2-clause-found
returns-then-settings-2-clause-found c = string_is_quoted c.args.input.now c.args.start c.in_ok-string.string.closing c.in_ok-string.ensures.found

pub returns-then-settings-2-clause-valid : goal.returns-then-settings-2-clause-valid
returns-then-settings-2-clause-valid c =
    rw (c.if-settings.true, c.if-settings-2.true) (standard_passes c.args.input.now c.args.start c.in_ok-string.string.closing c.in_ok-string.ensures.found)

pub returns-then-not-may_skip_text-clause-none : goal.returns-then-not-may_skip_text-clause-none
returns-then-not-may_skip_text-clause-none c = λ closing here valid.
    let i = c.args.input.now in
    let g = held_grammar c.args.settings.now in
    let same = one_closing i c.args.start closing c.in_ok-quoted.quoted.closing here c.in_ok-quoted.ensures.found in
    let clash : true ≡ false =
    sym valid ∙ ap (λ n. g.is_skipped_text (slice_range i (c.args.start + 1) n)) same ∙ ap g.is_skipped_text (sym c.in_ok-quoted.ensures.bytes) ∙ sym c.may_skip_text.ensures ∙ c.if-not-may_skip_text.true in
    cc
