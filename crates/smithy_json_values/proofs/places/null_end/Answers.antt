use Rattle.std.proofs.Common.{◌≡◌, ◌∙◌, true, false, drop, ap, sym}
use Rattle.std.proofs.lemmas.List.{take_rest}
use Rattle.smithy_json_values.specs.Codec.{held_settings}
use Rattle.smithy_json_values.specs.Spans.{begins_with_null}
use Rattle.smithy_json_values.proofs.LiteralPlaces.{null_lies, null_boundary, null_comes, null_within}
use Rattle.smithy_json_values.proofs.OptionLemmas.{some_where, none_where}
use Rattle.smithy_json_values.proofs.places.null_end.Goals as goal

pub returns-then-not-begins_with_null-clause-none : goal.returns-then-not-begins_with_null-clause-none
returns-then-not-begins_with_null-clause-none c = λ e h.
    let i = c.args.input.now in
    let start = c.skip_blanks-start.result in
    let fails : begins_with_null (drop start i) ≡ false = ap begins_with_null (sym (take_rest i start)) ∙ sym c.begins_with_null.ensures ∙ c.if-not-begins_with_null.true in
    let clash : true ≡ false = sym (null_comes i c.args.at start c.skip_blanks-start.ensures (held_settings c.args.settings.now).enforce_strictness e h) ∙ fails in
    cc

pub returns-clause-found : goal.returns-clause-found
returns-clause-found c =
    let i = c.args.input.now in
    let start = c.skip_blanks-start.result in
    let first : begins_with_null (drop start i) ≡ true = ap begins_with_null (sym (take_rest i start)) ∙ sym c.begins_with_null.ensures ∙ c.if-not-begins_with_null.false in
    rw c.then_some.ensures (some_where c.may_follow.result _ _ (λ holds.
    null_lies i c.args.at start c.skip_blanks-start.ensures first (held_settings c.args.settings.now).enforce_strictness (c.may_follow.ensures.0 holds)))

pub returns-clause-none : goal.returns-clause-none
returns-clause-none c =
    let i = c.args.input.now in
    let start = c.skip_blanks-start.result in
    let first : begins_with_null (drop start i) ≡ true = ap begins_with_null (sym (take_rest i start)) ∙ sym c.begins_with_null.ensures ∙ c.if-not-begins_with_null.false in
    rw c.then_some.ensures (none_where c.may_follow.result _ _ (λ fails e h.
    let holds = c.may_follow.ensures.1 (null_boundary i c.args.at start c.skip_blanks-start.ensures first (held_settings c.args.settings.now).enforce_strictness e h) in
    cc))

pub may_follow-requires : goal.may_follow-requires
may_follow-requires c =
    let i = c.args.input.now in
    let start = c.skip_blanks-start.result in
    null_within i c.args.at start c.skip_blanks-start.ensures (ap begins_with_null (sym (take_rest i start)) ∙ sym c.begins_with_null.ensures ∙ c.if-not-begins_with_null.false)
