use Rattle.std.proofs.Common.{◌≡◌, ◌∙◌, true, false, drop, ap, sym}
use Rattle.std.proofs.lemmas.List.{take_rest}
use Rattle.smithy_json_values.specs.Codec.{held_settings}
use Rattle.smithy_json_values.specs.TypeMismatch.{begins_with_true, begins_with_false}
use Rattle.smithy_json_values.proofs.LiteralPlaces.{boolean_lies, boolean_boundary, boolean_comes, boolean_within, neither}
use Rattle.smithy_json_values.proofs.OptionLemmas.{some_where, none_where}
use Rattle.smithy_json_values.proofs.values.boolean_at.Goals as goal

pub returns-then-begins_with_true-clause-found : goal.returns-then-begins_with_true-clause-found
returns-then-begins_with_true-clause-found c =
    let i = c.args.input.now in
    let start = c.skip_blanks-start.result in
    let first : begins_with_true (drop start i) ≡ true = ap begins_with_true (sym (take_rest i start)) ∙ sym c.begins_with_true.ensures ∙ c.if-begins_with_true.true in
    rw c.then_some.ensures (some_where c.may_follow.result _ _ (λ holds.
    boolean_lies i c.args.at start c.skip_blanks-start.ensures true first (held_settings c.args.settings.now).enforce_strictness (c.may_follow.ensures.0 holds)))

pub returns-then-begins_with_true-clause-none : goal.returns-then-begins_with_true-clause-none
returns-then-begins_with_true-clause-none c =
    let i = c.args.input.now in
    let start = c.skip_blanks-start.result in
    let first : begins_with_true (drop start i) ≡ true = ap begins_with_true (sym (take_rest i start)) ∙ sym c.begins_with_true.ensures ∙ c.if-begins_with_true.true in
    rw c.then_some.ensures (none_where c.may_follow.result _ _ (λ fails b e h.
    let holds = c.may_follow.ensures.1 (boolean_boundary i c.args.at start c.skip_blanks-start.ensures true first (held_settings c.args.settings.now).enforce_strictness b e h) in
    cc))

pub may_follow-requires : goal.may_follow-requires
may_follow-requires c =
    let i = c.args.input.now in
    let start = c.skip_blanks-start.result in
    let first : begins_with_true (drop start i) ≡ true = ap begins_with_true (sym (take_rest i start)) ∙ sym c.begins_with_true.ensures ∙ c.if-begins_with_true.true in
    boolean_within i c.args.at start c.skip_blanks-start.ensures true first

pub returns-then-begins_with_false-clause-found : goal.returns-then-begins_with_false-clause-found
returns-then-begins_with_false-clause-found c =
    let i = c.args.input.now in
    let start = c.skip_blanks-start.result in
    let first : begins_with_false (drop start i) ≡ true = ap begins_with_false (sym (take_rest i start)) ∙ sym c.begins_with_false.ensures ∙ c.if-begins_with_false.true in
    rw c.then_some-then-begins_with_false.ensures (some_where c.may_follow-then-begins_with_false.result _ _ (λ holds.
    boolean_lies i c.args.at start c.skip_blanks-start.ensures false first (held_settings c.args.settings.now).enforce_strictness (c.may_follow-then-begins_with_false.ensures.0 holds)))

pub returns-then-begins_with_false-clause-none : goal.returns-then-begins_with_false-clause-none
returns-then-begins_with_false-clause-none c =
    let i = c.args.input.now in
    let start = c.skip_blanks-start.result in
    let first : begins_with_false (drop start i) ≡ true = ap begins_with_false (sym (take_rest i start)) ∙ sym c.begins_with_false.ensures ∙ c.if-begins_with_false.true in
    rw c.then_some-then-begins_with_false.ensures (none_where c.may_follow-then-begins_with_false.result _ _ (λ fails b e h.
    let holds = c.may_follow-then-begins_with_false.ensures.1 (boolean_boundary i c.args.at start c.skip_blanks-start.ensures false first (held_settings c.args.settings.now).enforce_strictness b e h) in
    cc))

pub may_follow-requires-then-begins_with_false : goal.may_follow-requires-then-begins_with_false
may_follow-requires-then-begins_with_false c =
    let i = c.args.input.now in
    let start = c.skip_blanks-start.result in
    let first : begins_with_false (drop start i) ≡ true = ap begins_with_false (sym (take_rest i start)) ∙ sym c.begins_with_false.ensures ∙ c.if-begins_with_false.true in
    boolean_within i c.args.at start c.skip_blanks-start.ensures false first

pub returns-clause-none : goal.returns-clause-none
returns-clause-none c = λ b e h.
    let i = c.args.input.now in
    let start = c.skip_blanks-start.result in
    let no_true : begins_with_true (drop start i) ≡ false = ap begins_with_true (sym (take_rest i start)) ∙ sym c.begins_with_true.ensures ∙ c.if-begins_with_true.false in
    let no_false : begins_with_false (drop start i) ≡ false = ap begins_with_false (sym (take_rest i start)) ∙ sym c.begins_with_false.ensures ∙ c.if-begins_with_false.false in
    neither (drop start i) no_true no_false b (boolean_comes i c.args.at start c.skip_blanks-start.ensures (held_settings c.args.settings.now).enforce_strictness b e h)
