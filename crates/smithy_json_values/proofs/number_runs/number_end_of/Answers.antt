use Rattle.smithy_json_values.specs.Codec.{held_settings}
use Rattle.smithy_json_values.specs.Private.NumberSorts.{lenient_test}
use Rattle.smithy_json_values.proofs.NumberRuns.{grammar_stands, stands_grammar, of_strict, strict_of, of_lenient, lenient_of}
use Rattle.smithy_wire.proofs.ScalarReads.{if_some, if_none}
use Rattle.smithy_json_values.proofs.number_runs.number_end_of.Goals as goal

pub returns-then-settings-clause-found : goal.returns-then-settings-clause-found
returns-then-settings-clause-found c =
    let s = held_settings c.args.settings.now in
    if_some c.scan_number_of.result _ _
    (λ e stands. of_strict s (lenient_test c.args.sort s.numbers) c.args.input.now c.args.start e c.if-settings.true (grammar_stands s.numbers c.args.input.now c.args.start e stands))
    c.scan_number_of.ensures.found

pub returns-then-settings-clause-none : goal.returns-then-settings-clause-none
returns-then-settings-clause-none c =
    let s = held_settings c.args.settings.now in
    if_none c.scan_number_of.result _ _
    (λ none e h. none e (stands_grammar s.numbers c.args.input.now c.args.start e (strict_of s (lenient_test c.args.sort s.numbers) c.args.input.now c.args.start e c.if-settings.true h)))
    c.scan_number_of.ensures.none

pub returns-else-settings-clause-found : goal.returns-else-settings-clause-found
returns-else-settings-clause-found c =
    let s = held_settings c.args.settings.now in
    if_some c.lenient_end.result _ _
    (λ e n. of_lenient s (lenient_test c.args.sort s.numbers) c.args.input.now c.args.start e c.if-settings.false n)
    c.lenient_end.ensures.found

pub returns-else-settings-clause-none : goal.returns-else-settings-clause-none
returns-else-settings-clause-none c =
    let s = held_settings c.args.settings.now in
    if_none c.lenient_end.result _ _
    (λ none e h. none e (lenient_of s (lenient_test c.args.sort s.numbers) c.args.input.now c.args.start e c.if-settings.false h))
    c.lenient_end.ensures.none
