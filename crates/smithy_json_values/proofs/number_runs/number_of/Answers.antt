use Rattle.smithy_json_values.specs.Codec.{held_settings}
use Rattle.smithy_json_values.specs.LexicalGrammar.{number_test}
use Rattle.smithy_json_values.specs.Private.NumberSorts.{lenient_test}
use Rattle.smithy_json_values.proofs.NumberRuns.{number_lies, number_stands, run_is_utf8}
use Rattle.smithy_json_values.proofs.number_runs.number_of.Goals as goal

pub returns-in_err-end-clause-none : goal.returns-in_err-end-clause-none
returns-in_err-end-clause-none c =
    let s = held_settings c.args.settings.now in
    rw c.from_residual.ensures (λ raw e h.
    c.in_err-end.ensures.none e
    (number_stands c.args.input.now c.args.at c.skip_blanks-start.result c.skip_blanks-start.ensures s.enforce_strictness (number_test s (lenient_test c.args.sort s.numbers)) raw e h).1)

pub from_utf8_unchecked-text-requires : goal.from_utf8_unchecked-text-requires
from_utf8_unchecked-text-requires c = run_is_utf8 c.args.input.now c.skip_blanks-start.result c.in_ok-end.end c.in_ok-end.ensures.found.run

pub returns-clause-found : goal.returns-clause-found
returns-clause-found c =
    let s = held_settings c.args.settings.now in
    rw c.from_utf8_unchecked-text.ensures
    (number_lies c.args.input.now c.args.at c.skip_blanks-start.result c.skip_blanks-start.ensures s.enforce_strictness (number_test s (lenient_test c.args.sort s.numbers)) c.in_ok-end.end c.in_ok-end.ensures.found)
