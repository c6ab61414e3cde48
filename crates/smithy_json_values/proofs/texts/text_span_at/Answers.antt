use Rattle.std.proofs.Common.{◌+◌, ap, ◌∙◌, option_map}
use Rattle.smithy_schema.specs.Spans.{text_bytes}
use Rattle.smithy_json_values.specs.Codec.{held_grammar}
use Rattle.smithy_json_values.proofs.TextLemmas.{no_text_lies}
use Rattle.smithy_json_values.proofs.texts.text_span_at.Goals as goal

pub returns-in_default-clause-found : goal.returns-in_default-clause-found
returns-in_default-clause-found c = λ text e h. c.in_default.ensures.none h.raw e h.lies

pub returns-in_default-2-clause-found : goal.returns-in_default-2-clause-found
returns-in_default-2-clause-found c =
    let means = c.in_ok-text.ensures.text c.args.input.now c.args.at (c.in-Some.string.closing + 1) c.in-Some.ensures.stands in
    no_text_lies (held_grammar c.args.settings.now) c.args.input.now c.args.at c.in-Some.string.text.now _ c.in-Some.ensures.found (means.0 ∙ ap (option_map (text_bytes c.args.input.now)) c.in_default-2.is)

pub returns-clause-found : goal.returns-clause-found
returns-clause-found c =
    let means = c.in_ok-text.ensures.text c.args.input.now c.args.at (c.in-Some.string.closing + 1) c.in-Some.ensures.stands in
    record { raw = c.in-Some.string.text.now; lies = c.in-Some.ensures.found; is = means.0 ∙ ap (option_map (text_bytes c.args.input.now)) c.in-Some-2.is }

pub returns-clause-placed : goal.returns-clause-placed
returns-clause-placed c =
    let means = c.in_ok-text.ensures.text c.args.input.now c.args.at (c.in-Some.string.closing + 1) c.in-Some.ensures.stands in
    rw c.in-Some-2.is at means.1

pub returns-clause-between : goal.returns-clause-between
returns-clause-between c =
    let means = c.in_ok-text.ensures.text c.args.input.now c.args.at (c.in-Some.string.closing + 1) c.in-Some.ensures.stands in
    rw c.in-Some-2.is at means.2

pub returns-clause-borrowed : goal.returns-clause-borrowed
returns-clause-borrowed c = record { raw = c.in-Some.string.text.now; lies = c.in-Some.ensures.found; borrowed = rw c.in-Some-2.is at c.in_ok-text.ensures.borrowed }
