use Rattle.std.proofs.Common.{sym, ◌∙◌, ap}
use Rattle.smithy_instants.specs.Epoch.{epoch_nanos}
use Rattle.smithy_json_values.specs.Codec.{held_settings}
use Rattle.smithy_json_values.specs.LexicalGrammar.{grammar_of}
use Rattle.smithy_json_values.specs.Scalar.{a_number, seconds_read_as}
use Rattle.smithy_json_values.proofs.InstantPlaces.{not_taken, taken}
use Rattle.smithy_json_values.proofs.NumberRuns.{one_number}
use Rattle.smithy_json_values.proofs.instants.seconds_at.Goals as goal

pub returns-then-not-takes_seconds : goal.returns-then-not-takes_seconds
returns-then-not-takes_seconds c =
    let s = held_settings c.args.settings.now in
    not_taken (grammar_of s) s c.args.time c.args.input.now c.args.at (sym c.takes_seconds.ensures ∙ c.if-not-takes_seconds.true)

pub returns-in_default : goal.returns-in_default
returns-in_default c = λ raw e lies. absurd (c.in_default.ensures.none raw e lies)

pub returns-in-Value : goal.returns-in-Value
returns-in-Value c =
    let takes = sym c.takes_seconds.ensures ∙ c.if-not-takes_seconds.false in
    record {
      found = a_number _;
      lies = c.in-Some.ensures.found;
      is = taken (held_settings c.args.settings.now) c.args.time c.in-Some.seconds.now takes ∙ c.in-Value.ensures;
    }

pub returns-in-Nothing : goal.returns-in-Nothing
returns-in-Nothing c = λ raw e lies.
    let s = held_settings c.args.settings.now in
    let takes = sym c.takes_seconds.ensures ∙ c.if-not-takes_seconds.false in
    let same = one_number s.enforce_strictness c.args.input.now c.args.at e _ raw c.in-Some.seconds.now (grammar_of s).is_decimal lies c.in-Some.ensures.found in
    taken s c.args.time raw takes ∙ ap (λ text. seconds_read_as (epoch_nanos text)) same ∙ c.in-Nothing.ensures

pub returns-in-Beyond : goal.returns-in-Beyond
returns-in-Beyond c =
    let takes = sym c.takes_seconds.ensures ∙ c.if-not-takes_seconds.false in
    record {
      found = a_number _;
      e = c.in-Some.end;
      lies = c.in-Some.ensures.found;
      is = taken (held_settings c.args.settings.now) c.args.time c.in-Some.seconds.now takes ∙ c.in-Beyond.ensures;
    }
