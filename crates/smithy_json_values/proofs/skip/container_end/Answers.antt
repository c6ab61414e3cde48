use Rattle.std.proofs.Common.{◌≡◌, ◌<◌, Bool, true, false, length, arith, rules, ◌∙◌}
use Rattle.std.proofs.lemmas.List.{length-set}
use Rattle.smithy_json_values.specs.LexicalGrammar.{is_skipped_in}
use Rattle.smithy_json_values.specs.Codec.{held_grammar}
use Rattle.smithy_json_values.specs.Private.BytePlaces.{byte_ahead}
use Rattle.smithy_json_values.specs.Private.Skipping.{opening, closing}
use Rattle.smithy_json_values.proofs.SkipSteps.{scalar_passed, container_opened, opens_too_deep, value_begun, container_closed, no_next_step, walked, scalar_ahead, skips_ahead, value_place, falls_ahead, falls_on}
use Rattle.smithy_json_values.proofs.OpenersLemmas.{reaches_depth}
use Rattle.smithy_json_values.proofs.DeepestLemmas.{comes_past_scalar, comes_into_container, comes_too_deep, comes_to_value, comes_out_of_container}
use Rattle.smithy_json_values.proofs.SkipStepOpeners.{opens_past_scalar, opens_into_container, opens_to_value, opens_out_of_container}
use Rattle.smithy_json_values.proofs.skip.container_end.Goals as goal
use Rattle.smithy_json_values.proofs.skip.container_end.Goals.{then-due, else-due+then-open-gt0}

at_odds : {b : Bool} → b ≡ true → b ≡ false → ⊥
at_odds p q = cc

pub returns-then-depth-open : goal.returns-then-depth-open
returns-then-depth-open c =
    let step = rw c.in-IntoContainer.is at c.in-Some.ensures in
    let bracket = step.1 in
    record {
      ok = search rules;
      ahead = search rules;
      refused = opens_too_deep (held_grammar c.args.input.settings) c.args.input.settings.max_depth c.args.depth c.loop-due.is_object c.loop-due.open c.loop-due.due c.loop-due.entered c.args.input.bytes.now c.args.at c.loop-due.at
          c.loop-due.invariant.way c.loop-due.invariant.within c.loop-due.invariant.shallow step.0 c.in-IntoContainer.kind c.in-IntoContainer.inside bracket c.if-depth-open.true;
      none_without_limits = search rules;
      deep = λ deep. reaches_depth c.args.input.bytes.now c.args.at c.args.input.settings.max_depth c.args.depth c.loop-due.open c.loop-due.at c.loop-due.invariant.opens c.if-depth-open.true;
      too_deep = λ deep.
          comes_too_deep (held_grammar c.args.input.settings) c.args.depth c.loop-due.is_object c.loop-due.open c.loop-due.due c.loop-due.entered c.args.input.bytes.now c.args.at c.loop-due.at
          c.loop-due.invariant.come step.0 c.in-IntoContainer.kind c.in-IntoContainer.inside c.args.input.settings.max_depth bracket c.loop-due.invariant.shallow c.if-depth-open.true;
    }

pub loop-due-smaller-in-PastScalar : goal.loop-due-smaller-in-PastScalar
loop-due-smaller-in-PastScalar c =
    let step = rw c.in-PastScalar.is at c.in-Some.ensures in
    let scalar = step.1 in
    falls_ahead (length c.args.input.bytes.now) c.loop-due.at c.in-PastScalar.end c.loop-due.due
    (scalar_ahead (held_grammar c.args.input.settings) (is_skipped_in (held_grammar c.args.input.settings)) c.args.input.bytes.now c.loop-due.at c.in-PastScalar.end scalar).0
    (scalar_ahead (held_grammar c.args.input.settings) (is_skipped_in (held_grammar c.args.input.settings)) c.args.input.bytes.now c.loop-due.at c.in-PastScalar.end scalar).1

pub loop-due-preserved-in-PastScalar : goal.loop-due-preserved-in-PastScalar
loop-due-preserved-in-PastScalar c =
    let step = rw c.in-PastScalar.is at c.in-Some.ensures in
    let scalar = step.1 in
    record {
      within = (scalar_ahead (held_grammar c.args.input.settings) (is_skipped_in (held_grammar c.args.input.settings)) c.args.input.bytes.now c.loop-due.at c.in-PastScalar.end scalar).1;
      room = c.loop-due.invariant.room;
      shallow = c.loop-due.invariant.shallow;
      way = scalar_passed (held_grammar c.args.input.settings) c.args.input.settings.max_depth c.args.depth c.loop-due.is_object c.loop-due.open c.loop-due.due c.loop-due.entered c.args.input.bytes.now c.args.at c.loop-due.at
          c.loop-due.invariant.way c.loop-due.invariant.within c.loop-due.invariant.shallow step.0 c.in-PastScalar.end scalar;
      opens = opens_past_scalar c.args.input.bytes.now c.args.at c.loop-due.open c.loop-due.at c.in-PastScalar.end c.loop-due.invariant.opens (held_grammar c.args.input.settings) (is_skipped_in (held_grammar c.args.input.settings)) scalar;
      come = comes_past_scalar (held_grammar c.args.input.settings) c.args.depth c.loop-due.is_object c.loop-due.open c.loop-due.due c.loop-due.entered c.args.input.bytes.now c.args.at c.loop-due.at
          c.loop-due.invariant.come step.0 c.in-PastScalar.end scalar;
    }

pub loop-due-smaller-in-IntoContainer : goal.loop-due-smaller-in-IntoContainer
loop-due-smaller-in-IntoContainer c =
    let step = rw c.in-IntoContainer.is at c.in-Some.ensures in
    let bracket = step.1 in
    falls_ahead (length c.args.input.bytes.now) c.loop-due.at c.in-IntoContainer.inside c.loop-due.due
    (byte_ahead (opening c.in-IntoContainer.kind) c.args.input.bytes.now c.loop-due.at c.in-IntoContainer.inside bracket) bracket.1

pub loop-due-preserved-in-IntoContainer : goal.loop-due-preserved-in-IntoContainer
loop-due-preserved-in-IntoContainer c =
    let step = rw c.in-IntoContainer.is at c.in-Some.ensures in
    let bracket = step.1 in
    record {
      within = bracket.1;
      room = length-set c.loop-due.is_object c.loop-due.open c.in-IntoContainer.kind ∙ c.loop-due.invariant.room;
      shallow = omega (arith, c.if-depth-open.false);
      way = container_opened (held_grammar c.args.input.settings) c.args.input.settings.max_depth c.args.depth c.loop-due.is_object c.loop-due.open c.loop-due.due c.loop-due.entered c.args.input.bytes.now c.args.at c.loop-due.at
          c.loop-due.invariant.way c.loop-due.invariant.within c.loop-due.invariant.shallow step.0 c.in-IntoContainer.kind c.in-IntoContainer.inside bracket (omega arith);
      opens = opens_into_container c.args.input.bytes.now c.args.at c.loop-due.open c.loop-due.at c.in-IntoContainer.inside c.loop-due.invariant.opens c.in-IntoContainer.kind bracket;
      come = comes_into_container (held_grammar c.args.input.settings) c.args.depth c.loop-due.is_object c.loop-due.open c.loop-due.due c.loop-due.entered c.args.input.bytes.now c.args.at c.loop-due.at
          c.loop-due.invariant.come step.0 c.in-IntoContainer.kind c.in-IntoContainer.inside bracket (omega arith);
    }

pub loop-due-preserved-in-ToValue : goal.loop-due-preserved-in-ToValue
loop-due-preserved-in-ToValue c =
    let step = rw c.in-ToValue.is at c.in-Some.ensures in
    let some : 0 < c.loop-due.open = elim c.if-due.branch [
      | then-due w ↦ absurd (at_odds w.if-due.true step.0)
      | else-due+then-open-gt0 w ↦ w.if-open-gt0.true
    ] in
    let place = value_place (is_skipped_in (held_grammar c.args.input.settings)) c.args.input.bytes.now c.loop-due.at _ c.loop-due.entered c.in-ToValue.start step.1 c.loop-due.invariant.within in
    record {
      within = place.1;
      room = c.loop-due.invariant.room;
      shallow = c.loop-due.invariant.shallow;
      way = value_begun (held_grammar c.args.input.settings) c.args.input.settings.max_depth c.args.depth c.loop-due.is_object c.loop-due.open c.loop-due.due c.loop-due.entered c.args.input.bytes.now c.args.at c.loop-due.at
          c.loop-due.invariant.way c.loop-due.invariant.within c.loop-due.invariant.shallow step.0 some c.in-ToValue.start step.1;
      opens = opens_to_value c.args.input.bytes.now c.args.at c.loop-due.open c.loop-due.at c.in-ToValue.start c.loop-due.invariant.opens (is_skipped_in (held_grammar c.args.input.settings)) _ c.loop-due.entered step.1;
      come = comes_to_value (held_grammar c.args.input.settings) c.args.depth c.loop-due.is_object c.loop-due.open c.loop-due.due c.loop-due.entered c.args.input.bytes.now c.args.at c.loop-due.at
          c.loop-due.invariant.come step.0 some c.in-ToValue.start step.1;
    }

pub loop-due-smaller : goal.loop-due-smaller
loop-due-smaller c =
    let step = rw c.in-OutOfContainer.is at c.in-Some.ensures in
    falls_on (length c.args.input.bytes.now) c.loop-due.at c.in-OutOfContainer.end c.loop-due.due
    (byte_ahead (closing _) c.args.input.bytes.now c.loop-due.at c.in-OutOfContainer.end step.1.0) step.1.0.1

pub loop-due-preserved : goal.loop-due-preserved
loop-due-preserved c =
    let step = rw c.in-OutOfContainer.is at c.in-Some.ensures in
    let some : 0 < c.loop-due.open = elim c.if-due.branch [
      | then-due w ↦ absurd (at_odds w.if-due.true step.0)
      | else-due+then-open-gt0 w ↦ w.if-open-gt0.true
    ] in
    record {
      within = step.1.0.1;
      room = c.loop-due.invariant.room;
      shallow = omega (arith, c.loop-due.invariant.shallow);
      way = container_closed (held_grammar c.args.input.settings) c.args.input.settings.max_depth c.args.depth c.loop-due.is_object c.loop-due.open c.loop-due.due c.loop-due.entered c.args.input.bytes.now c.args.at c.loop-due.at
          c.loop-due.invariant.way c.loop-due.invariant.within c.loop-due.invariant.shallow step.0 some c.in-OutOfContainer.end step.1;
      opens = opens_out_of_container c.args.input.bytes.now c.args.at c.loop-due.open c.loop-due.at c.in-OutOfContainer.end c.loop-due.invariant.opens (held_grammar c.args.input.settings) _ _ some step.1;
      come = comes_out_of_container (held_grammar c.args.input.settings) c.args.depth c.loop-due.is_object c.loop-due.open c.loop-due.due c.loop-due.entered c.args.input.bytes.now c.args.at c.loop-due.at
          c.loop-due.invariant.come step.0 some c.in-OutOfContainer.end step.1;
    }

pub returns-in_default : goal.returns-in_default
returns-in_default c =
    let some : c.loop-due.due ≡ false → 0 < c.loop-due.open = λ is. elim c.if-due.branch [
      | then-due w ↦ absurd (at_odds w.if-due.true is)
      | else-due+then-open-gt0 w ↦ w.if-open-gt0.true
    ] in
    let none = no_next_step (held_grammar c.args.input.settings) c.args.input.settings.max_depth c.args.depth c.loop-due.is_object c.loop-due.open c.loop-due.due c.loop-due.entered c.args.input.bytes.now c.args.at c.loop-due.at
    c.loop-due.invariant.way c.loop-due.invariant.within c.loop-due.invariant.shallow some (rw c.in_default.is at c.next_step.ensures) in
    record {
      ok = search rules;
      ahead = search rules;
      refused = none c.args.input.settings.max_depth;
      none_without_limits = λ invalid. none;
      deep = search rules;
      too_deep = search rules;
    }

-- where nothing is open any more, the value ends
pub returns : goal.returns
returns c =
    let ends = walked (held_grammar c.args.input.settings) c.args.input.settings.max_depth c.args.depth c.loop-due.is_object c.loop-due.open c.loop-due.due c.loop-due.entered c.args.input.bytes.now c.args.at c.loop-due.at
    c.loop-due.invariant.way c.loop-due.invariant.within c.loop-due.invariant.shallow c.if-due.false (omega (arith, c.if-open-gt0.false)) in
    record {
      ok = ends;
      ahead = skips_ahead (held_grammar c.args.input.settings) c.args.input.settings.max_depth c.args.depth c.args.input.bytes.now c.args.at c.loop-due.at ends;
      refused = search rules;
      none_without_limits = search rules;
      deep = search rules;
      too_deep = search rules;
    }
