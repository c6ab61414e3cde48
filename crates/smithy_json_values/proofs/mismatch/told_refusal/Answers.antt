use Rattle.std.proofs.Common.{◌≡◌, drop, refl, sym, ap, ◌∙◌}
use Rattle.std.proofs.lemmas.List.{take_rest}
use Rattle.smithy_json_values.specs.Codec.{held_settings}
use Rattle.smithy_json_values.specs.Standing.{without_ws}
use Rattle.smithy_json_values.specs.TypeMismatch.{scalar_mismatches}
use Rattle.smithy_json_values.proofs.ScannedPlaces.{rest_behind}
use Rattle.smithy_wire.proofs.ScalarReads.{told_unchanged}
use Rattle.smithy_json_values.proofs.mismatch.told_refusal.Goals as goal

pub returns-in_default : goal.returns-in_default
returns-in_default c = told_unchanged _ _ c.in_default.not-InvalidInput

pub returns-then-is_mismatch : goal.returns-then-is_mismatch
returns-then-is_mismatch c =
    let i = c.args.input.now in
    let start = c.skip_blanks.result in
    let same : c.is_mismatch.result ≡ scalar_mismatches (held_settings c.args.settings.now) c.args.kind c.args.time (without_ws (drop c.args.at i)) =
    c.is_mismatch.ensures ∙ ap (scalar_mismatches (held_settings c.args.settings.now) c.args.kind c.args.time) (take_rest i start ∙ sym (rest_behind i c.args.at start c.skip_blanks.ensures)) in
    rw (sym same ∙ c.if-is_mismatch.true, c.in-InvalidInput.is) refl

pub returns-else-is_mismatch : goal.returns-else-is_mismatch
returns-else-is_mismatch c =
    let i = c.args.input.now in
    let start = c.skip_blanks.result in
    let same : c.is_mismatch.result ≡ scalar_mismatches (held_settings c.args.settings.now) c.args.kind c.args.time (without_ws (drop c.args.at i)) =
    c.is_mismatch.ensures ∙ ap (scalar_mismatches (held_settings c.args.settings.now) c.args.kind c.args.time) (take_rest i start ∙ sym (rest_behind i c.args.at start c.skip_blanks.ensures)) in
    rw (sym same ∙ c.if-is_mismatch.false, c.in-InvalidInput.is) refl
