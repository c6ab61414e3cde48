use Rattle.std.proofs.Common.{rules, ◌≡◌, ◌*◌, ◌^◌, sym, ◌∙◌, ap, arith, pos, ◌+ℤ◌, Some, take, unsigned_abs, false}
use Rattle.std.proofs.lemmas.Int.{ints, to_z-of_z}
use Rattle.std.specs.Int.{w128}
use Rattle.smithy_texts.specs.Numeral.{begins_with, magnitude, signed}
use Rattle.smithy_instants.specs.Instant.{is_instant}
use Rattle.std.specs.Str.{byte}
use Rattle.smithy_texts.specs.Decimal.{coefficient}
use Rattle.smithy_instants.proofs.EpochLemmas.{epoch_none, epoch_zero, epoch_whole, epoch_part, is_negative, not_true, second_of}
use Rattle.smithy_instants.proofs.epoch.read_decimal.Goals as goal

pub returns-in_default : goal.returns-in_default
returns-in_default c =
    record {
      ok = tt;
      instant = tt;
      whole = λ _. epoch_none c.args.text.now c.in_default.ensures.value;
      range = search rules;
    }

pub returns-then-end-eq0 : goal.returns-then-end-eq0
returns-then-end-eq0 c =
    let k = c.coefficient-coefficient.result.now in
    let parts = c.significant_end-end.result in
    let none : magnitude (take parts.0 k) * 10 ^ parts.1 ≡ 0 = ap (λ n. magnitude (take n k) * 10 ^ parts.1) c.if-end-eq0.true ∙ omega arith in
    let value : magnitude (coefficient c.args.text.now) ≡ 0 = ap magnitude (sym c.coefficient-coefficient.ensures) ∙ c.significant_end-end.ensures.value ∙ none in
    record {
      ok = epoch_zero c.args.text.now c.in-Some.ensures.value.0 value ∙ ap Some (sym c.from_secs.ensures);
      instant = search rules;
      whole = tt;
      range = tt;
    }

pub returns-then-power-lt0 : goal.returns-then-power-lt0
returns-then-power-lt0 c =
    let k = c.coefficient-coefficient.result.now in
    let parts = c.significant_end-end.result in
    let value = ap magnitude (sym c.coefficient-coefficient.ensures) ∙ c.significant_end-end.ensures.value in
    let back = to_z-of_z w128 c.in-Some.exponent (omega (arith, ints, c.in-Some.ensures.bounds)) in
    let power = ap (λ e. e +ℤ pos 9 +ℤ pos parts.1) (sym c.in-Some.ensures.value.1 ∙ sym back) ∙ sym c.nanos_power-power.ensures.value in
    let odd = second_of c.significant_end-end.ensures.last c.if-end-eq0.false in
    record {
      ok = tt;
      instant = tt;
      whole = λ _. epoch_part c.args.text.now (magnitude (take parts.0 k)) parts.1 c.nanos_power-power.result c.in-Some.ensures.value.0 value power (omega (arith, ints)) odd;
      range = search rules;
    }

pub returns-in-Some-scaled_instant : goal.returns-in-Some-scaled_instant
returns-in-Some-scaled_instant c =
    let text = c.args.text.now in
    let k = c.coefficient-coefficient.result.now in
    let parts = c.significant_end-end.result in
    let value = ap magnitude (sym c.coefficient-coefficient.ensures) ∙ c.significant_end-end.ensures.value in
    let back = to_z-of_z w128 c.in-Some.exponent (omega (arith, ints, c.in-Some.ensures.bounds)) in
    let power = ap (λ e. e +ℤ pos 9 +ℤ pos parts.1) (sym c.in-Some.ensures.value.1 ∙ sym back) ∙ sym c.nanos_power-power.ensures.value in
    let m = magnitude (take parts.0 k) in
    let p = c.nanos_power-power.result in
    let kept = to_z-of_z w128 p c.nanos_power-power.ensures.fits in
    let whole = epoch_whole text m parts.1 p c.in-Some.ensures.value.0 value power (omega (arith, ints)) in
    let sign : is_negative text ≡ c.begins_with.result = ap (begins_with (byte "-")) (sym c.coefficient-coefficient.ensures) ∙ sym c.begins_with.ensures in
    record {
      ok = whole ∙ ap (λ b. Some (signed b (m * 10 ^ unsigned_abs p))) sign ∙ ap (λ z. Some (signed c.begins_with.result (m * 10 ^ unsigned_abs z))) (sym kept) ∙ ap Some (sym c.in-Some-scaled_instant.ensures.1);
      instant = search rules;
      whole = tt;
      range = tt;
    }

pub returns-in-None : goal.returns-in-None
returns-in-None c =
    let k = c.coefficient-coefficient.result.now in
    let parts = c.significant_end-end.result in
    let value = ap magnitude (sym c.coefficient-coefficient.ensures) ∙ c.significant_end-end.ensures.value in
    let back = to_z-of_z w128 c.in-Some.exponent (omega (arith, ints, c.in-Some.ensures.bounds)) in
    let power = ap (λ e. e +ℤ pos 9 +ℤ pos parts.1) (sym c.in-Some.ensures.value.1 ∙ sym back) ∙ sym c.nanos_power-power.ensures.value in
    let whole = epoch_whole c.args.text.now (magnitude (take parts.0 k)) parts.1 c.nanos_power-power.result c.in-Some.ensures.value.0 value power (omega (arith, ints)) in
    let m = magnitude (take parts.0 k) in
    let p = c.nanos_power-power.result in
    let kept = to_z-of_z w128 p c.nanos_power-power.ensures.fits in
    let sign : is_negative c.args.text.now ≡ c.begins_with.result = ap (begins_with (byte "-")) (sym c.coefficient-coefficient.ensures) ∙ sym c.begins_with.ensures in
    let fails : is_instant (signed c.begins_with.result (m * 10 ^ unsigned_abs p)) ≡ false = ap (λ z. is_instant (signed c.begins_with.result (m * 10 ^ unsigned_abs z))) (sym kept) ∙ not_true _ c.in-None.ensures in
    record {
      ok = tt;
      instant = tt;
      whole = search rules;
      range = λ _. (_, whole, ap (λ b. is_instant (signed b (m * 10 ^ unsigned_abs p))) sign ∙ fails);
    }
