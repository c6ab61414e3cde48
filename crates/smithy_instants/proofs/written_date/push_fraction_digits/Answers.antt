use Rattle.std.proofs.Common.{◌≡◌, ◌+◌, ◌-◌, ◌/◌, ◌%◌, ◌^◌, ◌<◌, ◌++◌, [], ◌∷◌, sym, ◌∙◌, ap, arith}
use mathlib.Core.List.{append_assoc}
use Rattle.std.specs.String.{string_bytes}
use Rattle.smithy_instants.specs.WrittenDate.{fraction_digits}
use Rattle.smithy_instants.proofs.PowerLemmas.{power_positive}
use Rattle.smithy_instants.proofs.WrittenFractions.{fraction_step, width_positive}
use Rattle.smithy_instants.proofs.written_date.push_fraction_digits.Goals as goal

pub loop-rest-preserved : goal.loop-rest-preserved
loop-rest-preserved c =
    let l = c.loop-rest in
    let w = l.width - 1 in
    let unit : c.pow-unit.result ≡ 10 ^ w = c.pow-unit.ensures in
    let some : 0 < l.rest = omega arith in
    let step = fraction_step l.width l.rest some (width_positive l.width l.rest some l.invariant.small) in
    let before = string_bytes l.text in
    record {
      width = omega arith;
      small = omega (arith, power_positive w);
      same = ap (λ t. t ++ fraction_digits w (l.rest % c.pow-unit.result)) c.in_ok-push_byte.ensures
          ∙ append_assoc before ((48 + l.rest / c.pow-unit.result) ∷ []) (fraction_digits w (l.rest % c.pow-unit.result))
          ∙ ap (λ u. before ++ (48 + l.rest / u) ∷ fraction_digits w (l.rest % u)) unit
          ∙ ap (λ t. before ++ t) (sym step) ∙ l.invariant.same;
    }
