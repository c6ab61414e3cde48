use Rattle.std.proofs.Common.{◌≡◌, ◌+◌, ◌-◌, ◌/◌, ◌%◌, ◌^◌, ◌<◌, ◌++◌, [], ◌∷◌, refl, sym, ◌∙◌, ap, append_assoc, rules, arith}
use Rattle.std.proofs.Output.{has_written_append, has_written_of_eq}
use Rattle.smithy_instants.specs.WrittenDate.{fraction_digits}
use Rattle.smithy_instants.proofs.PowerLemmas.{power_positive}
use Rattle.smithy_instants.proofs.WrittenFractions.{fraction_step, fraction_end, width_positive}
use Rattle.smithy_instants.proofs.display.write_fraction_digits.Goals as goal

pub loop-rest-init : goal.loop-rest-init
loop-rest-init g c = (c.requires.width, c.requires.small, [], refl, search rules)

pub loop-rest-preserved : goal.loop-rest-preserved
loop-rest-preserved g c =
    let l = c.loop-rest in
    let (wide, small, done, whole, wrote) = l.invariant in
    let w = l.width - 1 in
    let unit : c.pow-unit.result ≡ 10 ^ w = c.pow-unit.ensures in
    let some : 0 < l.rest = omega arith in
    let step = fraction_step l.width l.rest some (width_positive l.width l.rest some small) in
    let digit = (48 + l.rest / c.pow-unit.result) ∷ [] in (
      omega arith,
      omega (arith, power_positive w),
      done ++ digit,
      append_assoc done digit (fraction_digits w (l.rest % c.pow-unit.result))
          ∙ ap (λ u. done ++ (48 + l.rest / u) ∷ fraction_digits w (l.rest % u)) unit
          ∙ ap (λ t. done ++ t) (sym step) ∙ whole,
      λ plain. has_written_append _ _ _ _ _ _ (wrote plain) (search rules),
    )

pub returns : goal.returns
returns g c = λ plain _.
    let l = c.loop-rest in
    let (_, _, done, whole, wrote) = l.invariant in
    has_written_of_eq _ _ _ _ _ (sym (fraction_end done l.width l.rest (omega arith)) ∙ whole) (wrote plain)
