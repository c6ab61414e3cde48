use Rattle.std.proofs.Common.{◌≡◌, ◌-◌, ◌/◌, ◌∷◌, ◌≤◌, ◌⊎◌, length, take, drop, get_or, arith, Some, sym, ap, ◌∙◌, subst}
use Rattle.std.specs.Prelude.{FitsSigned}
use Rattle.std.proofs.lemmas.Grind.{common_steps}
use Rattle.std.specs.Int.{w64}
use Rattle.std.proofs.lemmas.Int.{to_z-of_z}
use Rattle.cbor_item.specs.Head.{BeginsWithHead, HeadRead, IsCutHead, IsBrokenHead}
use Rattle.smithy_cbor.specs.Private.HeadNumber.{number_of}
use Rattle.smithy_cbor.proofs.HeadLemmas.{integer_there}
use Rattle.smithy_cbor_values.proofs.IntegerHeads.{integer_first, no_integer_head, one_integer}
use Rattle.smithy_cbor_values.proofs.integers.integer_at.Goals as goal

pub returns-clause-found : goal.returns-clause-found
returns-clause-found c =
    let input = c.args.input.now in
    let at = c.args.at in
    let major = get_or (take (length input - at) (drop at input)) 0 0 / 32 in
    let low : major ≤ 1 = omega (arith, c.if-initial-ge-BYTES.false) in
    let head : HeadRead = record { major = major; argument = Some c.in_ok-argument.argument; length = c.in_ok-argument.length } in
    let begins : BeginsWithHead (drop at input) head = grind (arith, common_steps) in
    let i = integer_there major c.in_ok-argument.argument c.in_ok-argument.length input at low c.requires begins in
    (i.0, i.1, i.2 ∙ ap Some (sym c.in_ok-value.ensures.value ∙ sym (to_z-of_z w64 c.in_ok-value.value c.in_ok-value.ensures.fits)))

pub returns-then-initial-ge-BYTES-clause-none : goal.returns-then-initial-ge-BYTES-clause-none
returns-then-initial-ge-BYTES-clause-none c = λ z e h fits.
    let input = c.args.input.now in
    let at = c.args.at in
    let low = integer_first h.0 z input at e h.2 h.1 in
    let same : get_or (take (length input - at) (drop at input)) 0 0 ≡ get_or (drop at input) 0 0 = grind (arith, common_steps) in
    omega (arith, low, same, c.if-initial-ge-BYTES.true)

pub returns-in_err-argument-clause-none : goal.returns-in_err-argument-clause-none
returns-in_err-argument-clause-none c =
    let input = c.args.input.now in
    let at = c.args.at in
    let here = take (length input - at) (drop at input) in
    let whole : get_or here 0 0 ∷ take (length here - 1) (drop 1 here) ≡ drop at input = grind (arith, common_steps) in
    let fault = subst (λ l. IsCutHead l ⊎ IsBrokenHead l) whole c.in_err-argument.ensures.none in
    rw c.from_residual.ensures (λ z e h fits. no_integer_head input at fault z e h)

pub returns-in_err-value-clause-none : goal.returns-in_err-value-clause-none
returns-in_err-value-clause-none c =
    let input = c.args.input.now in
    let at = c.args.at in
    let major = get_or (take (length input - at) (drop at input)) 0 0 / 32 in
    let low : major ≤ 1 = omega (arith, c.if-initial-ge-BYTES.false) in
    let head : HeadRead = record { major = major; argument = Some c.in_ok-argument.argument; length = c.in_ok-argument.length } in
    let begins : BeginsWithHead (drop at input) head = grind (arith, common_steps) in
    let i = integer_there major c.in_ok-argument.argument c.in_ok-argument.length input at low c.requires begins in
    rw c.from_residual-in_err-value.ensures (λ z e h fits.
    c.in_err-value.ensures.none (subst (FitsSigned w64) (one_integer input at z (number_of major c.in_ok-argument.argument) e _ h i) fits))
