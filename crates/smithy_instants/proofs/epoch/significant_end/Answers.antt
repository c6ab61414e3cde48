use Rattle.std.proofs.Common.{◌≡◌, ◌+◌, ◌-◌, ◌*◌, ◌^◌, ◌<◌, length, take, sym, ◌∙◌, ap, arith, inr, subst, ℕ, ◌≢◌, ◌%◌}
use Rattle.smithy_texts.specs.Numeral.{magnitude}
use Rattle.smithy_texts.proofs.NumeralLemmas.{zero_more, none_more, significant_more}
use Rattle.smithy_instants.proofs.epoch.significant_end.Goals as goal
use Rattle.smithy_instants.proofs.epoch.significant_end.Goals.{then-text-end-eq48, else-text-end-eq48}

pub loop-end-preserved : goal.loop-end-preserved
loop-end-preserved c =
    let text = c.args.text.now in
    let i = c.loop-end.end - 1 in
    let within : i < length text = omega arith in
    let next : i + 1 ≡ c.loop-end.end = omega arith in
    let before : magnitude text ≡ magnitude (take (i + 1) text) * 10 ^ c.loop-end.zeros = c.loop-end.invariant.value ∙ ap (λ n. magnitude (take n text) * 10 ^ c.loop-end.zeros) (sym next) in
    elim c.if-text-end-eq48.branch [
      | then-text-end-eq48 w ↦ record {
        within = omega (arith, w.zeros-is);
        value = before ∙ zero_more text i c.loop-end.zeros within w.if-text-end-eq48.true ∙ ap (λ z. magnitude (take i text) * 10 ^ z) (sym w.zeros-is);
      }
      | else-text-end-eq48 w ↦ record {
        within = omega (arith, w.zeros-is);
        value = before ∙ ap (λ n. n * 10 ^ c.loop-end.zeros) (none_more text i within (sym c.is_significant.ensures ∙ c.if-not-is_significant.true) w.if-text-end-eq48.false) ∙ ap (λ z. magnitude (take i text) * 10 ^ z) (sym w.zeros-is);
      }
    ]

pub returns-else-not-is_significant-clause-last : goal.returns-else-not-is_significant-clause-last
returns-else-not-is_significant-clause-last c =
    let text = c.args.text.now in
    let i = c.loop-end.end - 1 in
    let within : i < length text = omega arith in
    let next : i + 1 ≡ c.loop-end.end = omega arith in
    let P : ℕ → Type 0 = λ n. magnitude (take n text) % 10 ≢ 0 in
    inr (subst P next (significant_more text i within (sym c.is_significant.ensures ∙ c.if-not-is_significant.false)))
