use Rattle.std.proofs.Common.{◌≡◌, true, false, sym, subst, ◌∙◌}
use Rattle.smithy_cbor_values.specs.Standing.{Follows}
use Rattle.smithy_cbor_values.proofs.ScalarReads.{no_boolean_at, same_boolean_end, unless}
use Rattle.smithy_cbor_values.proofs.values.boolean_at.Goals.{in-Ok, in-Err}
use Rattle.smithy_cbor_values.proofs.values.boolean_at.Goals as goal

pub returns-clause-none : goal.returns-clause-none
returns-clause-none c =
    let start = c.decoder_at-decoder.ensures in
    elim c.match-boolean.branch [
      | in-Ok w ↦
          let stands = rw (start.input, start.position, ← w.position-end.ensures) at w.in-Ok.ensures.read.stands in
          rw (w.result-is, w.then_some.ensures) (unless w.may_end.result _ _ (λ ends b e h.
          let same = same_boolean_end c.args.input.now c.args.at b _ c.args.depth e w.position-end.result h stands in
          let may : w.may_end.result ≡ true = w.may_end.ensures.1 (subst (Follows c.args.depth c.args.input.now) same h.1) in
          let both : true ≡ false = sym may ∙ ends in
          cc))
      | in-Err w ↦
          let cause = w.in-Err.ensures.refused.cause in
          rw w.result-is (λ b e. no_boolean_at c.args.input.now c.args.at w.in-Err.field-0.kind (rw (start.input, start.position) at cause) b c.args.depth e)
    ]
