use Rattle.std.proofs.Common.{◌≡◌, true, false, sym, subst, ◌∙◌}
use Rattle.smithy_cbor_values.specs.Standing.{Follows}
use Rattle.smithy_cbor_values.proofs.ScalarReads.{long_fits, same_whole_end, unless}
use Rattle.smithy_cbor_values.proofs.values.long_at.Goals as goal

pub returns-in_err-value-clause-none : goal.returns-in_err-value-clause-none
returns-in_err-value-clause-none c = rw c.from_residual.ensures (λ n e h. c.in_err-value.ensures.none n e (h.found, h.stands, h.is) (long_fits n h.fits))

pub returns-clause-none : goal.returns-clause-none
returns-clause-none c =
    let found = c.in_ok-value.ensures.found in
    rw c.then_some.ensures (unless c.may_end.result _ _ (λ ends n e h.
    let same = same_whole_end c.args.input.now c.args.at n found.0 c.args.depth e c.in_ok-value.end h found.1 in
    let may : c.may_end.result ≡ true = c.may_end.ensures.1 (subst (Follows c.args.depth c.args.input.now) same h.follows) in
    let both : true ≡ false = sym may ∙ ends in
    cc))
