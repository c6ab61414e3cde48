use Rattle.std.proofs.Common.{◌≡◌, true, false, sym, subst, ◌∙◌}
use Rattle.smithy_cbor_values.specs.Standing.{Follows}
use Rattle.smithy_cbor_values.proofs.TextLemmas.{one_text_at}
use Rattle.smithy_cbor_values.proofs.values.text_piece_at.Goals as goal

pub returns-in_default-clause-found : goal.returns-in_default-clause-found
returns-in_default-clause-found c =
    let none = rw c.in_default.is at c.in_ok-text.ensures.found in
    λ text e h follows. none text e h

pub returns-then-not-may_end-clause-found : goal.returns-then-not-may_end-clause-found
returns-then-not-may_end-clause-found c = λ text e h follows.
    let there = rw c.in-Some.is at c.in_ok-text.ensures.found in
    let same = one_text_at c.args.input.now c.args.at text _ e _ h there in
    let may : c.may_end.result ≡ true = c.may_end.ensures.1 (subst (λ end. Follows c.args.depth c.args.input.now end) same.1 follows) in
    let both : true ≡ false = sym may ∙ c.if-not-may_end.true in cc
