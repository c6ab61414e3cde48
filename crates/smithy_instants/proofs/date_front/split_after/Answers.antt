use Rattle.std.proofs.Common.{◌≡◌, ◌<◌, length, take, drop, sym, ap, subst, ◌∙◌, nat_eq, false, arith}
use Rattle.std.proofs.lemmas.Bool.Decides.{nat_tests}
use Rattle.std.specs.Str.{IsCharBoundary}
use Rattle.smithy_instants.proofs.DelimiterLemmas.{front_within, rest_is}
use Rattle.smithy_instants.proofs.date_front.split_after.Goals as goal

-- the text may be cut behind each front
pub returns-then-not-is_char_boundary-clause-only : goal.returns-then-not-is_char_boundary-clause-only
returns-then-not-is_char_boundary-clause-only c = λ front rest size part is.
    let within = front_within c.args.delim c.args.s.now front rest is in
    let cut = c.if-not-is_char_boundary.ensures.test.1 (subst (IsCharBoundary c.args.s.now) size (within.boundary c.utf8.s part)) in absurd (cc)

pub returns-clause-only : goal.returns-clause-only
returns-clause-only c = λ front rest size part is.
    let text = c.args.s.now in
    let within = front_within c.args.delim text front rest is in
    let behind : drop (length front) text ≡ c.split_at.result.1.now = ap (λ n. drop n text) size ∙ sym c.split_at.ensures.back in
    let stripped = c.in_ok-strip_prefix.ensures.cases in
    let empty : nat_eq (length c.split_at.result.1.now) 0 ≡ false = sym c.is_empty.ensures ∙ c.if-is_empty.false in
    let some : 0 < length c.split_at.result.1.now = grind (arith, nat_tests) in (
      c.split_at.ensures.front ∙ ap (λ n. take n text) (sym size) ∙ within.front_is,
      stripped.2 ∙ rest_is c.args.delim text front rest (drop stripped.0 c.split_at.result.1.now) is (subst (λ l. 0 < length l) (sym behind) some) (behind ∙ stripped.1.split),
    )
