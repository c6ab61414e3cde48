use Rattle.std.proofs.Common.{◌≡◌, ◌+◌, ◌-◌, ◌++◌, List, ℕ, length, take, drop, refl, ap, ◌∙◌, inl, arith}
use borrow.Rule.Slice.PartMut.{post_of, Post-is}
use Rattle.smithy_transcode_c.proofs.AnswerLemmas.{three_stand}
use Rattle.smithy_transcode_c.proofs.reading.hand_out_parts.Goals as goal

-- what a copy to a part of memory leaves there
put : (at count : ℕ) (bytes left before : List ℕ) → left ≡ bytes
    → take at before ++ (left ++ post_of at (at + count - at) before) ≡ take at before ++ (bytes ++ drop (at + count) before)
put at count bytes left before is =
    ap (λ l. take at before ++ (l ++ post_of at (at + count - at) before)) is ∙ ap (λ l. take at before ++ (bytes ++ l)) (Post-is at (at + count) before (omega arith))

pub returns : goal.returns
returns c =
    let a = c.args.action.now in
    let v = c.args.version.now in
    let b = c.args.body.now in
    let first = ap (λ l. l ++ drop (length a) c.args.out.now) c.copy_from_slice.ensures.after in
    inl (
      refl,
      three_stand a v b c.args.out.now _ _ _ (length a + length v) (length a + length v + length b) refl refl
          (omega (arith, c.if-room-action.false, c.if-room-action-2.false, c.if-room-at.false)) first
          (put (length a) (length v) v c.copy_from_slice-2.new.self _ c.copy_from_slice-2.ensures.after)
          (put (length a + length v) (length b) b c.copy_from_slice-3.new.self _ c.copy_from_slice-3.ensures.after),
    )
