use Rattle.std.proofs.Common.{◌⊎◌, ◌≤◌, ◌<◌, length, slice_range, refl, sym, subst, inl, inr, arith}
use Rattle.smithy_transcode.specs.Wires.{wire_of}
use Rattle.smithy_transcode_c.specs.Bodies.{HasAnswers, IsAnswered, begin_of, end_of}
use Rattle.smithy_transcode_c.proofs.AnswerLemmas.{answers_none, answers_more, answers_some, begin_next}
use Rattle.smithy_transcode_c.proofs.bodies.answer_each.Goals as goal
use Rattle.smithy_transcode_c.proofs.bodies.answer_each.Goals.{then-end-start-via-then-end-start, then-end-start-via-else-end-start+then-inputs-end, then-end-start-via-else-end-start+else-inputs-end+then-out_ends-i, then-end-start-via-else-end-start+else-inputs-end+else-out_ends-i+then-statuses-i}

pub returns-then-end-start : goal.returns-then-end-start
returns-then-end-start c =
    let i = c.loop-i.i in
    let inv = c.loop-i.invariant in
    let ends = c.args.inputs.now.ends.now in
    let why : (end_of ends i < begin_of ends i) ⊎ (length c.args.inputs.now.bytes.now < end_of ends i) ⊎ (length c.args.out_ends.now ≤ i) ⊎ (length c.args.statuses.now ≤ i) =
    elim c.then-end-start.branch [
      | then-end-start-via-then-end-start w ↦ inl (omega (arith, w.if-end-start.true, inv.begins))
      | then-end-start-via-else-end-start+then-inputs-end w ↦ inr (inl w.if-inputs-end.true)
      | then-end-start-via-else-end-start+else-inputs-end+then-out_ends-i w ↦ inr (inr (inl (omega (arith, w.if-out_ends-i.true, c.loop-i.auto.out_ends))))
      | then-end-start-via-else-end-start+else-inputs-end+else-out_ends-i+then-statuses-i w ↦ inr (inr (inr (omega (arith, w.if-statuses-i.true, c.loop-i.auto.statuses))))
    ] in
    answers_some c.in-Ok.meant.root.0 (wire_of c.in-Ok.meant.from) (wire_of c.in-Ok.meant.to) i c.loop-i.at c.loop-i.done c.number-then-end-start.result inv.counted
    c.in-Ok.ensures.meant inv.answers (inr (inl (c.number-then-end-start.ensures, c.loop-i-test.true, why)))

pub returns-in_default : goal.returns-in_default
returns-in_default c =
    let i = c.loop-i.i in
    let inv = c.loop-i.invariant in
    let ends = c.args.inputs.now.ends.now in
    let bytes = c.args.inputs.now.bytes.now in
    let root = c.in-Ok.meant.root.0 in
    let from = wire_of c.in-Ok.meant.from in
    let to = wire_of c.in-Ok.meant.to in
    -- the status and the body of the next, its answer, that it has no room, and that the room stays as it was
    let none = c.in_default.ensures.put in
    let is = subst (λ s. IsAnswered c.args.table.now root from to (slice_range bytes s (end_of ends i)) none.0 none.1) inv.begins none.2 in
    let has = subst (λ l. HasAnswers c.args.table.now root from to (record { ends = ends; bytes = bytes })
    (record { out_ends = c.args.out_ends.now; statuses = c.args.statuses.now; out = c.args.out.now })
    (record { out_ends = c.loop-i.out_ends; statuses = c.loop-i.statuses; out = l }) i c.loop-i.at) (sym none.4) inv.answers in
    answers_some root from to i c.loop-i.at c.loop-i.done 24 inv.counted c.in-Ok.ensures.meant has
    (inr (inr (
      refl,
      c.loop-i-test.true,
      (omega (arith, inv.begins, c.if-end-start.false), omega (arith, c.if-inputs-end.false)),
      omega (arith, c.if-out_ends-i.false, c.loop-i.auto.out_ends),
      omega (arith, c.if-statuses-i.false, c.loop-i.auto.statuses),
      (none.0, none.1, is, omega (arith, none.3, c.loop-i.auto.out)),
    )))

pub loop-i-preserved : goal.loop-i-preserved
loop-i-preserved c =
    let i = c.loop-i.i in
    let inv = c.loop-i.invariant in
    let ends = c.args.inputs.now.ends.now in
    let bytes = c.args.inputs.now.bytes.now in
    -- the body, its answer, where it ends, that it has room, and what the room holds then
    let some = c.in-Some.ensures.put in
    let is = subst (λ s. IsAnswered c.args.table.now c.in-Ok.meant.root.0 (wire_of c.in-Ok.meant.from) (wire_of c.in-Ok.meant.to)
    (slice_range bytes s (end_of ends i)) c.in-Some.status some.0) inv.begins some.1 in
    record {
      answers = answers_more (record { out_ends = c.loop-i.out_ends; statuses = c.loop-i.statuses; out = c.loop-i.out }) i c.loop-i.at c.in-Some.next c.in-Some.status some.0
          c.put_next.new.out inv.answers (omega (arith, inv.begins, c.if-end-start.false), omega (arith, c.if-inputs-end.false)) is some.2 some.3 (omega (arith, c.if-out_ends-i.false)) (omega (arith, c.if-statuses-i.false)) some.4;
      begins = sym (begin_next ends i);
      counted = refl;
      within = omega (arith, some.3, c.put_next.auto.out);
    }

pub returns : goal.returns
returns c =
    answers_some c.in-Ok.meant.root.0 (wire_of c.in-Ok.meant.from) (wire_of c.in-Ok.meant.to) c.loop-i.i c.loop-i.at c.loop-i.done 0 c.loop-i.invariant.counted
    c.in-Ok.ensures.meant c.loop-i.invariant.answers (inl (refl, omega (arith, c.loop-i-test.false, c.loop-i.auto.i-end)))

pub loop-i-init : goal.loop-i-init
loop-i-init c = record {
  answers = answers_none c.args.table.now c.in-Ok.meant.root.0 (wire_of c.in-Ok.meant.from) (wire_of c.in-Ok.meant.to) _ _;
  begins = refl;
  counted = refl;
  within = omega arith;
}
