use Rattle.std.proofs.Common.{Ok, refl, sym, ◌∙◌, subst}
use Rattle.smithy_schema.specs.Writing.{open_list}
use Rattle.smithy_schema.specs.Written.{IsInside}
use Rattle.smithy_schema.proofs.WrittenLemmas.{not_failed}
use Rattle.smithy_schema.proofs.WrittenByHand.{scalar_stays}
use Rattle.reader_rows.proofs.numbers.ElementsWriteElements.write.Goals as goal

pub loop-n-preserved : goal.loop-n-preserved
loop-n-preserved g c =
    let s = g.S.ShapeSerializer in
    let kept = c.loop-n.invariant in
    let told = c.in_ok-write_long.ensures in
    let stays = scalar_stays s.after s.open_in g.met.S.ShapeSerializer.nested open_list (λ outer. refl) _ _ (s.state c.loop-n.sink) _ (Ok tt) kept.inside told.ok in
    record {
      nests = stays ∙ kept.nests;
      inside = subst (IsInside open_list) (sym stays) kept.inside;
      sound = not_failed _ _ told.broken;
    }
