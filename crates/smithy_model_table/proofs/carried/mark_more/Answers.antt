use Rattle.std.proofs.Common.{◌≡◌, ◌<◌, ◌≤◌, ◌∙◌, List, length, length-set, true, refl, sym, subst, true≢false, arith, rules}
use Rattle.std.specs.Prelude.{Bool}
use Rattle.std.proofs.lemmas.List.{length-map}
use Rattle.std.proofs.lemmas.Option.{slice_get_within}
use Rattle.smithy_model.specs.declared.model.Shape as kept
use Rattle.smithy_model.specs.Views.{model_view, kind_view, shape_view}
use Rattle.smithy_model_table.specs.Leaving.{is_uncarried}
use Rattle.smithy_model_table.proofs.Fewest.{mark_one, supported_more, one_unmarked, shape_found}
use Rattle.smithy_model_table.proofs.carried.mark_more.Goals as goal

pub loop-number-preserved : goal.loop-number-preserved
loop-number-preserved c =
    let m = model_view c.args.model.now in
    let shapes = c.args.model.now.shapes.items in
    let marks = c.loop-number.marks.items in
    let i = c.loop-number.number in
    let held = c.loop-number.invariant in
    let s = c.index-in-loop-number.result.now in
    let within : i < length shapes = search rules in
    let within_marks : i < length marks = omega (arith, within, held.long, c.requires) in
    let is : is_uncarried c.deref.result.now (kind_view s.kind) ≡ true = sym c.is_uncarried.ensures ∙ c.if-not-is_uncarried.false in
    let follows = subst (λ (ms : List Bool). is_uncarried ms (kind_view s.kind) ≡ true) c.deref.ensures.value is in
    let one = one_unmarked marks i c.index.result.now within_marks (sym c.index.ensures ∙ c.if-index.false) in
    record {
      further = mark_one m c.args.marks.now.items marks shape_view shapes i s refl within
          (subst (λ (x : kept.Shape). is_uncarried marks (kind_view x.kind) ≡ true) c.index-in-loop-number.ensures follows) held.further;
      supported = λ first. supported_more m marks i (shape_view s) (shape_found shape_view shapes i s within c.index-in-loop-number.ensures) follows (held.supported first);
      long = length-set marks i true ∙ held.long;
      no_more = omega (arith, one, held.no_more);
      fewer = λ found. omega (arith, one, held.no_more);
      closed = λ none. absurd (true≢false none);
    }

pub returns : goal.returns
returns c =
    let held = c.loop-number.invariant in
    let m = model_view c.args.model.now in
    let far : length c.args.model.now.shapes.items ≤ c.loop-number.number = search rules in
    record {
      further = held.further;
      supported = held.supported;
      long = held.long;
      fewer = held.fewer;
      closed = λ none k s at.
          held.closed none k s (omega (arith, far, slice_get_within m.shapes k s at, length-map c.args.model.now.shapes.items shape_view)) at;
    }
