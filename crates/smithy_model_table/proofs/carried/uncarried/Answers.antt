use Rattle.std.proofs.Common.{◌≡◌, ◌∙◌, length, replicate, false, refl, sym, ap, subst, arith, rules}
use Rattle.std.proofs.lemmas.List.{length-map, length-replicate}
use Rattle.smithy_model.specs.Views.{model_view, shape_view}
use Rattle.smithy_model_table.specs.Marking.{AreSupported}
use Rattle.smithy_model_table.proofs.Fewest.{none_marked, none_supported, settled_both}
use Rattle.smithy_model_table.proofs.carried.uncarried.Goals as goal

pub loop-init : goal.loop-init
loop-init c =
    let m = model_view c.args.model.now in
    let shapes = c.args.model.now.shapes.items in
    let none : c.in_ok-marks.marks.items ≡ replicate (length shapes) false = search rules in
    let made = c.in_ok-mark_in_order.ensures.1 in
    record {
      among = λ others settled. made.further others settled (none_marked m c.in_ok-marks.marks.items shape_view shapes refl none others settled);
      supported = made.supported (subst (AreSupported m) (sym none) (none_supported m (length shapes) (omega (arith, length-map shapes shape_view))));
      long = made.long ∙ ap length none ∙ length-replicate (length shapes) false;
    }

pub loop-preserved : goal.loop-preserved
loop-preserved c =
    let held = c.loop.invariant in
    record {
      among = λ others settled. c.mark_more.ensures.further others settled (held.among others settled);
      supported = c.mark_more.ensures.supported held.supported;
      long = c.mark_more.ensures.long ∙ held.long;
    }

pub returns : goal.returns
returns c =
    let held = c.loop.invariant in
    let m = model_view c.args.model.now in
    let marks = c.mark_more.new.marks.items in
    let long : length marks ≡ length m.shapes = c.mark_more.ensures.long ∙ held.long ∙ sym (length-map c.args.model.now.shapes.items shape_view) in
    record {
      settled = settled_both m marks long (c.mark_more.ensures.supported held.supported) (c.mark_more.ensures.closed c.loop-test.false);
      fewest = λ others settled. c.mark_more.ensures.further others settled (held.among others settled);
    }
