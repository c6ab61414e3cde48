use Rattle.std.proofs.Common.{◌≡◌, ◌<◌, ◌∙◌, List, ℕ, length, get_or, set, true, false, sym, subst, rules}
use Rattle.std.specs.Prelude.{Bool}
use Rattle.smithy_model.specs.Views.{model_view, shape_view, kind_view}
use Rattle.smithy_model_table.specs.Leaving.{is_uncarried}
use Rattle.smithy_model_table.specs.Marking.{Marks}
use Rattle.smithy_model_table.proofs.Fewest.{no_mark, one_marked}
use Rattle.smithy_model_table.proofs.marking.mark.Goals as goal

pub returns-in_default : goal.returns-in_default
returns-in_default c = no_mark (model_view c.args.model.now) c.args.marks.now.items c.args.order.now.items

pub returns-then-number-len : goal.returns-then-number-len
returns-then-number-len c = no_mark (model_view c.args.model.now) c.args.marks.now.items c.args.order.now.items

pub returns-then-index : goal.returns-then-index
returns-then-index c = no_mark (model_view c.args.model.now) c.args.marks.now.items c.args.order.now.items

pub returns-then-not-is_uncarried : goal.returns-then-not-is_uncarried
returns-then-not-is_uncarried c = no_mark (model_view c.args.model.now) c.args.marks.now.items c.args.order.now.items

pub returns : goal.returns
returns c =
    let m = model_view c.args.model.now in
    let marks = c.args.marks.now.items in
    let order = c.args.order.now.items in
    let s = c.in-Some.shape.now in
    let inside : c.args.number < length marks = search rules in
    let none : get_or marks c.args.number c.index.result.now ≡ false = sym c.index.ensures ∙ c.if-index.false in
    let is : is_uncarried c.deref.result.now (kind_view s.kind) ≡ true = sym c.is_uncarried.ensures ∙ c.if-not-is_uncarried.false in
    let follows = subst (λ (ms : List Bool). is_uncarried ms (kind_view s.kind) ≡ true) c.deref.ensures.value is in
    subst (λ (os : List ℕ). Marks m marks order (set marks c.args.number true) os) (sym c.in_ok-push.ensures.items)
    (one_marked m marks order c.args.number c.index.result.now (shape_view s) (sym c.in-Some.ensures) inside none follows)
