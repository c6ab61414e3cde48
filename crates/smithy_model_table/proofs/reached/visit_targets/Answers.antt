use Rattle.std.proofs.Common.{◌≡◌, ◌∙◌, List, ℕ, map, OnOk, sym, ap, subst}
use Rattle.smithy_model.specs.declared.model.Member as kept
use Rattle.smithy_model.specs.Views.{model_view, member_view}
use Rattle.smithy_model_table.specs.Bindings.{bindings_of, no_bindings}
use Rattle.smithy_model_table.specs.Reaching.{held_targets, targets_at}
use Rattle.smithy_model_table.specs.Visiting.{Visits}
use Rattle.smithy_model_table.specs.Views.{bindings_view}
use Rattle.smithy_model_table.proofs.reached.visit_targets.Goals as goal

pub returns-in-Structure : goal.returns-in-Structure
returns-in-Structure c =
    let marks = c.args.marks.now in
    let same : targets_at (model_view c.args.model.now) marks c.args.number
    ≡ held_targets marks (bindings_view c.bindings_of-counting.result) (map member_view c.deref.result.now) =
    rw (sym c.in-Some.ensures, c.in-Structure.is)
    (sym (ap (λ b. held_targets marks b (map member_view c.deref.result.now)) c.bindings_of-counting.ensures
    ∙ ap (λ (ms : List kept.Member). held_targets marks (bindings_of (model_view c.args.model.now) c.args.number) (map member_view ms)) c.deref.ensures.value)) in
    subst (λ (more : List ℕ). OnOk c.visit_members.result (Visits c.args.seen.now.items c.args.order.now.items c.visit_members.new.seen.items
    c.visit_members.new.order.items more)) (sym same) c.visit_members.ensures

pub returns-in-Union : goal.returns-in-Union
returns-in-Union c =
    let marks = c.args.marks.now in
    let same : targets_at (model_view c.args.model.now) marks c.args.number
    ≡ held_targets marks (bindings_view c.no_bindings.result) (map member_view c.deref-in-Union.result.now) =
    rw (sym c.in-Some.ensures, c.in-Union.is)
    (sym (ap (λ b. held_targets marks b (map member_view c.deref-in-Union.result.now)) c.no_bindings.ensures
    ∙ ap (λ (ms : List kept.Member). held_targets marks no_bindings (map member_view ms)) c.deref-in-Union.ensures.value)) in
    subst (λ (more : List ℕ). OnOk c.visit_members-in-Union.result (Visits c.args.seen.now.items c.args.order.now.items c.visit_members-in-Union.new.seen.items
    c.visit_members-in-Union.new.order.items more)) (sym same) c.visit_members-in-Union.ensures
