use Rattle.std.proofs.Common.{◌≡◌, ◌∙◌, List, ℕ, map, ap, subst}
use Rattle.smithy_model.specs.declared.model.Shape as kept
use Rattle.smithy_model.specs.Reading.{ids_of, AreTargetsNumbered}
use Rattle.smithy_model.specs.Views.{shape_view, model_view, numbers_view}
use Rattle.smithy_model.proofs.links.link_model.Goals as goal

pub returns-in-Ok-clause-linked : goal.returns-in-Ok-clause-linked
returns-in-Ok-clause-linked c =
    let m = model_view c.args.model.now in
    let ids : numbers_view c.in_ok-numbers.numbers ≡ ids_of m.shapes =
    c.in_ok-numbers.ensures ∙ ap (λ (ss : List kept.Shape). ids_of (map shape_view ss)) c.deref.ensures.value in
    subst (λ (known : List (List ℕ)). AreTargetsNumbered known m (model_view c.link_targets.new.model)) ids c.in-Ok.ensures.linked
