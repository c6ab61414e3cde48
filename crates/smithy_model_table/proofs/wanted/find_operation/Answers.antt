use Rattle.std.proofs.Common.{◌∙◌, List, ℕ, Bor, map, sym, ap, subst}
use Rattle.std.specs.Prelude.{option_map}
use Rattle.smithy_model.specs.declared.model.Operation as kept
use Rattle.smithy_model.specs.Views.{model_view, operation_view}
use Rattle.smithy_model_table.specs.Wanted.{IsOnly}
use Rattle.smithy_model_table.proofs.Found.{operation_found, operation_there}
use Rattle.smithy_model_table.proofs.wanted.find_operation.Goals as goal

pub returns-clause-found : goal.returns-clause-found
returns-clause-found c =
    let only = subst (λ (ids : List (List ℕ)). IsOnly ids c.args.name.now c.in-Some.number) c.in_ok-ids.ensures
    (subst (λ (ids : List (Bor (List ℕ))). IsOnly (map (λ t. t.now) ids) c.args.name.now c.in-Some.number) c.deref.ensures.value c.in-Some.ensures.only) in
    operation_found (λ (o : Bor kept.Operation). operation_view o.now) (model_view c.args.model.now) c.args.name.now c.in-Some.number only c.operation_at.result
    c.operation_at.ensures

pub returns-clause-lacks : goal.returns-clause-lacks
returns-clause-lacks c =
    let only = subst (λ (ids : List (List ℕ)). IsOnly ids c.args.name.now c.in-Some.number) c.in_ok-ids.ensures
    (subst (λ (ids : List (Bor (List ℕ))). IsOnly (map (λ t. t.now) ids) c.args.name.now c.in-Some.number) c.deref.ensures.value c.in-Some.ensures.only) in
    λ none. absurd (operation_there (model_view c.args.model.now) c.args.name.now c.in-Some.number only (sym c.operation_at.ensures ∙ ap (option_map (λ (o : Bor kept.Operation). operation_view o.now)) none))
