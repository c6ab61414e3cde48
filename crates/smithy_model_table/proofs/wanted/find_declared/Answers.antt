use Rattle.std.proofs.Common.{List, ℕ, sym, subst}
use Rattle.smithy_model.specs.Views.{model_view}
use Rattle.smithy_model_table.specs.Wanted.{IsIdNamed}
use Rattle.smithy_model_table.proofs.Found.{shape_there}
use Rattle.smithy_model_table.proofs.wanted.find_declared.Goals as goal

pub returns-in_default-shape_at-clause-refused : goal.returns-in_default-shape_at-clause-refused
returns-in_default-shape_at-clause-refused c =
    let named = subst (λ (ids : List (List ℕ)). IsIdNamed ids c.args.name.now c.in-Some.number) c.requires c.in-Some.ensures.found in
    absurd (shape_there (model_view c.args.model.now) c.args.name.now c.in-Some.number named (sym c.in_default-shape_at.ensures))
