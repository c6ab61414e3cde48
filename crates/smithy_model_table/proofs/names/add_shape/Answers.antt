use Rattle.std.proofs.Common.{◌≡◌, ◌∙◌, ℕ, List, bytes_eq, true, false, sym, subst}
use Rattle.std.proofs.lemmas.Result.{on_ok_weaker}
use Rattle.smithy_model.specs.Views.{shape_view}
use Rattle.smithy_model_table.specs.Roles.{has_id, Gains}
use Rattle.smithy_model_table.proofs.Shared.{undeclared_more, shared_name, new_name}
use Rattle.smithy_model_table.proofs.names.add_shape.Goals as goal

pub returns-then-not-is_declared : goal.returns-then-not-is_declared
returns-then-not-is_declared c = λ before so_far. undeclared_more before (shape_view c.args.shape.now) (sym c.is_declared.ensures ∙ c.if-not-is_declared.true) so_far

pub returns-then-contains : goal.returns-then-contains
returns-then-contains c =
    let declared = sym c.is_declared.ensures ∙ c.if-not-is_declared.false in
    let is : has_id c.args.there.now c.name_in-name.result.now ≡ true = sym c.contains.ensures ∙ c.if-contains.true in
    on_ok_weaker c.add_id.result
    (λ gains before so_far. shared_name before (shape_view c.args.shape.now) declared (subst (λ name. has_id c.args.there.now name ≡ true) c.name_in-name.ensures is)
    (subst (λ name. Gains (λ (other : List ℕ). bytes_eq name other) (has_id c.args.shared.now) (has_id c.add_id.new.ids)) c.name_in-name.ensures gains) so_far)
    c.add_id.ensures

pub returns : goal.returns
returns c =
    let declared = sym c.is_declared.ensures ∙ c.if-not-is_declared.false in
    let is : has_id c.args.there.now c.name_in-name.result.now ≡ false = sym c.contains.ensures ∙ c.if-contains.false in
    on_ok_weaker c.add_id-2.result
    (λ gains before so_far. new_name before (shape_view c.args.shape.now) declared (subst (λ name. has_id c.args.there.now name ≡ false) c.name_in-name.ensures is)
    (subst (λ name. Gains (λ (other : List ℕ). bytes_eq name other) (has_id c.args.there.now) (has_id c.add_id-2.new.ids)) c.name_in-name.ensures gains) so_far)
    c.add_id-2.ensures
