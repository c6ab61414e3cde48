use Rattle.std.proofs.Common.{◌≡◌, ◌<◌, ◌≤◌, List, length, map, take, take_all, get_or, subst, rules}
use Rattle.smithy_model.specs.declared.model.Operation as kept
use Rattle.smithy_model.specs.Model.{Operation}
use Rattle.smithy_model.specs.Views.{operation_view}
use Rattle.smithy_model_table.specs.Roles.{AreNamedBy}
use Rattle.smithy_model_table.proofs.Shared.{next_of}
use Rattle.smithy_model_table.proofs.roles.Roles.of.Goals as goal

pub loop-operation-preserved : goal.loop-operation-preserved
loop-operation-preserved c =
    let same = c.deref-operation-items.ensures.value in
    let ws = c.args.model.now.operations.items in
    let i = c.loop-operation.operation-index in
    let within = subst (λ xs. i < length xs) same c.loop-operation-test.true in
    let is = subst (λ xs. c.operation-item.result ≡ get_or xs i c.operation-item.result) same c.operation-item.is in
    subst (λ (os : List Operation). AreNamedBy os c.add_operation.new.self) (next_of operation_view ws i c.operation-item.result within is)
    (c.in_ok-add_operation.ensures (map operation_view (take i ws)) c.loop-operation.invariant)

pub returns : goal.returns
returns c =
    let ws = c.args.model.now.operations.items in
    let all : length ws ≤ c.loop-operation.operation-index = search rules in
    let held = subst (λ (os : List kept.Operation). AreNamedBy (map operation_view os) c.loop-operation.roles) (take_all c.loop-operation.operation-index ws all) c.loop-operation.invariant in
    λ is. record { inputs = held.inputs; outputs = held.outputs; errors = held.errors; nested = c.in_ok-roles.ensures }
