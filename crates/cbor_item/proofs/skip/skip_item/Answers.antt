-- What skipping finds, by the states that it goes through.
use Rattle.std.proofs.Common.{◌≡◌, drop, length, List, subst, sym, ◌∙◌}
use Rattle.std.specs.Prelude.{Err}
use Rattle.std.proofs.lemmas.List.{nil_from_length}
use Rattle.std.proofs.lemmas.Result.{err_from_is_err_and}
use Rattle.cbor_item.specs.declared.skip.Due.{Due}
use Rattle.cbor_item.specs.Private.Skip.{at_item, stack_of, IsStepAnswer}
use Rattle.cbor_item.proofs.SkipLemmas.{fault_there, all_skipped, popped}
use Rattle.cbor_item.proofs.SkipSteps.{step_through}
use Rattle.cbor_item.proofs.skip.skip_item.Goals as goal

pub returns-in_err-end-clause-fault : goal.returns-in_err-end-clause-fault
returns-in_err-end-clause-fault c =
    let p = err_from_is_err_and c.from_residual.result c.from_residual.ensures.1 in
    let P : List Due → Type 0 = λ l. IsStepAnswer (at_item (stack_of l) (drop c.args.at c.args.input.now)) c.skip_head.new.due.items c.args.input.now (Err c.in_err-end.field-0.0) in
    rw (p.1, p.2) (fault_there c.args.input.now c.args.at c.skip_head.new.due.items c.in_err-end.field-0.0 (subst P c.new-due.ensures.items c.in_err-end.ensures.step))

pub returns-in_err-end-2-clause-fault : goal.returns-in_err-end-2-clause-fault
returns-in_err-end-2-clause-fault c =
    let r = c.from_residual-in_err-end-2 in
    let p = err_from_is_err_and r.result r.ensures.1 in
    let e = c.in_err-end-2.field-0.0 in
    let from = popped c.args.input.now c.args.at c.open.end c.open.due.items c.pop.new.self.items c.in-Some.innermost c.in-Some.ensures.items c.open.invariant.reaches in
    rw (p.1, p.2) (fault_there c.args.input.now c.args.at c.go_on.new.due.items e (step_through _ _ c.go_on.new.due.items c.args.input.now (Err e) from c.in_err-end-2.ensures.step))

pub returns-clause-found : goal.returns-clause-found
returns-clause-found c =
    let none : length c.open.due.items ≡ 0 = sym c.open.due.ok.0 ∙ c.in_default.ensures.cases.0 in
    all_skipped c.args.input.now c.args.at c.open.end c.open.due.items c.requires c.open.invariant.within (nil_from_length c.open.due.items none) c.open.invariant.reaches
