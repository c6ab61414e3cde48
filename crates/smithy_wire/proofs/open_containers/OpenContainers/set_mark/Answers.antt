use Rattle.std.proofs.Common.{◌≡◌, suc, length, ap, arith}
use Rattle.std.proofs.lemmas.Grind.{common_steps}
use Rattle.smithy_wire.specs.OpenContainers.{open_of}
use Rattle.smithy_wire.proofs.OpenContainerLemmas.{last_changed, last_kept}
use Rattle.smithy_wire.proofs.open_containers.OpenContainers.set_mark.Goals as goal

pub returns-in-Some-clause-containers : goal.returns-in-Some-clause-containers
returns-in-Some-clause-containers g c =
    let size : length c.args.self.now.stack.items ≡ suc c.in-Some.innermost = grind (arith, common_steps) in
    last_kept (λ o. open_of o.container) c.args.self.now.stack.items c.in-Some.innermost (record { container = c.index_mut.result.now.container; mark = c.args.mark }) c.index_mut.result.now size (ap (λ o. open_of o.container) c.index_mut.ensures.value)

pub returns-in-Some-clause-marks : goal.returns-in-Some-clause-marks
returns-in-Some-clause-marks g c =
    let size : length c.args.self.now.stack.items ≡ suc c.in-Some.innermost = grind (arith, common_steps) in
    last_changed (λ o. o.mark) c.args.self.now.stack.items c.in-Some.innermost (record { container = c.index_mut.result.now.container; mark = c.args.mark }) size
