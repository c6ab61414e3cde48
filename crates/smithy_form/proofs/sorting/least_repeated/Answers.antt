use Rattle.std.proofs.Common.{arith}
use Rattle.smithy_form.proofs.SortLemmas.{none_at_end}
use Rattle.smithy_form.proofs.sorting.least_repeated.Goals as goal

pub loop-at-init : goal.loop-at-init
loop-at-init c = (none_at_end c.args.pairs.now, omega arith)
