use Rattle.std.proofs.Common.{sym, ◌∙◌, arith}
use Rattle.smithy_instants.proofs.LayoutLemmas.{layout_longer}
use Rattle.smithy_instants.proofs.date_text.begins_with_layout.Goals as goal

pub returns-then-at-text-clause-value : goal.returns-then-at-text-clause-value
returns-then-at-text-clause-value c =
    sym (layout_longer c.args.layout.now c.args.text.now c.loop-at.at (omega arith) (omega arith)) ∙ c.loop-at.invariant.same
