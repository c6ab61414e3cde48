use Rattle.std.proofs.Common.{not, eqb}
use Rattle.smithy_json_grammar.proofs.LaneLemmas.{run_bound}
use Rattle.smithy_json_grammar.proofs.lanes.run_end.Goals as goal

pub returns-then-input-at-lt32-clause-bound : goal.returns-then-input-at-lt32-clause-bound
returns-then-input-at-lt32-clause-bound g c = rw c.end_in_few.ensures (run_bound (not (eqb g.row.CONTROLS 0)) (not (eqb g.row.ASCII 0)) c.args.input.now c.args.at c.requires)

pub returns-in-Some-clause-bound : goal.returns-in-Some-clause-bound
returns-in-Some-clause-bound g c = rw c.in-Some.ensures.found (run_bound (not (eqb g.row.CONTROLS 0)) (not (eqb g.row.ASCII 0)) c.args.input.now c.args.at c.requires)

pub returns-clause-bound : goal.returns-clause-bound
returns-clause-bound g c = rw c.end_in_many.ensures (run_bound (not (eqb g.row.CONTROLS 0)) (not (eqb g.row.ASCII 0)) c.args.input.now c.args.at c.requires)
