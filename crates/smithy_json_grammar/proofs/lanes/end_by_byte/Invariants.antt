use Rattle.std.proofs.Common.{◌≡◌, ◌-◌, ◌≤◌, not, eqb, length}
use Rattle.smithy_json_grammar.specs.Private.Chars.{run_end}
use Rattle.smithy_json_grammar.proofs.lanes.end_by_byte.Given as goal

-- the run goes on where the loop has come
abbrev pub invariant-loop-end : goal.invariant-loop-end
invariant-loop-end g l = record {
  within : l.end ≤ length l.input;
  same_run : run_end (not (eqb g.row.CONTROLS 0)) (not (eqb g.row.ASCII 0)) l.input l.at ≡ run_end (not (eqb g.row.CONTROLS 0)) (not (eqb g.row.ASCII 0)) l.input l.end;
}

abbrev pub decreases-loop-end : goal.decreases-loop-end
decreases-loop-end g l = length l.input - l.end
