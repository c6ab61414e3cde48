use Rattle.std.proofs.Common.{map, take}
use Rattle.smithy_model_table.proofs.Found.{IsSoFar}
use Rattle.smithy_model_table.proofs.finding.place_of_only.Given as goal

-- what was found so far
abbrev pub invariant-loop-number : goal.invariant-loop-number
invariant-loop-number l = IsSoFar (map (λ t. t.now) l.ids) (map (λ t. t.now) (take l.number l.ids)) l.name l.found
