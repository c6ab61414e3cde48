use Rattle.std.proofs.Common.{take, ℤ, List, [], refl, subst}
use Rattle.std.proofs.lemmas.List.{append-nil}
use Rattle.smithy_json_values.specs.Private.LongRuns.{LongsAt}
use Rattle.smithy_json_values.proofs.long_runs.longs_at.Goals as goal

-- there is no more room
pub returns-after-longs-clause-run : goal.returns-after-longs-clause-run
returns-after-longs-clause-run c =
    subst (λ (ns : List ℤ). LongsAt c.args.input.now c.args.at c.args.entered ns c.longs.end) (append-nil (take c.longs.count c.longs.room)) (c.longs.invariant.run [] _ refl)

-- no integer comes next
pub returns-in_default-clause-run : goal.returns-in_default-clause-run
returns-in_default-clause-run c =
    subst (λ (ns : List ℤ). LongsAt c.args.input.now c.args.at c.args.entered ns c.longs.end) (append-nil (take c.longs.count c.longs.room)) (c.longs.invariant.run [] _ refl)
