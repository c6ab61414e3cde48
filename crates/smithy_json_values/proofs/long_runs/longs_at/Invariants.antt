use Rattle.std.proofs.Common.{length, ◌-◌, ◌≡◌, ◌≤◌, take, ℕ, ℤ, List, ◌++◌}
use Rattle.smithy_json_values.specs.Private.LongRuns.{LongsAt}
use Rattle.smithy_json_values.proofs.long_runs.longs_at.Given as goal

-- what comes next from here on comes behind what was found
abbrev pub invariant-longs : goal.invariant-longs
invariant-longs l = record {
  room : length l.room ≡ length l.fn.room;
  count : l.count ≤ length l.room;
  within : l.end ≤ length l.input;
  run : (ns : List ℤ) (e : ℕ) → LongsAt l.input l.end l.behind ns e → LongsAt l.input l.fn.at l.fn.entered (take l.count l.room ++ ns) e;
}

abbrev pub decreases-longs : goal.decreases-longs
decreases-longs l = length l.room - l.count
