use Rattle.std.proofs.Common.{◌-◌, ◌≤◌, ℕ, length}
use Rattle.smithy_shapes.specs.Site.{site_of, kind_at}
use Rattle.smithy_cbor_values.specs.Standing.{mark_with}
use Rattle.smithy_cbor_codec.specs.Private.PassedEntries.{Passes}
use Rattle.smithy_cbor_codec.proofs.members.next_present.Given as goal

-- what came before is passed over
abbrev pub invariant-loop-end : goal.invariant-loop-end
invariant-loop-end l = record {
  within : l.at ≤ length l.input;
  passes : (count : ℕ) × Passes l.drops_nulls (kind_at (site_of l.schema)) count l.input l.depth (l.fn.at) (mark_with l.fn.due) l.at (mark_with l.due);
}

abbrev pub decreases-loop-end : goal.decreases-loop-end
decreases-loop-end l = length l.input - l.at
