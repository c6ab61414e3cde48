use Rattle.std.proofs.Common.{◌-◌, ◌≤◌, ℕ, length}
use Rattle.smithy_shapes.specs.Site.{site_of}
use Rattle.smithy_json_values.specs.Codec.{held_settings, held_grammar}
use Rattle.smithy_json_codec.specs.Private.MemberSteps.{passing}
use Rattle.smithy_json_codec.specs.Private.PassedEntries.{Passes}
use Rattle.smithy_json_codec.proofs.members.next_present.Given as goal

-- what was gone by are entries that are passed over
abbrev pub invariant-loop-end : goal.invariant-loop-end
invariant-loop-end l = record {
  within : l.at ≤ length l.input.bytes.now;
  passes : (count : ℕ) × Passes (held_grammar l.input.settings) (passing (held_settings l.input.settings) (site_of l.schema)) l.input.settings.max_depth l.depth count l.input.bytes.now l.fn.at l.fn.entered l.at l.entered;
}

abbrev pub decreases-loop-end : goal.decreases-loop-end
decreases-loop-end l = length l.input.bytes.now - l.at
