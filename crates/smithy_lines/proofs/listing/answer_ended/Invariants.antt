use Rattle.std.proofs.Common.{◌≤◌, ◌-◌, ℕ, List, drop, length}
use Rattle.smithy_outside.specs.Outside.{Shown}
use Rattle.smithy_lines.specs.Private.SoFar.{IsRest}
use Rattle.smithy_lines.proofs.listing.answer_ended.Given as goal

-- what is left of the bytes stands from here on
abbrev pub invariant-loop-len : goal.invariant-loop-len
invariant-loop-len g l = record {
  within : l.at ≤ length l.bytes;
  rest : (taken : List ℕ) (start : Shown) → IsRest (g.A.AnswerLine.answers l.answers) taken l.fn.bytes l.fn.batch start (g.K.Sink.told l.fn.out)
      → IsRest (g.A.AnswerLine.answers l.answers) taken (drop l.at l.bytes) l.batch start (g.K.Sink.told l.out);
}

abbrev pub decreases-loop-len : goal.decreases-loop-len
decreases-loop-len g l = length l.bytes - l.at
