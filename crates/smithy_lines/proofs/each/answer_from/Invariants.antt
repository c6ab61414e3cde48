use Rattle.std.proofs.Common.{◌≡◌, ◌<◌, ◌⊎◌, ℕ, List, length, false}
use Rattle.smithy_outside.specs.Outside.{MetNoFault, Gave}
use Rattle.smithy_lines.specs.Sources.{AnswersUpTo}
use Rattle.smithy_lines.specs.Private.SoFar.{HasBegun}
use Rattle.smithy_lines.proofs.each.answer_from.Given as goal

-- the lines so far of what the source gave so far
abbrev pub invariant-loop : goal.invariant-loop
invariant-loop g l =
    let source = g.S.Source.told in
    record {
      begun : (taken : List ℕ) × Gave taken (source l.fn.source) (source l.source)
          × HasBegun (AnswersUpTo l.longest (g.A.AnswerLine.answers l.fn.answers) (g.A.AnswerLine.refuses l.fn.answers)) l.longest taken l.held.items l.batch (g.K.Sink.told l.fn.out) (g.K.Sink.told l.out);
      no_fault : MetNoFault (source l.fn.source) (source l.source);
      room : 0 < length l.buffer;
      passed_on : (g.K.Sink.holds_back l.out ≡ false) ⊎ (l.out ≡ l.fn.out);
    }
