use Rattle.std.proofs.Common.{◌≡◌, ◌++◌}
use Rattle.percent_encoding.specs.Iter.{encoded_text}
use Rattle.smithy_query.specs.Percent.{encoded}
use Rattle.smithy_query.proofs.percent.push_encoded.Given as goal

-- what is written, with what the iterator still gives, is the whole
abbrev pub invariant-loop-piece : goal.invariant-loop-piece
invariant-loop-piece l = l.out.items ++ encoded_text l.piece-iterator ≡ l.fn.out.items ++ encoded l.fn.text
