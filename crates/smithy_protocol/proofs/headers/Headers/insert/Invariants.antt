use Rattle.std.proofs.Common.{◌≡◌}
use Rattle.smithy_protocol.proofs.HeaderLemmas.{Behind}
use Rattle.smithy_protocol.proofs.headers.Headers.insert.Given as goal

-- nothing is changed, and no header so far has the name
abbrev pub invariant-loop-at : goal.invariant-loop-at
invariant-loop-at l = record {
  same : l.self-inside ≡ l.initial.self-inside;
  behind : Behind l.header l.self-inside.entries.items l.at;
}
