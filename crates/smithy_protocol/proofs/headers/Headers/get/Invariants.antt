use Rattle.std.proofs.Common.{◌≡◌, drop, map}
use Rattle.smithy_protocol.specs.Headers.{header_of, value_under}
use Rattle.smithy_protocol.proofs.headers.Headers.get.Given as goal

-- no header so far has the name
abbrev pub invariant-loop-header : goal.invariant-loop-header
invariant-loop-header l = value_under l.name (map header_of (drop l.header-index l.header-items)) ≡ value_under l.name l.self
