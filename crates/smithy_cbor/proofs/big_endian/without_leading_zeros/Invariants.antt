use Rattle.std.proofs.Common.{◌≡◌, drop}
use Rattle.smithy_cbor.specs.Written.{without_leading_zeros}
use Rattle.smithy_cbor.proofs.big_endian.without_leading_zeros.Given as goal

-- what comes decides
abbrev pub invariant-loop-at : goal.invariant-loop-at
invariant-loop-at l = without_leading_zeros (drop l.at l.bytes) ≡ without_leading_zeros l.bytes
