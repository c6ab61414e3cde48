use Rattle.std.proofs.Common.{◌≡◌, drop}
use Rattle.std.specs.List.{list_any}
use Rattle.smithy_types.specs.Identifier.{is_hash}
use Rattle.smithy_types.proofs.identifier.has_hash.Given as goal

-- what comes decides
abbrev pub invariant-loop-byte : goal.invariant-loop-byte
invariant-loop-byte l = list_any is_hash (drop l.byte-index l.text) ≡ list_any is_hash l.text
