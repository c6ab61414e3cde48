use Rattle.std.proofs.Common.{◌≡◌, drop}
use Rattle.std.specs.List.{list_all}
use Rattle.smithy_types.specs.Identifier.{is_name_byte}
use Rattle.smithy_types.proofs.identifier.are_name_bytes.Given as goal

-- what comes decides
abbrev pub invariant-loop-byte : goal.invariant-loop-byte
invariant-loop-byte l = list_all is_name_byte (drop l.byte-index l.text) ≡ list_all is_name_byte l.text
