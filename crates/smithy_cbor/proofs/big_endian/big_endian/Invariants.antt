use Rattle.std.proofs.Common.{◌≡◌, ◌<◌, ◌^◌, drop}
use Rattle.smithy_cbor.specs.Scalar.{big_endian}
use Rattle.smithy_cbor.proofs.BigEndianLemmas.{big_endian_after}
use Rattle.smithy_cbor.proofs.big_endian.big_endian.Given as goal

-- the bytes that come after the value so far make the whole
abbrev pub invariant-loop-byte : goal.invariant-loop-byte
invariant-loop-byte l = record {
  fits : l.value < 2 ^ 128;
  same : big_endian_after l.value (drop l.byte-index l.bytes) ≡ big_endian l.bytes;
}
