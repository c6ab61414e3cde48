use Rattle.std.proofs.Common.{◌+◌, ◌*◌, get_or, drop, arith}
use Rattle.smithy_cbor.proofs.BigEndianLemmas.{after_step, after_grows, after_nothing}
use Rattle.smithy_cbor.proofs.big_endian.big_endian.Goals as goal

pub loop-byte-init : goal.loop-byte-init
loop-byte-init c = record { fits = omega arith; same = after_nothing c.args.bytes.now }

pub returns-in_err-checked_mul : goal.returns-in_err-checked_mul
returns-in_err-checked_mul c =
    let l = c.loop-byte in
    let bytes = c.args.bytes.now in
    let step = after_step bytes l.byte-index l.value c.loop-byte-test.true in
    let grows = after_grows (l.value * 256 + get_or bytes l.byte-index 0) (drop (l.byte-index + 1) bytes) in
    rw c.from_residual.ensures (λ fits. omega (arith, l.invariant.same, step, grows, c.in_err-checked_mul.ensures))
