use Rattle.std.proofs.Common.{arith}
use Rattle.std.proofs.Math.Nat.{pow-le-pow_right}
use Rattle.smithy_instants.proofs.epoch.few_digits.Goals as goal

pub overflow_mul-value : goal.overflow_mul-value
overflow_mul-value c =
    let most = pow-le-pow_right {n = 10} (omega arith) {i = c.loop-byte.byte-index} {j = 17} (omega (arith, c.if-text-gt18.false, c.loop-byte-test.true)) in
    omega (arith, c.loop-byte.invariant.small, most)

pub overflow_add-value : goal.overflow_add-value
overflow_add-value c =
    let most = pow-le-pow_right {n = 10} (omega arith) {i = c.loop-byte.byte-index} {j = 17} (omega (arith, c.if-text-gt18.false, c.loop-byte-test.true)) in
    omega (arith, c.loop-byte.invariant.small, most, c.from.ensures)
