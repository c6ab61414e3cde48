-- One write behind another.
use Rattle.std.proofs.Common.{◌≡◌, ◌++◌, ℤ, length, ap, arith, subst, to_z, of_z}
use Rattle.std.specs.Int.{w64, w128}
use Rattle.std.proofs.lemmas.Int.{to_z-of_z}
use Rattle.cbor_item.specs.Writing.{Appends}
use Rattle.smithy_cbor.specs.Written.{integer_bytes, big_integer_bytes}
use Rattle.smithy_cbor.proofs.WrittenLemmas.{two_writes}
use Rattle.smithy_cbor.proofs.encoder.Encoder.parts.Goals as goal

pub returns : goal.returns
returns c =
    let rest = c.whole-rest in
    let back = c.or_take_back in
    let x = to_z w64 (of_z w64 c.args.exponent) in
    let m = to_z w128 (of_z w128 c.args.mantissa) in
    let start : c.len-start.result ≡ length c.args.self.now = omega (arith, c.len-start.ensures, ap length c.self.view_is) in
    let both = two_writes c.args.self.now (integer_bytes x) (big_integer_bytes m) c.long.new.self rest.new.self back.new.self rest.result back.result
    c.len-start.result start c.in_ok-long.ensures.ok rest.ensures.appends.ok rest.ensures.appends.err back.ensures.same back.ensures.ok back.ensures.err in
    let P : ℤ → ℤ → Type 0 = λ x m. Appends (integer_bytes x ++ (big_integer_bytes m)) c.args.self.now back.result back.new.self in
    subst (λ (z : ℤ). P z c.args.mantissa) (to_z-of_z w64 c.args.exponent c.ranges.exponent)
    (subst (P x) (to_z-of_z w128 c.args.mantissa c.ranges.mantissa) both)
