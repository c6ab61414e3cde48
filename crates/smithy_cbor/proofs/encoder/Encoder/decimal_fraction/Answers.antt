-- One write behind another.
use Rattle.std.proofs.Common.{◌≡◌, ◌++◌, ℤ, length, ap, arith, subst, to_z, of_z}
use Rattle.std.specs.Int.{w64, w128}
use Rattle.std.proofs.lemmas.Int.{to_z-of_z}
use Rattle.cbor_item.specs.Head.{shortest_head}
use Rattle.cbor_item.specs.Writing.{Appends}
use Rattle.smithy_cbor.specs.Written.{integer_bytes, big_integer_bytes}
use Rattle.smithy_cbor.proofs.WrittenLemmas.{two_writes}
use Rattle.smithy_cbor.proofs.encoder.Encoder.decimal_fraction.Goals as goal

pub returns-clause-appends : goal.returns-clause-appends
returns-clause-appends c =
    let rest = c.pair-rest in
    let back = c.or_take_back in
    let x = to_z w64 (of_z w64 c.args.exponent) in
    let m = to_z w128 (of_z w128 c.args.mantissa) in
    let start : c.len-start.result ≡ length c.args.self.now = omega (arith, c.len-start.ensures, ap length c.self.view_is) in
    let both = two_writes c.args.self.now (shortest_head 6 4) (shortest_head 4 2 ++ (integer_bytes x ++ big_integer_bytes m)) c.tag.new.self rest.new.self back.new.self rest.result back.result
    c.len-start.result start c.in_ok-tag.ensures.ok rest.ensures.ok rest.ensures.err back.ensures.same back.ensures.ok back.ensures.err in
    let P : ℤ → ℤ → Type 0 = λ x m. Appends (shortest_head 6 4 ++ (shortest_head 4 2 ++ (integer_bytes x ++ big_integer_bytes m))) c.args.self.now back.result back.new.self in
    subst (λ (z : ℤ). P z c.args.mantissa) (to_z-of_z w64 c.args.exponent c.ranges.exponent)
    (subst (P x) (to_z-of_z w128 c.args.mantissa c.ranges.mantissa) both)
