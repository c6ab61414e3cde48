-- A number that no head holds goes into bytes.
use Rattle.std.proofs.Common.{◌++◌, ◌∙◌, ℕ, List, ap, subst, sym}
use Rattle.smithy_cbor.specs.Written.{without_leading_zeros, byte_string_bytes}
use Rattle.cbor_item.specs.Head.{shortest_head}
use Rattle.cbor_item.specs.Writing.{Appends}
use Rattle.smithy_cbor.proofs.WrittenLemmas.{beyond_heads}
use Rattle.smithy_cbor.proofs.encoder.Encoder.magnitude.Goals as goal

pub returns-else-n-lt18446744073709551616 : goal.returns-else-n-lt18446744073709551616
returns-else-n-lt18446744073709551616 c =
    let bytes = ap (λ b. shortest_head 6 c.args.tag ++ byte_string_bytes (without_leading_zeros b)) c.to_be_bytes.ensures in
    let same = bytes ∙ sym (beyond_heads c.args.major c.args.tag c.args.n c.if-n-lt18446744073709551616.false) in
    subst (λ (l : List ℕ). Appends l c.args.self.now c.bignum.result c.bignum.new.self) same c.bignum.ensures
