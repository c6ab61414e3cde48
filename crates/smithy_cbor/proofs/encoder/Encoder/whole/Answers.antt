-- A number below 0 is -1 less what its absolute value is above 1.
use Rattle.std.proofs.Common.{◌-◌, ◌∙◌, ℕ, List, ap, subst, to_z, of_z}
use Rattle.cbor_item.specs.Writing.{Appends}
use Rattle.std.specs.Int.{w128}
use Rattle.std.proofs.lemmas.Int.{to_z-of_z}
use Rattle.smithy_cbor.specs.Written.{magnitude_bytes, big_integer_bytes}
use Rattle.smithy_cbor.proofs.WrittenLemmas.{below_zero}
use Rattle.smithy_cbor.proofs.encoder.Encoder.whole.Goals as goal

pub returns-else-x-ge0-clause-appends : goal.returns-else-x-ge0-clause-appends
returns-else-x-ge0-clause-appends c =
    let call = c.magnitude-else-x-ge0 in
    let same = ap (λ n. magnitude_bytes 1 3 (n - 1)) c.unsigned_abs.ensures.value ∙ below_zero (to_z w128 (of_z w128 c.args.x)) c.if-x-ge0.false ∙ ap big_integer_bytes (to_z-of_z w128 c.args.x c.ranges.x) in
    subst (λ (l : List ℕ). Appends l c.args.self.now call.result call.new.self) same call.ensures
