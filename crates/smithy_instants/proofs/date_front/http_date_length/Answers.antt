use Rattle.std.proofs.Common.{◌≡◌, drop, ap, ◌∙◌, arith}
use Rattle.smithy_instants.specs.DateText.{fraction_length}
use Rattle.smithy_instants.proofs.DateFrontLemmas.{zone_at, some_iff_same}
use Rattle.smithy_instants.proofs.date_front.http_date_length.Goals as goal

pub end_of_zone-requires : goal.end_of_zone-requires
end_of_zone-requires c =
    let sum = zone_at 25 c.fraction_length.result c.args.text.now c.after-rest.result.now c.after-zone.result.now (omega (arith, c.if-text-lt25.false)) c.after-rest.ensures c.fraction_length.ensures.within c.after-zone.ensures in
    omega arith

pub returns : goal.returns
returns c =
    let sum = zone_at 25 c.fraction_length.result c.args.text.now c.after-rest.result.now c.after-zone.result.now (omega (arith, c.if-text-lt25.false)) c.after-rest.ensures c.fraction_length.ensures.within c.after-zone.ensures in
    let size : c.fraction_length.result ≡ fraction_length (drop 25 c.args.text.now) = c.fraction_length.ensures.value ∙ ap fraction_length c.after-rest.ensures in
    some_iff_same _ _ _ _ _ (λ p. omega arith) (λ q. omega arith) (λ p. omega arith) c.end_of_zone.ensures
