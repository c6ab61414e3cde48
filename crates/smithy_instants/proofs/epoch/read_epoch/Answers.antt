use Rattle.std.proofs.Common.{rules, sym, ◌∙◌, ap, pos, ◌*ℤ◌, Some}
use Rattle.std.proofs.lemmas.Int.{to_z-of_z}
use Rattle.std.specs.Int.{w64}
use Rattle.smithy_instants.specs.Instant.{nanos_per_second}
use Rattle.smithy_instants.proofs.EpochRoundTrip.{digits_epoch}
use Rattle.smithy_instants.proofs.epoch.read_epoch.Goals as goal

pub returns-in-Some : goal.returns-in-Some
returns-in-Some c =
    let kept = to_z-of_z w64 c.in-Some.seconds c.in-Some.ensures.fits in
    let seconds = kept ∙ c.in-Some.ensures.digits.1 in
    record {
      ok = digits_epoch c.args.text.now c.in-Some.ensures.digits.0 ∙ ap Some (sym (c.from_secs.ensures ∙ ap (λ z. z *ℤ pos nanos_per_second) seconds));
      instant = search rules;
      whole = tt;
      range = tt;
    }
