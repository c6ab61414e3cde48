use Rattle.std.proofs.Common.{eq-eqb, refl}
use Rattle.std.proofs.lemmas.Bool.{eqb-true}
use Rattle.smithy_json_values.proofs.FirstBytePlaces.{reaches_end, ends_there}
use Rattle.smithy_json_values.proofs.places.is_over.Goals as goal

pub returns-else-settings : goal.returns-else-settings
returns-else-settings c =
    rw c.if-settings.false (
      λ h. (c.requires, refl, reaches_end c.args.input.now c.args.at c.skip_blanks.result c.skip_blanks.ensures (eqb-true _ _ h)),
      λ h. eq-eqb _ _ (ends_there c.args.input.now c.args.at c.skip_blanks.result c.skip_blanks.ensures h.2),
    )
