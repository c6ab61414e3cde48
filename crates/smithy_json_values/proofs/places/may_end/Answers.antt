use Rattle.std.proofs.Common.{eq-eqb}
use Rattle.std.proofs.lemmas.Bool.{eqb-true}
use Rattle.smithy_json_values.proofs.FirstBytePlaces.{reaches_end, ends_there}
use Rattle.smithy_json_values.proofs.places.may_end.Goals as goal

pub returns-in-1 : goal.returns-in-1
returns-in-1 c =
    rw c.in-1.is (
      λ h. reaches_end c.args.input.now c.args.at c.skip_blanks.result c.skip_blanks.ensures (eqb-true _ _ h),
      λ h. eq-eqb _ _ (ends_there c.args.input.now c.args.at c.skip_blanks.result c.skip_blanks.ensures h),
    )
