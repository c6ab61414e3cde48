-- What a call that writes a value says of its answer.
use Rattle.std.specs.Prelude.{◌≡◌, ◌↔◌, Bool, true, Result, Ok, OnOk, IfErr, IsErr, IsErrOf, Err}
use Rattle.smithy_schema.specs.declared.error.SerdeError.{SerdeError}
use Rattle.smithy_schema.specs.declared.error.SerdeError.TheVariants.{Failed}
use Rattle.smithy_schema.specs.declared.write.ShapeSerializer as serializer
use Rattle.smithy_schema.specs.Errors.{IsFault}
use Rattle.smithy_schema.specs.Writing.{write}
use Rattle.smithy_shapes.specs.Site.{Site}
use Rattle.smithy_declarations.specs.Value.{Value}

-- By what the value makes of the serializer's state, or why it can't be written there: whether the serializer had failed
-- before, whether it has now, and its state now.
pub record WritesValue {S : Type 0} (made : Result S SerdeError) (had_failed has_failed : Bool) (new : S) (result : Result (Unit {0}) SerdeError) : Type 0 where
  -- `Failed` comes exactly after a failure
  pub failed : IsErrOf result Failed ↔ (had_failed ≡ true)
  -- after an answered error the serializer has failed
  pub broken : IsErr result ↔ (has_failed ≡ true)
  pub ok : OnOk result (made ≡ Ok new)
  pub refused : IfErr result (λ e. IsFault e → made ≡ Err e)

-- the write of a value at the site by this serializer
abbrev pub WritesBy : {S : Type 0} → serializer.Ghosts S → (old new : S) → Site → Value → Result (Unit {0}) SerdeError → Type 0
WritesBy s old new site v result = WritesValue (write s.after site v (s.state old)) (s.failed old) (s.failed new) (s.state new) result
