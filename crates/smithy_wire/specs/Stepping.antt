-- What a reader's own calls answer that go on in a structure or a union from a place on.
use Rattle.std.specs.Prelude.{ℕ, ◌≤◌, ◌+◌, drop, Result, IfOk, IsErrOf}
use Rattle.smithy_shapes.specs.Site.{Site}
use Rattle.smithy_schema.specs.declared.error.SerdeError.{SerdeError}
use Rattle.smithy_schema.specs.declared.error.SerdeError.TheVariants.{TooDeep}
use Rattle.smithy_schema.specs.declared.step.Step.{Step}
use Rattle.smithy_schema.specs.Errors.{RefusesNoKind, IsRefused, IsInvalid}
use Rattle.smithy_schema.specs.Reading.{Cursor, depth, Reader, Conducts, MatchStep, CannotGoOn, passed_to}

-- What such a call says of its answer, where nothing is due any more from this place on. What it says of the limits lifted holds whether
-- reading is strict or not.
pub record StepsFrom (r : Reader) (old : Cursor) (at : ℕ) (new : Cursor) (site : Site) (result : Result Step SerdeError) : Type 0 where
  pub conduct : Conducts old new result
  pub narrow : RefusesNoKind result
  pub ok : IfOk result (λ step. MatchStep step r.wire (passed_to old at) new site)
  pub refused : IsRefused result → CannotGoOn r.wire (passed_to old at) site.table site.place
  pub none_without_limits : IsInvalid result → CannotGoOn r.lifted (passed_to old at) site.table site.place
  pub deep : IsErrOf result TooDeep → r.max_depth ≤ depth old + r.wire.openers (drop at old.input)
