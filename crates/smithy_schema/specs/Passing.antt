-- What a call of a reader answers that passes the value that is due: a null, or whatever stands there.
use Rattle.std.specs.Prelude.{◌≡◌, Result, OnOk, IsErrOf, true, false}
use Rattle.smithy_schema.specs.declared.error.SerdeError.{SerdeError}
use Rattle.smithy_schema.specs.declared.error.SerdeError.TheVariants.{TooDeep, NoMemory}
use Rattle.smithy_schema.specs.Errors.{RefusesNoKind, IsRefused, IsInvalid, IsNoAnswer}
use Rattle.smithy_schema.specs.Reading.{Cursor, depth, Reader, Conducts, Passes, NullsNot, SkipsNot, ReachesDepth, null_is_due}

-- What a call says of its answer that reads the null that is due. Where none is due, a wire may do nothing or refuse. No memory is
-- taken.
pub record ReadsNull (r : Reader) (old new : Cursor) (result : Result (Unit {0}) SerdeError) : Type 0 where
  pub conduct : Conducts old new result
  pub narrow : RefusesNoKind result
  pub memory : IsErrOf result NoMemory → ⊥
  pub shallow : IsErrOf result TooDeep → ⊥
  pub ok : null_is_due r.wire old ≡ true → OnOk result (r.wire.nulls old.input (depth old) old.at new.at)
  pub passes : null_is_due r.wire old ≡ true → OnOk result (Passes old new)
  pub refused : null_is_due r.wire old ≡ true → IsRefused result → NullsNot r.wire old
  pub none_without_limits : r.tells_without_limits → null_is_due r.wire old ≡ true → IsInvalid result → NullsNot r.lifted old
  pub nothing : null_is_due r.wire old ≡ false → OnOk result (new ≡ old)

-- What a call says of its answer that skips the value that is due.
pub record SkipsValue (r : Reader) (old new : Cursor) (result : Result (Unit {0}) SerdeError) : Type 0 where
  pub conduct : Conducts old new result
  pub narrow : RefusesNoKind result
  pub undue : old.due ≡ false → IsNoAnswer result
  pub ok : OnOk result (r.wire.skips old.input (depth old) old.at new.at)
  pub passes : OnOk result (Passes old new)
  pub refused : IsRefused result → old.due ≡ true → SkipsNot r.wire old
  pub none_without_limits : r.tells_without_limits → IsInvalid result → old.due ≡ true → SkipsNot r.lifted old
  pub deep : IsErrOf result TooDeep → ReachesDepth r.wire r.max_depth old
  pub limited : IsErrOf result TooDeep → r.wire.limits_skips ≡ true
