-- What a read of a value says of its answer.
use Rattle.std.specs.Prelude.{◌≡◌, ◌↔◌, ℕ, true, Result, IfOk, IfErr, IsErrOf}
use Rattle.smithy_schema.specs.declared.error.SerdeError.{SerdeError}
use Rattle.smithy_schema.specs.declared.error.SerdeError.TheVariants.{InvalidInput, TypeMismatch, TooDeep, TooWide, NotCarried, Failed}
use Rattle.smithy_shapes.specs.Site.{Site}
use Rattle.smithy_declarations.specs.Value.{Value}
use Rattle.smithy_schema.specs.Errors.{IsRefused, IsInvalid, IsOfReader}
use Rattle.smithy_schema.specs.Reading.{Cursor, Relations, Reads, StandsNot, ReachesDepth, EndsTooDeep, ExceedsInside, UncarriedInside, IsCounted}
use Rattle.smithy_value.specs.DuePlaces.{MismatchesInside, AgreesInside}

-- What a read says where a value was due at the site and the tree that was read stands for `view` of it: by the relations w, and
-- by u, the relations with the limits lifted.
pub record ReadsValue {A : Type 0} (w u : Relations) (tells_without_limits : Type 0) (max : ℕ) (old new : Cursor) (site : Site) (view : A → Value) (result : Result A SerdeError) : Type 0 where
  -- Ok: a value of the place stands here, and the reader is past it
  pub ok : IfOk result (λ x. Reads w old new site.table site.place (view x))
  -- a refusal: no value of the place stands here; and none would, were the limits lifted
  pub refused : IsRefused result → StandsNot w old site.table site.place
  pub none_without_limits : tells_without_limits → IsInvalid result → StandsNot u old site.table site.place
  pub failed : IsErrOf result Failed ↔ (old.failed ≡ true)
  pub reading : IfErr result IsOfReader
  -- `TooDeep`: where the reader failed, the bytes from there on reach the greatest depth
  pub deep : IsErrOf result TooDeep → ReachesDepth w max new
  -- and as many containers are open as may be where one more is due, or the wire limits the depth of what is skipped, too
  pub nested : IsErrOf result TooDeep → EndsTooDeep w max old new site.table site.place
  -- `TooWide`: where it failed, a big number leaves the limits of the kind that is due there
  pub wide : IsErrOf result TooWide → ExceedsInside w old new site.table site.place
  -- `NotCarried`: where it failed stands what the kind that is due there can't carry
  pub uncarried : IsErrOf result NotCarried → UncarriedInside w old new site.table site.place
  -- `TypeMismatch`: where it failed, a value was due, and what comes there is of another type
  pub mismatched : IsErrOf result TypeMismatch → MismatchesInside w old new site.table site.place
  -- `InvalidInput`: where it failed, nothing was due, or what comes there isn't of another type
  pub invalid : IsErrOf result InvalidInput → new.due ≡ true → AgreesInside w old new site.table site.place
  -- the read keeps the input, whatever it answers
  pub input : new.input ≡ old.input
  pub counted : tells_without_limits → IsCounted w old → IsCounted w new
