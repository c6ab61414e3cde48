-- What a call of a reader answers that opens a container, or goes on in one.
use Rattle.std.specs.Prelude.{◌≡◌, ℕ, List, Option, Some, None, MatchOption, Bool, MatchBool, Result, IfOk, IfErr, OnOk, IsErrOf, true, false}
use Rattle.smithy_declarations.specs.declared.place.Place.{Place}
use Rattle.smithy_declarations.specs.Table.{Table, kind_of, IsList, IsMap}
use Rattle.smithy_shapes.specs.Site.{Site}
use Rattle.smithy_schema.specs.declared.error.SerdeError.{SerdeError}
use Rattle.smithy_schema.specs.declared.error.SerdeError.TheVariants.{TooDeep, NoMemory}
use Rattle.smithy_schema.specs.declared.step.Step.{Step}
use Rattle.smithy_schema.specs.Errors.{RefusesNoScalar, RefusesNoKind, IsRefused, IsInvalid, IsNoAnswer, TellsType}
use Rattle.smithy_schema.specs.Reading.{Cursor, depth, Reader, ContainerKind, Conducts, Enters, OpensNot, MatchStep, Steps, Leaves, CannotGoOn, ReachesDepth, passed_to}

-- What a call says of its answer that enters the container that is due.
pub record Opens (r : Reader) (old new : Cursor) (site : Site) (within : ContainerKind) (result : Result (Unit {0}) SerdeError) : Type 0 where
  pub conduct : Conducts old new result
  pub narrow : RefusesNoScalar result
  pub undue : old.due ≡ false → IsNoAnswer result
  pub told : old.due ≡ true → IfErr result (TellsType (r.wire.mismatches old.input site.table site.place old.at))
  pub ok : OnOk result (Enters r.wire r.max_depth old new site.table site.place within)
  pub refused : IsRefused result → old.due ≡ true → r.wire.allows (depth old) → OpensNot r.wire old site.table site.place
  pub none_without_limits : r.tells_without_limits → IsInvalid result → old.due ≡ true → OpensNot r.lifted old site.table site.place
  pub invalid : IsInvalid result → old.due ≡ true → OpensNot r.wire old site.table site.place
  -- too deep is a container that begins here, exactly at the greatest depth
  pub deepest : IsErrOf result TooDeep → depth old ≡ r.max_depth
  pub deep : IsErrOf result TooDeep → OpensNot r.wire old site.table site.place → ⊥
  -- and memory is wanted only for a container that begins here
  pub memory : IsErrOf result NoMemory → OpensNot r.wire old site.table site.place → ⊥

-- What a call says of its answer that goes on in a structure or a union. A value that is still due is skipped first.
pub record GoesOnInStructure (r : Reader) (old new : Cursor) (site : Site) (result : Result Step SerdeError) : Type 0 where
  pub conduct : Conducts old new result
  pub narrow : RefusesNoKind result
  pub ok : old.due ≡ false → IfOk result (λ step. MatchStep step r.wire old new site)
  pub refused : IsRefused result → old.due ≡ false → CannotGoOn r.wire old site.table site.place
  pub none_without_limits : r.tells_without_limits → IsInvalid result → old.due ≡ false → CannotGoOn r.lifted old site.table site.place
  pub unread : old.due ≡ true → IfOk result (λ step. (e : ℕ) × r.wire.skips old.input (depth old) old.at e × MatchStep step r.wire (passed_to old e) new site)
  pub unread_refused : IsRefused result → old.due ≡ true → (e : ℕ) → r.wire.skips old.input (depth old) old.at e → CannotGoOn r.wire (passed_to old e) site.table site.place
  pub unread_would : r.tells_without_limits → IsInvalid result → old.due ≡ true → (e : ℕ) → r.lifted.skips old.input (depth old) old.at e → CannotGoOn r.lifted (passed_to old e) site.table site.place
  pub deep : IsErrOf result TooDeep → ReachesDepth r.wire r.max_depth old
  pub limited : IsErrOf result TooDeep → r.wire.limits_skips ≡ true

-- What a call says of its answer that goes on in a list, to an element or behind its end. An element that was left unread is refused,
-- and no memory is taken.
pub record GoesOnInList (r : Reader) (old new : Cursor) (result : Result Bool SerdeError) : Type 0 where
  pub conduct : Conducts old new result
  pub narrow : RefusesNoKind result
  pub memory : IsErrOf result NoMemory → ⊥
  pub shallow : IsErrOf result TooDeep → ⊥
  pub unread : old.due ≡ true → IsNoAnswer result
  pub ok : old.due ≡ false → (t : Table) (p : Place) → IsList (kind_of t p)
      → IfOk result (λ b. MatchBool b (Steps r.wire old new t p None) (Leaves r.wire old new t p))
  pub refused : IsRefused result → old.due ≡ false → (t : Table) (p : Place) → IsList (kind_of t p) → CannotGoOn r.wire old t p
  pub none_without_limits : r.tells_without_limits → IsInvalid result → old.due ≡ false → (t : Table) (p : Place) → IsList (kind_of t p) → CannotGoOn r.lifted old t p

-- What a call says of its answer that goes on in a map, whose next key has these bytes.
pub record GoesOnInMap {K : Type 0} (r : Reader) (bytes : K → List ℕ) (old new : Cursor) (result : Result (Option K) SerdeError) : Type 0 where
  pub conduct : Conducts old new result
  pub narrow : RefusesNoKind result
  pub shallow : IsErrOf result TooDeep → ⊥
  pub unread : old.due ≡ true → IsNoAnswer result
  pub ok : old.due ≡ false → (t : Table) (p : Place) → IsMap (kind_of t p)
      → IfOk result (λ next. MatchOption next (Leaves r.wire old new t p) (λ key. Steps r.wire old new t p (Some (bytes key))))
  pub refused : IsRefused result → old.due ≡ false → (t : Table) (p : Place) → IsMap (kind_of t p) → CannotGoOn r.wire old t p
  pub none_without_limits : r.tells_without_limits → IsInvalid result → old.due ≡ false → (t : Table) (p : Place) → IsMap (kind_of t p) → CannotGoOn r.lifted old t p
