-- That no more containers are open than the bytes of the input open stays so, call by call.
use Rattle.std.proofs.Common.{◌≡◌, ◌≤◌, ◌<◌, ◌+◌, ℕ, suc, length, drop, List, Option, Some, ap, arith, subst, sym}
use Rattle.smithy_declarations.specs.declared.place.Place.{Place}
use Rattle.smithy_schema.specs.declared.step.Step.{Step}
use Rattle.smithy_schema.specs.declared.step.Step.TheVariants.{Member as ToMember, Unknown, End}
use Rattle.smithy_declarations.specs.Table.{Table}
use Rattle.smithy_declarations.specs.Value.{Value}
use Rattle.smithy_shapes.specs.Site.{Site}
use Rattle.smithy_schema.specs.Reading.{Cursor, depth, Relations, ContainerKind, CountsOpeners, Passes, Reads, Enters, Steps, Leaves, MatchStep, IsCounted, ReachesDepth, failed_at, passed_to}

-- a fresh reader
pub starts_counted : (w : Relations) (c : Cursor) → c.at ≡ 0 → depth c ≡ 0 → IsCounted w c
starts_counted w c start none full = rw (start, none) (omega arith)

-- at such a place, where the greatest depth is reached, the input opens as many at once
pub reaches_openers : (w : Relations) (max : ℕ) (c : Cursor) → 0 < length c.input → IsCounted w c → ReachesDepth w max c → max ≤ w.openers c.input
reaches_openers w max c full counted reached = let most = counted full in omega (arith, most, reached)

-- a refusal leaves the reader where it is
pub refusal_counted : (w : Relations) (old new : Cursor) → new ≡ failed_at old → IsCounted w old → IsCounted w new
refusal_counted w old new stays counted = rw stays counted

module _ (w : Relations) where
  counted_by : (old new : Cursor) → new.input ≡ old.input
      → (0 < length old.input → depth new + w.openers (drop new.at old.input) ≤ depth old + w.openers (drop old.at old.input))
      → IsCounted w old → IsCounted w new
  counted_by old new input falls counted =
      subst (λ i. 0 < length i → depth new + w.openers (drop new.at i) ≤ w.openers i) (sym input)
      (λ full. let before = counted full in let less = falls full in omega (arith, before, less))

  same_depth : (old new : Cursor) → new.outer ≡ old.outer → depth new ≡ depth old
  same_depth old new outer = ap length outer

  passed : (old new : Cursor) → Passes old new → w.openers (drop new.at old.input) ≤ w.openers (drop old.at old.input)
      → IsCounted w old → IsCounted w new
  passed old new passes falls = counted_by old new passes.input (λ full. let same = same_depth old new passes.outer in omega (arith, same, falls))

module _ (w : Relations) (counts : CountsOpeners w) where
  pub value_counted : (old new : Cursor) (t : Table) (p : Place) (v : Value) → Reads w old new t p v → IsCounted w old → IsCounted w new
  value_counted old new t p v reads =
      passed w old new reads.passes (counts.value_takes_none old.input t p (depth old) old.at v new.at reads.stands)

  pub null_counted : (old new : Cursor) → w.nulls old.input (depth old) old.at new.at → Passes old new → IsCounted w old → IsCounted w new
  null_counted old new nulls passes = passed w old new passes (counts.null_takes_none old.input (depth old) old.at new.at nulls)

  pub skip_counted : (old new : Cursor) → w.skips old.input (depth old) old.at new.at → Passes old new → IsCounted w old → IsCounted w new
  skip_counted old new skips passes = passed w old new passes (counts.skip_takes_none old.input (depth old) old.at new.at skips)

  -- behind a value that is left unread and skipped
  pub unread_counted : (old : Cursor) (e : ℕ) → w.skips old.input (depth old) old.at e → IsCounted w old → IsCounted w (passed_to old e)
  unread_counted old e skips counted full =
      let before = counted full in
      let less = counts.skip_takes_none old.input (depth old) old.at e skips in
      omega (arith, before, less)

  pub entry_counted : (max : ℕ) (old new : Cursor) (t : Table) (p : Place) (k : ContainerKind) → Enters w max old new t p k → IsCounted w old → IsCounted w new
  entry_counted max old new t p k enters =
      counted_by w old new enters.input
      (λ full.
      let more : depth new ≡ suc (depth old) = ap length enters.outer in
      let less = counts.opening_adds old.input t p (depth old) old.at new.at new.inner.mark full enters.opens in
      omega (arith, more, less))

  pub step_counted : (old new : Cursor) (t : Table) (p : Place) (key : Option (List ℕ)) → Steps w old new t p key → IsCounted w old → IsCounted w new
  step_counted old new t p key steps =
      counted_by w old new steps.input
      (λ full.
      let same = same_depth w old new steps.outer in
      let less = counts.step_takes_none old.input t p (depth old) old.at old.inner.mark key new.at new.inner.mark steps.steps in
      omega (arith, same, less))

  pub leave_counted : (old new : Cursor) (t : Table) (p : Place) → Leaves w old new t p → IsCounted w old → IsCounted w new
  leave_counted old new t p leaves =
      counted_by w old new leaves.input
      (λ full.
      let less : depth old ≡ suc (depth new) = ap length leaves.outer in
      let more = counts.close_takes_one old.input t p (depth old) old.at old.inner.mark new.at leaves.closes in
      omega (arith, less, more))

  -- whatever a structure's step goes on to
  pub member_counted : (step : Step) (old new : Cursor) (outer : Site) → MatchStep step w old new outer → IsCounted w old → IsCounted w new
  member_counted (ToMember s) old new outer is = step_counted old new outer.table outer.place (Some is.0) is.2
  member_counted Unknown old new outer is = step_counted old new outer.table outer.place (Some is.0) is.1
  member_counted End old new outer is = leave_counted old new outer.table outer.place is
