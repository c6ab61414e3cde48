-- What a call answers that reads a null or skips a value, one lemma for each way out.
use Rattle.std.proofs.Common.{◌≡◌, ◌≤◌, ℕ, length, true, false, Ok, Err, sym, ◌∙◌, refl, arith}
use Rattle.std.specs.Prelude.{IsErrOf}
use Rattle.smithy_schema.specs.declared.error.SerdeError.{SerdeError}
use Rattle.smithy_schema.specs.declared.error.SerdeError.TheVariants.{InvalidInput, TooDeep, Failed}
use Rattle.smithy_schema.specs.Errors.{IsOfReader, IsInvalid, RefusesNoKind}
use Rattle.smithy_schema.specs.Passing.{ReadsNull, SkipsValue}
use Rattle.smithy_schema.specs.Reading.{Cursor, Relations, reader, IsLawful, Passes, NullsNot, SkipsNot, ReachesDepth, depth, failed_at, null_is_due, passed_to}
use Rattle.smithy_wire.proofs.ScalarReads.{conducts, goes_on}

passed : (old : Cursor) → old.failed ≡ false → (e : ℕ) → Passes old (passed_to old e)
passed old sound e = record {
  input = refl;
  inner = refl;
  outer = refl;
  due = refl;
  failed = sound;
}

-- ---- a null that is due

module _ {max : ℕ} (w u : Relations) (tells_without_limits : Type 0) (old : Cursor) (sound : old.failed ≡ false) where
  -- one was read
  pub null_read : (new : Cursor) (end : ℕ) → IsLawful w → null_is_due w old ≡ true → new ≡ passed_to old end → w.nulls old.input (depth old) old.at end
      → ReadsNull (reader w u tells_without_limits max) old new (Ok tt)
  null_read new end laws due same nulls =
      let place = laws.nulls_within old.input (depth old) old.at end nulls in
      let ahead : old.at ≤ end = omega (arith, place.0) in
      rw same (record {
        conduct = goes_on old (passed_to old end) tt sound ahead place.1;
        narrow = (((λ h. cc), λ h. cc), λ h. cc);
        memory = λ h. cc;
        shallow = λ h. cc;
        ok = λ due. nulls;
        passes = λ due. passed old sound end;
        refused = λ due fault. absurd fault;
        none_without_limits = λ strict due fault. absurd fault;
        nothing = λ undue. absurd (let both : true ≡ false = sym due ∙ undue in cc);
      })

  -- none was, as none stands there or none is due
  pub null_refused : (new : Cursor) (error : SerdeError) → error ≡ InvalidInput → new ≡ failed_at old → old.at ≤ length old.input
      → (null_is_due w old ≡ true → NullsNot w old × NullsNot u old) → ReadsNull (reader w u tells_without_limits max) old new (Err error)
  null_refused new error is stays within none = rw is (record {
    conduct = conducts old new InvalidInput stays within sound (λ h. cc) tt;
    narrow = (((λ h. cc), λ h. cc), λ h. cc);
    memory = λ h. cc;
    shallow = λ h. cc;
    ok = λ due. tt;
    passes = λ due. tt;
    refused = λ due fault. (none due).0;
    none_without_limits = λ strict due fault. (none due).1;
    nothing = λ undue. tt;
  })

  -- none is due, and the call does nothing
  pub no_null_due : null_is_due w old ≡ false → old.at ≤ length old.input → ReadsNull (reader w u tells_without_limits max) old old (Ok tt)
  no_null_due undue within = record {
    conduct = goes_on old old tt sound (omega arith) within;
    narrow = (((λ h. cc), λ h. cc), λ h. cc);
    memory = λ h. cc;
    shallow = λ h. cc;
    ok = λ due. absurd (let both : true ≡ false = sym due ∙ undue in cc);
    passes = λ due. absurd (let both : true ≡ false = sym due ∙ undue in cc);
    refused = λ due fault. absurd fault;
    none_without_limits = λ strict due fault. absurd fault;
    nothing = λ undue. refl;
  }

-- ---- a value that is skipped

module _ (w u : Relations) (tells_without_limits : Type 0) (old : Cursor) (sound : old.failed ≡ false) (max : ℕ) (due : old.due ≡ true) where
  -- one was skipped
  pub value_skipped : (new : Cursor) (end : ℕ) → IsLawful w → new ≡ passed_to old end → w.skips old.input (depth old) old.at end
      → SkipsValue (reader w u tells_without_limits max) old new (Ok tt)
  value_skipped new end laws same skips =
      let place = laws.skips_within old.input (depth old) old.at end skips in
      let ahead : old.at ≤ end = omega (arith, place.0) in
      rw same (record {
        conduct = goes_on old (passed_to old end) tt sound ahead place.1;
        narrow = (((λ h. cc), λ h. cc), λ h. cc);
        undue = λ undue. absurd (let both : true ≡ false = sym due ∙ undue in cc);
        ok = skips;
        passes = passed old sound end;
        refused = λ fault. absurd fault;
        none_without_limits = λ strict fault. absurd fault;
        deep = λ h. cc;
        limited = λ h. cc;
      })

  -- none was
  pub none_skipped : (new : Cursor) (error given : SerdeError) → error ≡ given → new ≡ failed_at old → old.at ≤ length old.input → (given ≡ Failed → ⊥) → IsOfReader given
      → RefusesNoKind {A = Unit {0}} (Err given) → SkipsNot w old → (IsInvalid {A = Unit {0}} (Err given) → SkipsNot u old)
      → (IsErrOf {T = Unit {0}} (Err given) TooDeep → ReachesDepth w max old × (w.limits_skips ≡ true))
      → SkipsValue (reader w u tells_without_limits max) old new (Err error)
  none_skipped new error given is stays within unfailed reading narrow none none_lifted deep = rw is (record {
    conduct = conducts old new given stays within sound unfailed reading;
    narrow = narrow;
    undue = λ undue. absurd (let both : true ≡ false = sym due ∙ undue in cc);
    ok = tt;
    passes = tt;
    refused = λ fault due. none;
    none_without_limits = λ strict fault due. none_lifted fault;
    deep = λ h. (deep h).0;
    limited = λ h. (deep h).1;
  })
