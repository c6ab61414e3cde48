-- A read of a scalar: what was found stands there, and where nothing was found nothing stands.
use Rattle.std.proofs.Common.{◌≡◌, ◌≤◌, ℕ, ℤ, length, Bool, true, false, Option, Some, None, refl, sym, ◌∙◌, ap, subst, arith, ◌⊎◌, inl, inr}
use Rattle.std.specs.Prelude.{IsErrOf, Result, Ok, Err, OnErr, IfOk, IfErr, IsOk, IsErr, IfSome, IfNone, IsSome, IsNone, MatchOption, if◌then◌else◌}
use Rattle.std.specs.declared.alloc.AllocError.{AllocError}
use Rattle.smithy_texts.specs.Ranges.{fits_signed}
use Rattle.smithy_declarations.specs.declared.shape_type.Scalar.{Scalar}
use Rattle.smithy_schema.specs.declared.error.SerdeError.{SerdeError}
use Rattle.smithy_schema.specs.declared.error.SerdeError.TheVariants.{InvalidInput, TypeMismatch, TooDeep, TooWide, NotCarried, Unsupported, Unwritable, Missing, Failed, NoMemory}
use Rattle.smithy_declarations.specs.Table.{scalar_place}
use Rattle.smithy_shapes.specs.Site.{Site}
use Rattle.smithy_declarations.specs.Value.{ScalarValue, scalar_value}
use Rattle.smithy_schema.specs.Errors.{IsOfReader, TellsType}
use Rattle.smithy_schema.specs.Reading.{Cursor, depth, Relations, Reader, IsLawful, StandsNot, Exceeds, Uncarried, Conducts, ReadsScalar, AnswersWide, AnswersUncarried, failed_at, passed_to}
use Rattle.smithy_wire.specs.declared.found.Found.{Found}
use Rattle.smithy_wire.specs.declared.found.Found.TheVariants.{Value, Nothing, Beyond}
use Rattle.smithy_wire.specs.Finding.{MatchFound, Takes, TakesWithin, typed, told_as, told}
use Rattle.smithy_wire.specs.Narrowing.{IsNarrowed, IsWider}

-- what holds of an answer, said in other words
pub if_some : {A : Type 0} (answer : Option A) (P Q : A → Type 0) → ((x : A) → P x → Q x) → IfSome answer P → IfSome answer Q
if_some None P Q turn h = tt
if_some (Some x) P Q turn h = turn x h

pub if_none : {A : Type 0} (answer : Option A) (P Q : Type 0) → (P → Q) → IfNone answer P → IfNone answer Q
if_none None P Q turn h = turn h
if_none (Some x) P Q turn h = tt

pub if_ok : {A E : Type 0} (answer : Result A E) (P Q : A → Type 0) → ((x : A) → P x → Q x) → IfOk answer P → IfOk answer Q
if_ok (Ok x) P Q turn h = turn x h
if_ok (Err e) P Q turn h = tt

pub if_matched : {A : Type 0} (answer : Option A) (M N : Type 0) (P Q : A → Type 0) → (M → N) → ((x : A) → P x → Q x)
    → MatchOption answer M P → MatchOption answer N Q
if_matched None M N P Q none turn h = none h
if_matched (Some x) M N P Q none turn h = turn x h

pub if_found : {A : Type 0} (answer : Found A) (P Q : A → Type 0) (M N B C : Type 0) → ((x : A) → P x → Q x) → (M → N) → (B → C)
    → MatchFound answer P M B → MatchFound answer Q N C
if_found (Value x) P Q M N B C turn none beyond h = turn x h
if_found Nothing P Q M N B C turn none beyond h = none h
if_found Beyond P Q M N B C turn none beyond h = beyond h

-- a reader that is ready hasn't failed, and a value is due
pub was_ready : (failed due : Bool) → ◌≡◌ {A = Result Unit SerdeError} (Ok tt) (if failed then Err Failed else (if due then Ok tt else Err InvalidInput)) → (failed ≡ false) × (due ≡ true)
was_ready true due h = cc
was_ready false true h = (refl, refl)
was_ready false false h = cc

-- ---- how an answer is told

-- what a told answer holds, it held before
pub if_told : {A : Type 0} (other : Bool) (result : Result A SerdeError) (P : A → Type 0) → IfOk result P → IfOk (told other result) P
if_told false result P h = h
if_told true (Ok x) P h = h
if_told true (Err e) P h = tt

-- an error that is no `InvalidInput` is told as it is
pub told_so : {A : Type 0} (other : Bool) (result : Result A SerdeError) (e : SerdeError) → typed e ≡ e → IsErrOf result e → IsErrOf (told other result) e
told_so false result e same h = h
told_so true result e same h = ap (told true) h ∙ ap Err same

either_told : {A : Type 0} (other : Bool) (result : Result A SerdeError) (own : SerdeError) → typed own ≡ own → IsErrOf result own ⊎ IsErrOf result NoMemory
    → IsErrOf (told other result) own ⊎ IsErrOf (told other result) NoMemory
either_told other result own same (inl is) = inl (told_so other result own same is)
either_told other result own same (inr is) = inr (told_so other result NoMemory refl is)

-- nor is one told as want of memory
pub no_memory_told : {A : Type 0} (other : Bool) (result : Result A SerdeError) → IfErr result (λ e. e ≡ InvalidInput) → IsErrOf (told other result) NoMemory → ⊥
no_memory_told {A} false (Ok x) invalid h = cc
no_memory_told {A} true (Ok x) invalid h = cc
no_memory_told {A} false (Err e) invalid h = let no : ◌≡◌ {A = Result A SerdeError} (Err InvalidInput) (Err NoMemory) = rw invalid at h in cc
no_memory_told {A} true (Err e) invalid h = let no : ◌≡◌ {A = Result A SerdeError} (Err TypeMismatch) (Err NoMemory) = rw invalid at h in cc

-- what is told as want of memory is one
pub memory_told : {A : Type 0} (other : Bool) (result : Result A SerdeError) → IsErrOf (told other result) NoMemory → IsErrOf result NoMemory
memory_told false result h = h
memory_told true (Ok x) h = h
memory_told true (Err InvalidInput) h = absurd (let both : Err TypeMismatch ≡ Err NoMemory = h in cc)
memory_told true (Err _) h = h

-- a read wants memory where the search for its value did
pub memory_wanted : {A : Type 0} (old new : Cursor) (result : Result A SerdeError) (P : Type 0) (found : Result (Option (A × ℕ)) AllocError) → IfErr found (λ e. P) → Takes old new found result
    → IsErrOf result NoMemory → P
memory_wanted old new result P (Ok (Some r)) here taken is = absurd (let both : Ok r.0 ≡ Err NoMemory = sym taken.0 ∙ is in cc)
memory_wanted old new result P (Ok None) here taken is = absurd (let both : Err InvalidInput ≡ Err NoMemory = sym taken.0 ∙ is in cc)
memory_wanted old new result P (Err e) here taken is = here

-- case by case
pub told_value : {A : Type 0} (other : Bool) (x : A) → told other (Ok x) ≡ Ok x
told_value false x = refl
told_value true x = refl

pub told_refusal : {A : Type 0} (other : Bool) (e : SerdeError) → told {A = A} other (Err e) ≡ Err (told_as other e)
told_refusal false e = refl
told_refusal true e = refl

pub told_unchanged : (other : Bool) (e : SerdeError) → (e ≡ InvalidInput → ⊥) → e ≡ told_as other e
told_unchanged false e not' = refl
told_unchanged true InvalidInput not' = absurd (not' refl)
told_unchanged true TypeMismatch not' = refl
told_unchanged true TooDeep not' = refl
told_unchanged true TooWide not' = refl
told_unchanged true NotCarried not' = refl
told_unchanged true Unsupported not' = refl
told_unchanged true Unwritable not' = refl
told_unchanged true Missing not' = refl
told_unchanged true Failed not' = refl
told_unchanged true NoMemory not' = refl

-- ---- the conduct of a read

-- the reader failed before
pub fails_again : {A : Type 0} (old new : Cursor) → new ≡ failed_at old → old.at ≤ length old.input → old.failed ≡ true → Conducts {A = A} old new (Err Failed)
fails_again old new stays within failed = record {
  failed = (λ h. failed, λ h. refl);
  stays = stays;
  reading = tt;
  ahead = rw stays (omega arith);
  within = rw stays within;
}

same_error : {A : Type 0} (e f : SerdeError) → ◌≡◌ {A = Result A SerdeError} (Err e) (Err f) → e ≡ f
same_error e f h = cc

-- a refusal that is neither an earlier failure nor a fault of writing
pub conducts : {A : Type 0} (old new : Cursor) (e : SerdeError) → new ≡ failed_at old → old.at ≤ length old.input → old.failed ≡ false
    → (e ≡ Failed → ⊥) → IsOfReader e → Conducts {A = A} old new (Err e)
conducts old new e stays within sound unfailed reading = record {
  failed = (λ h. absurd (unfailed (same_error e Failed h)), λ h. absurd (let both : true ≡ false = sym h ∙ sound in cc));
  stays = stays;
  reading = reading;
  ahead = rw stays (omega arith);
  within = rw stays within;
}

-- a value was read
pub goes_on : {A : Type 0} (old new : Cursor) (x : A) → old.failed ≡ false → old.at ≤ new.at → new.at ≤ length new.input → Conducts old new (Ok x)
goes_on old new x sound ahead within = record {
  failed = (λ h. cc, λ h. absurd (let both : true ≡ false = sym h ∙ sound in cc));
  stays = tt;
  reading = tt;
  ahead = ahead;
  within = within;
}

module _ {A : Type 0} (told_by : Reader) (site : Site) (s : Scalar) (value : A → ScalarValue) where
  abbrev w : Relations
  w = told_by.wire

  abbrev u : Relations
  u = told_by.lifted

  -- what a read says where nothing is of another type: all is refused by `InvalidInput`
  abbrev Says : Cursor → Cursor → Result A SerdeError → Type 0
  Says old new result = ReadsScalar (record told_by { wire = record w { mismatches = λ i t p a. false } }) old new site s value result

  -- nothing of the kind stands there, whatever the limits
  abbrev pub NoneStands : Cursor → Type 0
  NoneStands c = StandsNot w c site.table (scalar_place s site.place.time) × StandsNot u c site.table (scalar_place s site.place.time)

  -- the input is refused, where nothing stands or no value is due
  pub refuses : (old new : Cursor) → new ≡ failed_at old → old.at ≤ length old.input → old.failed ≡ false → (old.due ≡ true → NoneStands old)
      → Says old new (Err InvalidInput)
  refuses old new stays within sound none = record {
    conduct = conducts old new InvalidInput stays within sound (λ h. cc) tt;
    shallow = λ h. cc;
    wide = λ h. cc;
    uncarried = λ h. cc;
    undue = λ h. tt;
    told = λ due. refl;
    ok = tt;
    refused = λ fault due. (none due).0;
    none_without_limits = λ strict fault due. (none due).1;
  }

  -- want of memory
  pub runs_out : (old new : Cursor) → new ≡ failed_at old → old.at ≤ length old.input → old.failed ≡ false → Says old new (Err NoMemory)
  runs_out old new stays within sound = record {
    conduct = conducts old new NoMemory stays within sound (λ h. cc) tt;
    shallow = λ h. cc;
    wide = λ h. cc;
    uncarried = λ h. cc;
    undue = λ h. tt;
    told = λ due. tt;
    ok = tt;
    refused = λ fault. absurd fault;
    none_without_limits = λ strict fault. absurd fault;
  }

  -- a number that leaves its limits
  pub exceeds_limits : (old new : Cursor) → new ≡ failed_at old → old.at ≤ length old.input → old.failed ≡ false → old.due ≡ true
      → Exceeds w old site.table (scalar_place s site.place.time) → StandsNot w old site.table (scalar_place s site.place.time) → Says old new (Err TooWide)
  exceeds_limits old new stays within sound due there none = record {
    conduct = conducts old new TooWide stays within sound (λ h. cc) tt;
    shallow = λ h. cc;
    wide = λ h. there;
    uncarried = λ h. cc;
    undue = λ h. absurd (let both : true ≡ false = sym due ∙ h in cc);
    told = λ due. tt;
    ok = tt;
    refused = λ fault due. none;
    none_without_limits = λ strict fault. absurd fault;
  }

  -- what the kind can't carry
  pub carries_not : (old new : Cursor) → new ≡ failed_at old → old.at ≤ length old.input → old.failed ≡ false → old.due ≡ true
      → Uncarried w old site.table (scalar_place s site.place.time) → StandsNot w old site.table (scalar_place s site.place.time) → Says old new (Err NotCarried)
  carries_not old new stays within sound due there none = record {
    conduct = conducts old new NotCarried stays within sound (λ h. cc) tt;
    shallow = λ h. cc;
    wide = λ h. cc;
    uncarried = λ h. there;
    undue = λ h. absurd (let both : true ≡ false = sym due ∙ h in cc);
    told = λ due. tt;
    ok = tt;
    refused = λ fault due. none;
    none_without_limits = λ strict fault. absurd fault;
  }

  -- a refusal that tells the type
  refused_so : (old new : Cursor) (e : SerdeError) → (old.due ≡ true → TellsType (w.mismatches old.input site.table (scalar_place s site.place.time) old.at) e) → Says old new (Err e)
      → ReadsScalar told_by old new site s value (Err e)
  refused_so old new e tells says = record {
    conduct = says.conduct;
    shallow = says.shallow;
    wide = says.wide;
    uncarried = says.uncarried;
    undue = says.undue;
    told = tells;
    ok = tt;
    refused = says.refused;
    none_without_limits = says.none_without_limits;
  }

  -- what comes is of another type
  is_other : (old new : Cursor) → w.mismatches old.input site.table (scalar_place s site.place.time) old.at ≡ true → old.due ≡ true → Says old new (Err InvalidInput)
      → ReadsScalar told_by old new site s value (Err TypeMismatch)
  is_other old new is due says = record {
    conduct = record {
      failed = (λ h. cc, λ h. absurd (let no : ◌≡◌ {A = Result A SerdeError} (Err InvalidInput) (Err Failed) = says.conduct.failed.1 h in cc));
      stays = says.conduct.stays;
      reading = tt;
      ahead = says.conduct.ahead;
      within = says.conduct.within;
    };
    shallow = λ h. cc;
    wide = λ h. cc;
    uncarried = λ h. cc;
    undue = λ h. absurd (let both : true ≡ false = sym due ∙ h in cc);
    told = λ due. is;
    ok = tt;
    refused = says.refused;
    none_without_limits = says.none_without_limits;
  }

  was_read : (old new : Cursor) (x : A) → Says old new (Ok x) → ReadsScalar told_by old new site s value (Ok x)
  was_read old new x says = record {
    conduct = says.conduct;
    shallow = says.shallow;
    wide = says.wide;
    uncarried = says.uncarried;
    undue = says.undue;
    told = λ due. tt;
    ok = record { stands = says.ok.stands; passes = says.ok.passes };
    refused = says.refused;
    none_without_limits = says.none_without_limits;
  }

  -- an answer as it is told
  tells : (old new : Cursor) (other : Bool) → w.mismatches old.input site.table (scalar_place s site.place.time) old.at ≡ other → old.due ≡ true → (result : Result A SerdeError) → Says old new result
      → ReadsScalar told_by old new site s value (told other result)
  tells old new false is due (Ok x) says = was_read old new x says
  tells old new true is due (Ok x) says = was_read old new x says
  tells old new false is due (Err e) says = refused_so old new e (λ here. subst (λ b. TellsType b e) (sym is) (says.told here)) says
  tells old new true is due (Err InvalidInput) says = is_other old new is due says
  tells old new true is due (Err TypeMismatch) says = absurd (let no : false ≡ true = says.told due in cc)
  tells old new true is due (Err TooDeep) says = refused_so old new TooDeep (λ here. tt) says
  tells old new true is due (Err TooWide) says = refused_so old new TooWide (λ here. tt) says
  tells old new true is due (Err NotCarried) says = refused_so old new NotCarried (λ here. tt) says
  tells old new true is due (Err Unsupported) says = refused_so old new Unsupported (λ here. tt) says
  tells old new true is due (Err Unwritable) says = refused_so old new Unwritable (λ here. tt) says
  tells old new true is due (Err Missing) says = refused_so old new Missing (λ here. tt) says
  tells old new true is due (Err Failed) says = refused_so old new Failed (λ here. tt) says
  tells old new true is due (Err NoMemory) says = refused_so old new NoMemory (λ here. tt) says

  module _ (laws : IsLawful w) (old : Cursor) (sound : old.failed ≡ false) (due : old.due ≡ true) (within : old.at ≤ length old.input)
      (other : Bool) (is : w.mismatches old.input site.table (scalar_place s site.place.time) old.at ≡ other) where
    abbrev Stands : A → ℕ → Type 0
    Stands x e = w.stands old.input site.table (scalar_place s site.place.time) (depth old) old.at (scalar_value (value x)) e

    reads : (new : Cursor) (x : A) (e : ℕ) → Stands x e → new ≡ passed_to old e → Says old new (Ok x)
    reads new x e stands passed =
        let ends = laws.stands_within old.input site.table (scalar_place s site.place.time) (depth old) old.at (scalar_value (value x)) e stands in
        rw passed (record {
          conduct = goes_on old (passed_to old e) x sound ends.0 ends.1;
          shallow = λ h. cc;
          wide = λ h. cc;
          uncarried = λ h. cc;
          undue = λ h. absurd (let both : true ≡ false = sym due ∙ h in cc);
          told = λ due. tt;
          ok = record { stands = stands; passes = record { input = refl; inner = refl; outer = refl; due = refl; failed = sound } };
          refused = λ fault. absurd fault;
          none_without_limits = λ strict fault. absurd fault;
        })

    takes_plainly : (new : Cursor) (found : Option (A × ℕ)) (result : Result A SerdeError) → IfSome found (λ r. Stands r.0 r.1) → IfNone found (NoneStands old)
        → IfOk result (λ x. IfSome found (λ r. (r.0 ≡ x) × (new ≡ passed_to old r.1))) → (IsOk result → IsSome found) → (IsErr result → IsNone found)
        → OnErr result (new ≡ failed_at old) → IfErr result (λ e. e ≡ InvalidInput) → Says old new result
    takes_plainly new (Some r) (Ok x) stands none taken some fails stays error = subst (λ y. Says old new (Ok y)) taken.0 (reads new r.0 r.1 stands taken.1)
    takes_plainly new None (Ok x) stands none taken some fails stays error = absurd (let no' = some refl in cc)
    takes_plainly new (Some r) (Err e) stands none taken some fails stays error = absurd (let no' = fails refl in cc)
    takes_plainly new None (Err e) stands none taken some fails stays error = rw error (refuses old new stays within sound (λ due. none))

    finds_plainly : (new : Cursor) (found : Result (Option (A × ℕ)) AllocError) (result : Result A SerdeError)
        → IfOk found (λ o. MatchOption o (NoneStands old) (λ r. Stands r.0 r.1)) → Takes old new found result → Says old new result
    finds_plainly new (Ok (Some r)) result stands taken = rw taken.0 (reads new r.0 r.1 stands taken.1)
    finds_plainly new (Ok None) result none taken = rw taken.0 (refuses old new taken.1 within sound (λ due. none))
    finds_plainly new (Err e) result none taken = rw taken.0 (runs_out old new taken.1 within sound)

    -- the same of a kind that excludes something, which is refused with an error of its own
    takes_excluding : (own : SerdeError) (There : Type 0) (new : Cursor) (found : Result (Found (A × ℕ)) AllocError) (result : Result A SerdeError)
        → (new ≡ failed_at old → There → StandsNot w old site.table (scalar_place s site.place.time) → Says old new (Err own))
        → IfOk found (λ f. MatchFound f (λ r. Stands r.0 r.1) (NoneStands old) (There × StandsNot w old site.table (scalar_place s site.place.time)))
        → TakesWithin old new own found result → Says old new result
    takes_excluding own There new (Ok (Value r)) result says stands taken = rw taken.0 (reads new r.0 r.1 stands taken.1)
    takes_excluding own There new (Ok Nothing) result says none taken = rw taken.0 (refuses old new taken.1 within sound (λ due. none))
    takes_excluding own There new (Ok Beyond) result says there taken = rw taken.0 (says taken.1 there.0 there.1)
    takes_excluding own There new (Err e) result says none taken = rw taken.0 (runs_out old new taken.1 within sound)

    -- of what was found, or not
    pub takes : (new : Cursor) (found : Option (A × ℕ)) (result : Result A SerdeError) → IfSome found (λ r. Stands r.0 r.1) → IfNone found (NoneStands old)
        → IfOk result (λ x. IfSome found (λ r. (r.0 ≡ x) × (new ≡ passed_to old r.1))) → (IsOk result → IsSome found) → (IsErr result → IsNone found)
        → OnErr result (new ≡ failed_at old) → IfErr result (λ e. e ≡ InvalidInput) → ReadsScalar told_by old new site s value (told other result)
    takes new found result stands none taken some fails stays error =
        tells old new other is due result (takes_plainly new found result stands none taken some fails stays error)

    -- of what a search that takes memory found, or not
    pub takes_found : (new : Cursor) (found : Result (Option (A × ℕ)) AllocError) (result : Result A SerdeError)
        → IfOk found (λ o. MatchOption o (NoneStands old) (λ r. Stands r.0 r.1)) → Takes old new found result → ReadsScalar told_by old new site s value (told other result)
    takes_found new found result here taken = tells old new other is due result (finds_plainly new found result here taken)

    -- it answers so wherever such a thing stands
    answers_excluded : (own : SerdeError) (There : Type 0) (new : Cursor) (found : Result (Found (A × ℕ)) AllocError) (result : Result A SerdeError)
        → (There → StandsNot w old site.table (scalar_place s site.place.time))
        → IfOk found (λ f. MatchFound f (λ r. Stands r.0 r.1) (There → ⊥) (Unit {0})) → TakesWithin old new own found result → There
        → IsErrOf result own ⊎ IsErrOf result NoMemory
    answers_excluded own There new (Ok (Value r)) result not' stands taken there = absurd (not' there (scalar_value (value r.0)) r.1 stands)
    answers_excluded own There new (Ok Nothing) result not' none taken there = absurd (none there)
    answers_excluded own There new (Ok Beyond) result not' tt taken there = inl taken.0
    answers_excluded own There new (Err e) result not' none taken there = inr taken.0

    -- of a big number, which may leave its limits
    pub takes_within_limits : (new : Cursor) (found : Result (Found (A × ℕ)) AllocError) (result : Result A SerdeError)
        → IfOk found (λ f. MatchFound f (λ r. Stands r.0 r.1) (NoneStands old)
        (Exceeds w old site.table (scalar_place s site.place.time) × StandsNot w old site.table (scalar_place s site.place.time)))
        → TakesWithin old new TooWide found result → ReadsScalar told_by old new site s value (told other result)
    takes_within_limits new found result here taken =
        tells old new other is due result
        (takes_excluding TooWide (Exceeds w old site.table (scalar_place s site.place.time)) new found result (λ stays there none. exceeds_limits old new stays within sound due there none) here taken)

    pub answers_past_limits : (new : Cursor) (found : Result (Found (A × ℕ)) AllocError) (result : Result A SerdeError)
        → (Exceeds w old site.table (scalar_place s site.place.time) → StandsNot w old site.table (scalar_place s site.place.time))
        → IfOk found (λ f. MatchFound f (λ r. Stands r.0 r.1) (Exceeds w old site.table (scalar_place s site.place.time) → ⊥) (Unit {0}))
        → TakesWithin old new TooWide found result → AnswersWide w old site s (told other result)
    answers_past_limits new found result not' stands taken due' sound' there =
        either_told other result TooWide refl (answers_excluded TooWide (Exceeds w old site.table (scalar_place s site.place.time)) new found result not' stands taken there)

    -- of a kind that can't carry all that is written like it
    pub takes_what_is_carried : (new : Cursor) (found : Result (Found (A × ℕ)) AllocError) (result : Result A SerdeError)
        → IfOk found (λ f. MatchFound f (λ r. Stands r.0 r.1) (NoneStands old)
        (Uncarried w old site.table (scalar_place s site.place.time) × StandsNot w old site.table (scalar_place s site.place.time)))
        → TakesWithin old new NotCarried found result → ReadsScalar told_by old new site s value (told other result)
    takes_what_is_carried new found result here taken =
        tells old new other is due result
        (takes_excluding NotCarried (Uncarried w old site.table (scalar_place s site.place.time)) new found result (λ stays there none. carries_not old new stays within sound due there none) here taken)

    pub answers_what_is_not : (new : Cursor) (found : Result (Found (A × ℕ)) AllocError) (result : Result A SerdeError)
        → (Uncarried w old site.table (scalar_place s site.place.time) → StandsNot w old site.table (scalar_place s site.place.time))
        → IfOk found (λ f. MatchFound f (λ r. Stands r.0 r.1) (Uncarried w old site.table (scalar_place s site.place.time) → ⊥) (Unit {0}))
        → TakesWithin old new NotCarried found result → AnswersUncarried w old site s (told other result)
    answers_what_is_not new found result not' stands taken due' sound' there =
        either_told other result NotCarried refl (answers_excluded NotCarried (Uncarried w old site.table (scalar_place s site.place.time)) new found result not' stands taken there)

-- ---- whole numbers of fewer bits

-- by where a number of so many bits stands, with its end
module _ (At : ℕ → ℤ → ℕ → Type 0) (bits : ℕ) where
  pub narrow_found : (found narrow : Option (ℤ × ℕ)) → ((n : ℤ) (e : ℕ) → At 64 n e → fits_signed bits n ≡ true → At bits n e)
      → IfSome found (λ r. At 64 r.0 r.1) → IfSome narrow (IsNarrowed bits found) → IfSome narrow (λ r. At bits r.0 r.1)
  narrow_found found None narrows here is = tt
  narrow_found found (Some r) narrows here (same, fits) =
      let there : At 64 r.0 r.1 = rw same at here in
      narrows r.0 r.1 there fits

  pub narrow_none : (found narrow : Option (ℤ × ℕ)) → ((n : ℤ) (e : ℕ) → At bits n e → At 64 n e × (fits_signed bits n ≡ true))
      → ((n m : ℤ) (e f : ℕ) → At 64 n e → At 64 m f → n ≡ m) → IfSome found (λ r. At 64 r.0 r.1) → IfNone found ((n : ℤ) (e : ℕ) → At 64 n e → ⊥)
      → IfNone narrow (IsWider bits found) → IfNone narrow ((n : ℤ) (e : ℕ) → At bits n e → ⊥)
  narrow_none found (Some r) widens same here none wider = tt
  narrow_none None None widens same here none wider = λ n e h. none n e (widens n e h).0
  narrow_none (Some r) None widens same here none wider = λ n e h.
      let wide = widens n e h in
      let number : n ≡ r.0 = same n r.0 e r.1 wide.0 here in
      let both : true ≡ false = sym wide.1 ∙ ap (fits_signed bits) number ∙ wider in
      cc
