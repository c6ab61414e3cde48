-- What a call answers that opens a container, or goes on in a structure, of what the walk answers.
use Rattle.std.proofs.Common.{◌≡◌, ◌≤◌, ◌<◌, ◌↔◌, ℕ, suc, length, Bool, true, false, Ok, Err, refl, sym, ◌∙◌, ap, subst, arith, inl, inr}
use Rattle.std.proofs.lemmas.Bool.Decides.{nat_tests}
use Rattle.std.proofs.lemmas.Result.{IfOk-weaker}
use Rattle.std.specs.Prelude.{IsErrOf, Result, IfOk, nat_le}
use Rattle.smithy_schema.specs.declared.error.SerdeError.{SerdeError}
use Rattle.smithy_schema.specs.declared.error.SerdeError.TheVariants.{InvalidInput, TypeMismatch, TooDeep, NoMemory, Failed}
use Rattle.smithy_schema.specs.declared.step.Step.{Step}
use Rattle.smithy_shapes.specs.Site.{Site}
use Rattle.smithy_schema.specs.Errors.{IsOfReader, FindsNone, TellsType, IsRefused, IsInvalid, RefusesNoScalar, RefusesNoKind}
use Rattle.smithy_schema.specs.Containers.{Opens, GoesOnInStructure}
use Rattle.smithy_schema.specs.Reading.{Cursor, Frame, ContainerKind, depth, Relations, IsLawful, Conducts, OpensNot, MatchStep, CannotGoOn, ReachesDepth, reader, failed_at, passed_to}
use Rattle.smithy_wire.specs.Finding.{EntersInto}
use Rattle.smithy_wire.specs.Stepping.{StepsFrom}
use Rattle.smithy_wire.specs.Walking.{entered_into}
use Rattle.smithy_wire.proofs.ScalarReads.{conducts, goes_on}

module _ (w u : Relations) (tells_without_limits : Type 0) (max : ℕ) (site : Site) where
  -- ---- a container that is due

  module _ (within : ContainerKind) (old : Cursor) (sound : old.failed ≡ false) (due : old.due ≡ true) (inside : old.at ≤ length old.input) where
    refuses : (new : Cursor) (e : SerdeError) → new ≡ failed_at old → (e ≡ Failed → ⊥) → IsOfReader e → RefusesNoScalar {A = Unit {0}} (Err e) → (IsErrOf {T = Unit {0}} (Err e) TooDeep → ⊥) → (IsErrOf {T = Unit {0}} (Err e) NoMemory → ⊥)
        → TellsType (w.mismatches old.input site.table site.place old.at) e → OpensNot w old site.table site.place → OpensNot u old site.table site.place
        → Opens (reader w u tells_without_limits max) old new site within (Err e)
    refuses new e stays unfailed reading narrow shallow ample tells none none_lifted = record {
      conduct = conducts old new e stays inside sound unfailed reading;
      narrow = narrow;
      undue = λ undue. absurd (let both : true ≡ false = sym due ∙ undue in cc);
      told = λ due. tells;
      ok = tt;
      refused = λ fault due allows. none;
      none_without_limits = λ strict fault due. none_lifted;
      invalid = λ fault due. none;
      deepest = λ deep. absurd (shallow deep);
      deep = λ deep. absurd (shallow deep);
      memory = λ short. absurd (ample short);
    }

    -- none opens there
    pub opens_none : (new : Cursor) (e : SerdeError) → new ≡ failed_at old → FindsNone e → TellsType (w.mismatches old.input site.table site.place old.at) e
        → OpensNot w old site.table site.place → OpensNot u old site.table site.place → Opens (reader w u tells_without_limits max) old new site within (Err e)
    opens_none new InvalidInput stays none = refuses new InvalidInput stays (λ h. cc) tt ((λ h. cc), λ h. cc) (λ h. cc) (λ h. cc)
    opens_none new TypeMismatch stays none = refuses new TypeMismatch stays (λ h. cc) tt ((λ h. cc), λ h. cc) (λ h. cc) (λ h. cc)
    opens_none new _ stays none = absurd none

    module _ (b : ℕ) (frame : Frame) (allows : w.allows (depth old) ↔ (nat_le (suc (depth old)) max ≡ true)) (opens : w.opens old.input site.table site.place (depth old) old.at b frame.mark) where
      too_deep : (new : Cursor) → new ≡ failed_at old → depth old ≡ max → Opens (reader w u tells_without_limits max) old new site within (Err TooDeep)
      too_deep new stays deepest = record {
        conduct = conducts old new TooDeep stays inside sound (λ h. cc) tt;
        narrow = ((λ h. cc), λ h. cc);
        undue = λ undue. absurd (let both : true ≡ false = sym due ∙ undue in cc);
        told = λ due. tt;
        ok = tt;
        refused = λ fault due allowed. absurd (let room = allows.0 allowed in grind (arith, nat_tests, room, deepest));
        none_without_limits = λ strict fault. absurd fault;
        invalid = λ fault. absurd fault;
        deepest = λ deep. deepest;
        deep = λ deep none. none b frame.mark opens;
        memory = λ short. cc;
      }

      no_memory : (new : Cursor) → new ≡ failed_at old → Opens (reader w u tells_without_limits max) old new site within (Err NoMemory)
      no_memory new stays = record {
        conduct = conducts old new NoMemory stays inside sound (λ h. cc) tt;
        narrow = ((λ h. cc), λ h. cc);
        undue = λ undue. tt;
        told = λ due. tt;
        ok = tt;
        refused = λ fault. absurd fault;
        none_without_limits = λ strict fault. absurd fault;
        invalid = λ fault. absurd fault;
        deepest = λ deep. cc;
        deep = λ deep. cc;
        memory = λ short none. none b frame.mark opens;
      }

      entered : IsLawful w → b ≤ length old.input → frame.within ≡ within → depth old < max → Opens (reader w u tells_without_limits max) old (entered_into old b frame) site within (Ok tt)
      entered laws ends is room =
          let ahead : old.at ≤ b = elim (laws.opens_ahead old.input site.table site.place (depth old) old.at b frame.mark opens) [
            | inl less ↦ omega (arith, less)
            | inr at_end ↦ let here : old.at ≡ b = at_end.0 in omega (arith, here)
          ] in
          record {
            conduct = goes_on old (entered_into old b frame) tt sound ahead ends;
            narrow = ((λ h. cc), λ h. cc);
            undue = λ undue. absurd (let both : true ≡ false = sym due ∙ undue in cc);
            told = λ due. tt;
            ok = record {
              shallow = room;
              allowed = allows.1 (grind (arith, nat_tests, room));
              opens = opens;
              input = refl;
              within = is;
              outer = refl;
              due = refl;
              failed = sound;
            };
            refused = λ fault. absurd fault;
            none_without_limits = λ strict fault. absurd fault;
            invalid = λ fault. absurd fault;
            deepest = λ deep. cc;
            deep = λ deep. cc;
            memory = λ short. cc;
          }

      -- one opens there, and is entered where fewer are open than may be
      pub opens_one : (new : Cursor) (held : ℕ) (given : Frame) (result : Result (Unit {0}) SerdeError) → IsLawful w → b ≤ length old.input → frame.within ≡ within → held ≡ max → given ≡ frame
          → EntersInto old new held b given result → Opens (reader w u tells_without_limits max) old new site within result
      opens_one new held given (Ok x) laws ends is limit same enters =
          rw (enters.ok, same) (entered laws ends is (subst (λ n. depth old < n) limit enters.shallow))
      opens_one new held given (Err e) laws ends is limit same enters = elim enters.error [
        | inl deep ↦ rw deep (too_deep new enters.err (enters.deepest (ap Err deep) ∙ limit))
        | inr memory ↦ rw memory (no_memory new enters.err)
      ]

  -- ---- what comes next in a structure or a union

  -- where no value was due
  pub steps_undue : {told : Type 0} (old new : Cursor) (result : Result Step SerdeError) → old.due ≡ false → StepsFrom (reader w u told max) old old.at new site result
      → (IsErrOf result TooDeep → w.limits_skips ≡ true) → GoesOnInStructure (reader w u tells_without_limits max) old new site result
  steps_undue old new result undue from limited =
      let same : passed_to old old.at ≡ old = ap (λ (due : Bool). record old { due = due }) (sym undue) in
      record {
        conduct = from.conduct;
        narrow = from.narrow;
        ok = λ here. subst (λ c. IfOk result (λ step. MatchStep step w c new site)) same from.ok;
        refused = λ fault here. subst (λ c. CannotGoOn w c site.table site.place) same (from.refused fault);
        none_without_limits = λ strict fault here. subst (λ c. CannotGoOn u c site.table site.place) same (from.none_without_limits fault);
        unread = λ due. absurd (let both : true ≡ false = sym due ∙ undue in cc);
        unread_refused = λ fault due. absurd (let both : true ≡ false = sym due ∙ undue in cc);
        unread_would = λ strict fault due. absurd (let both : true ≡ false = sym due ∙ undue in cc);
        deep = from.deep;
        limited = limited;
      }

  -- where one was left unread
  pub steps_past : (old new : Cursor) (result : Result Step SerdeError) → old.due ≡ true → Conducts old new result → RefusesNoKind result
      → IfOk result (λ step. (e : ℕ) × w.skips old.input (depth old) old.at e × MatchStep step w (passed_to old e) new site)
      → (IsRefused result → (e : ℕ) → w.skips old.input (depth old) old.at e → CannotGoOn w (passed_to old e) site.table site.place)
      → (tells_without_limits → IsInvalid result → (e : ℕ) → u.skips old.input (depth old) old.at e → CannotGoOn u (passed_to old e) site.table site.place)
      → (IsErrOf result TooDeep → ReachesDepth w max old) → (IsErrOf result TooDeep → w.limits_skips ≡ true)
      → GoesOnInStructure (reader w u tells_without_limits max) old new site result
  steps_past old new result due conduct narrow ok refused none_without_limits deep limited = record {
    conduct = conduct;
    narrow = narrow;
    ok = λ undue. absurd (let both : true ≡ false = sym due ∙ undue in cc);
    refused = λ fault undue. absurd (let both : true ≡ false = sym due ∙ undue in cc);
    none_without_limits = λ strict fault undue. absurd (let both : true ≡ false = sym due ∙ undue in cc);
    unread = λ here. ok;
    unread_refused = λ fault here. refused fault;
    unread_would = λ strict fault here. none_without_limits strict fault;
    deep = deep;
    limited = limited;
  }

  -- where it ends at a place
  pub steps_behind : {told : Type 0} (old new : Cursor) (result : Result Step SerdeError) (end : ℕ) → old.due ≡ true → w.skips old.input (depth old) old.at end
      → ((e : ℕ) → w.skips old.input (depth old) old.at e → end ≡ e) → ((e : ℕ) → u.skips old.input (depth old) old.at e → end ≡ e)
      → StepsFrom (reader w u told max) old end new site result
      → (IsErrOf result TooDeep → ReachesDepth w max old) → (IsErrOf result TooDeep → w.limits_skips ≡ true)
      → GoesOnInStructure (reader w u tells_without_limits max) old new site result
  steps_behind old new result end due skips same same_lifted from =
      steps_past old new result due from.conduct from.narrow
      (IfOk-weaker result (λ step. MatchStep step w (passed_to old end) new site) (λ step. (e : ℕ) × w.skips old.input (depth old) old.at e × MatchStep step w (passed_to old e) new site)
      (λ step steps. (end, skips, steps)) from.ok)
      (λ fault e there. subst (λ e. CannotGoOn w (passed_to old e) site.table site.place) (same e there) (from.refused fault))
      (λ strict fault e there. subst (λ e. CannotGoOn u (passed_to old e) site.table site.place) (same_lifted e there) (from.none_without_limits fault))

  -- what is said whatever the settings are is said under these
  pub steps_always : (old new : Cursor) (result : Result Step SerdeError) → GoesOnInStructure (reader w u (Unit {0}) max) old new site result
      → GoesOnInStructure (reader w u tells_without_limits max) old new site result
  steps_always old new result said = record {
    conduct = said.conduct;
    narrow = said.narrow;
    ok = said.ok;
    refused = said.refused;
    none_without_limits = λ strict. said.none_without_limits tt;
    unread = said.unread;
    unread_refused = said.unread_refused;
    unread_would = λ strict. said.unread_would tt;
    deep = said.deep;
    limited = said.limited;
  }

module _ {told : Type 0} (w u : Relations) (max : ℕ) (site : Site) (old new : Cursor) (at : ℕ) where
  -- the step is to an entry, or out of the structure
  pub stepped : (step : Step) → Conducts old new (Ok step) → MatchStep step w (passed_to old at) new site → StepsFrom (reader w u told max) old at new site (Ok step)
  stepped step conduct steps = record {
    conduct = conduct;
    narrow = (((λ h. cc), λ h. cc), λ h. cc);
    ok = steps;
    refused = λ fault. absurd fault;
    none_without_limits = λ fault. absurd fault;
    deep = λ h. cc;
  }

  -- neither comes
  pub stuck : (error : SerdeError) → error ≡ InvalidInput → new ≡ failed_at old → old.at ≤ length old.input → old.failed ≡ false
      → CannotGoOn w (passed_to old at) site.table site.place → CannotGoOn u (passed_to old at) site.table site.place
      → StepsFrom (reader w u told max) old at new site (Err error)
  stuck error is stays within sound none none_lifted = rw is (record {
    conduct = conducts old new InvalidInput stays within sound (λ h. cc) tt;
    narrow = (((λ h. cc), λ h. cc), λ h. cc);
    ok = tt;
    refused = λ fault. none;
    none_without_limits = λ fault. none_lifted;
    deep = λ h. cc;
  })
