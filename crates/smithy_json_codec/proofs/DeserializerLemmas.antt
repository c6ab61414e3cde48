-- What a reader finds at a place, as the contract of reading says it.
use Rattle.std.proofs.Common.{◌≡◌, ◌≢◌, ◌≤◌, ◌+◌, inr, ℕ, length, List, true, false, Option, Some, None, Result, Ok, Err, refl, sym, ap, subst, ◌∙◌, arith}
use Rattle.std.proofs.lemmas.Bool.Decides.{nat_tests}
use Rattle.std.specs.Prelude.{◌↔◌, Bool, nat_le, IfSome}
use Rattle.std.specs.Result.{IsErrOf, IfOk}
use Rattle.std.specs.declared.alloc.AllocError.{AllocError}
use Rattle.smithy_schema.specs.declared.error.SerdeError.{SerdeError}
use Rattle.smithy_schema.specs.declared.error.SerdeError.TheVariants.{Failed}
use Rattle.smithy_schema.specs.declared.error.SerdeError.TheVariants as errors
use Rattle.smithy_declarations.specs.declared.place.Place.{Place}
use Rattle.smithy_declarations.specs.Table.{Table, kind_of, IsList, IsMap, IsStructure}
use Rattle.smithy_schema.specs.Errors.{IsFault, IsInvalid, IsOfReader, RefusesNoKind}
use Rattle.smithy_schema.specs.Reading.{Cursor, depth, Steps, Conducts, SkipsNot, CannotGoOn, failed_at, in_list, in_map}
use Rattle.smithy_json_grammar.specs.Ascii.{end_array, end_object}
use Rattle.smithy_json_grammar.specs.Unescape.{unescaped}
use Rattle.smithy_json_codec.specs.declared.members.EntryFault.{EntryFault}
use Rattle.smithy_json_codec.specs.declared.members.EntryFault.TheVariants as entry_faults
use Rattle.smithy_json_values.specs.declared.skip.SkipFault.{SkipFault}
use Rattle.smithy_json_values.specs.declared.skip.SkipFault.TheVariants as skip_faults
use Rattle.smithy_json_codec.specs.Cursor.{inside_of}
use Rattle.smithy_wire.specs.declared.found.Found.{Found}
use Rattle.smithy_wire.specs.declared.found.Found.TheVariants.{Value, Nothing, Beyond}
use Rattle.smithy_wire.specs.Finding.{MatchFound, Takes, TakesWithin}
use Rattle.smithy_wire.specs.Walking.{gone_on_to}
use Rattle.smithy_json_values.specs.Settings.{Settings, without_limits, is_shallow, kept}
use Rattle.smithy_json_values.specs.LexicalGrammar.{frames_of}
use Rattle.smithy_json_values.specs.Standing.{json_grammar, json_relations, end_mark}
use Rattle.smithy_json_values.specs.Tokens.{IsOverBy}
use Rattle.smithy_json_values.specs.Private.NextInContainer.{ElementBegins, ClosesIn, NamesIn, GoesOnInArray, GoesOnInObject}
use Rattle.smithy_json_values.specs.Private.Skipping.{SkipsTo, skip_refusal}
use Rattle.smithy_json_codec.specs.Private.PassedEntries.{entry_refusal}
use Rattle.smithy_json_codec.proofs.ReaderLemmas.{steps_in_list, list_is_stuck, steps_in_map, map_is_stuck, same_names, names_or_end}
use Rattle.smithy_json_codec.proofs.SkippedValues.{skips_are}
use Rattle.smithy_wire.specs.Frames.{IsTold}
use Rattle.smithy_wire.specs.Node.{as_object, nesting}
use Rattle.smithy_wire.specs.Lemmas.Nodes.{one_node}
use Rattle.smithy_json_values.specs.Private.Wire.{tokens_are_wire, over_is_end}

-- what a read answers lies from where the reader was to where it is
pub answers_within : {A : Type 0} (P : A → ℕ → Type 0) (old new : Cursor) (beyond : SerdeError) (found : Result (Found (A × ℕ)) AllocError) (result : Result A SerdeError)
    → IfOk found (λ f. MatchFound f (λ r. P r.0 r.1) (Unit {0}) (Unit {0})) → TakesWithin old new beyond found result → IfOk result (λ x. P x new.at)
answers_within P old new beyond (Ok (Value r)) result here taken = rw (taken.0, taken.1) here
answers_within P old new beyond (Ok Nothing) result here taken = rw taken.0 tt
answers_within P old new beyond (Ok Beyond) result here taken = rw taken.0 tt
answers_within P old new beyond (Err e) result here taken = rw taken.0 tt

pub takes_so : {A : Type 0} (P : A → ℕ → Type 0) (old new : Cursor) (found : Result (Option (A × ℕ)) AllocError) (result : Result A SerdeError)
    → IfOk found (λ o. IfSome o (λ r. P r.0 r.1)) → Takes old new found result → IfOk result (λ x. P x new.at)
takes_so P old new (Ok (Some r)) result here taken = rw (taken.0, taken.1) here
takes_so P old new (Ok None) result here taken = rw taken.0 tt
takes_so P old new (Err e) result here taken = rw taken.0 tt

-- ---- containers

-- where the input is over a structure opens
pub over_opens : (o : Settings) (c : Cursor) (t : Table) (p : Place) (e : ℕ) → IsStructure (kind_of t p) → IsOverBy o.enforce_strictness c.input c.at e
    → (json_relations o).opens c.input t p (depth c) c.at e end_mark
over_opens o c t p e kind over = inr (kind, over, refl)

-- a test that fails says that it is not over
pub not_over : (strict : Bool) (i : List ℕ) (at e : ℕ) (test : Bool) → (test ≡ true) ↔ IsOverBy strict i at (length i) → test ≡ false → IsOverBy strict i at e → ⊥
not_over strict i at e test tells fails over =
    let clash : true ≡ false = sym (tells.1 (subst (IsOverBy strict i at) (over_is_end strict i at e over).1 over)) ∙ fails in cc

-- the list went on to an element
pub element_steps : (o : Settings) (old new : Cursor) (t : Table) (p : Place) (b : ℕ) → IsList (kind_of t p) → old.inner.within ≡ in_list → old.failed ≡ false
    → new ≡ gone_on_to old b (inside_of in_list true) → ElementBegins old.input old.at old.inner.mark.entered b → Steps (json_relations o) old new t p None
element_steps o old new t p b kind within sound is begins = rw is (record {
  steps = steps_in_list o old.input t p kind (depth old) old.at old.inner.mark b begins.0 begins.1;
  input = refl;
  within = sym within;
  outer = refl;
  due = refl;
  failed = sound;
})

-- the list goes on neither to an element nor to its end
pub list_stuck : (o : Settings) (c : Cursor) (t : Table) (p : Place) → IsList (kind_of t p) → (held : ℕ) → held ≡ depth c
    → GoesOnInArray (json_grammar o) c.input c.at c.inner.mark.entered held None → CannotGoOn (json_relations o) c t p
list_stuck o c t p kind held same h =
    let shut = subst (λ d. (e : ℕ) → ClosesIn (json_grammar o) end_array c.input c.at d e → ⊥) same h.1 in
    list_is_stuck o c.input t p kind (depth c) c.at c.inner.mark (λ b separated goes. h.0 b (separated, goes)) (λ e lies follows. shut e (lies, follows))

-- ---- maps

-- the map went on to an entry
pub entry_steps : (o : Settings) (old new : Cursor) (t : Table) (p : Place) (raw key : List ℕ) (b : ℕ) → IsMap (kind_of t p) → old.inner.within ≡ in_map → old.failed ≡ false
    → new ≡ gone_on_to old b (inside_of in_map true) → NamesIn (json_grammar o) old.inner.mark.entered old.input old.at raw b → unescaped raw ≡ Some key
    → Steps (json_relations o) old new t p (Some key)
entry_steps o old new t p raw key b kind within sound is names some = rw is (record {
  steps = steps_in_map o old.input t p kind (depth old) old.at old.inner.mark raw key b names some;
  input = refl;
  within = sym within;
  outer = refl;
  due = refl;
  failed = sound;
})

-- the map goes on neither to a key nor to its end
pub map_stuck : (o : Settings) (c : Cursor) (t : Table) (p : Place) → IsMap (kind_of t p) → (held : ℕ) → held ≡ depth c
    → GoesOnInObject (json_grammar o) c.input c.at c.inner.mark.entered held None → CannotGoOn (json_relations o) c t p
map_stuck o c t p kind held same h =
    let shut = subst (λ d. (e : ℕ) → ClosesIn (json_grammar o) end_object c.input c.at d e → ⊥) same h.1 in
    map_is_stuck o c.input t p kind (depth c) c.at c.inner.mark (λ raw b names told. h.0 raw b names) (λ e lies follows. shut e (lies, follows))

-- nor where its key has no text
pub key_stuck : (o : Settings) (c : Cursor) (t : Table) (p : Place) (raw : List ℕ) (b : ℕ) → IsMap (kind_of t p) → NamesIn (json_grammar o) c.inner.mark.entered c.input c.at raw b
    → unescaped raw ≡ None → CannotGoOn (json_relations o) c t p
key_stuck o c t p raw b kind names wordless =
    map_is_stuck o c.input t p kind (depth c) c.at c.inner.mark
    (λ other d there told. subst (IsTold as_object) (ap unescaped (same_names c.input c.inner.mark.entered c.at other raw d b there.0 names.0).0 ∙ wordless) told)
    (λ e lies follows. names_or_end c.input c.inner.mark.entered c.at raw b e names.0 lies)

-- ---- skipped values

pub kept_shallow : (o : Settings) (d : ℕ) → o.limits ≡ kept → is_shallow o d ≡ true → d ≤ o.max_depth
kept_shallow o d limits shallow = let test : nat_le d o.max_depth ≡ true = rw limits at shallow in grind (arith, nat_tests, test)

pub shallow_kept : (o : Settings) (d : ℕ) → o.limits ≡ kept → d ≤ o.max_depth → is_shallow o d ≡ true
shallow_kept o d limits shallow = let test : nat_le d o.max_depth ≡ true = grind (arith, nat_tests, shallow) in rw limits test

module _ (o : Settings) (c : Cursor) where
  -- nothing can be skipped, under limits that are kept
  pub skips_not : (held : ℕ) → held ≡ depth c → o.limits ≡ kept → ((e : ℕ) → SkipsTo (json_grammar o) o.max_depth held c.input c.at e → ⊥) → SkipsNot (json_relations o) c
  skips_not held same limits none e skips =
      let s = (skips_are (json_grammar o) o c.input (depth c) c.at e).1 skips in
      none e (rw same (record { node = s.0; lies = s.1; shallow = kept_shallow o (depth c + nesting s.0) limits s.2 }))

  -- nor with the limits lifted
  pub skips_never : (held : ℕ) → held ≡ depth c → ((greatest e : ℕ) → SkipsTo (json_grammar o) greatest held c.input c.at e → ⊥) → SkipsNot (json_relations (without_limits o)) c
  skips_never held same none e skips =
      let s = (skips_are (json_grammar o) (without_limits o) c.input (depth c) c.at e).1 skips in
      none (depth c + nesting s.0) e (rw same (record { node = s.0; lies = s.1; shallow = omega arith }))

  -- what was skipped is skipped there
  pub skips_here : (held : ℕ) → held ≡ depth c → o.limits ≡ kept → (e : ℕ) → SkipsTo (json_grammar o) o.max_depth held c.input c.at e
      → (json_relations o).skips c.input (depth c) c.at e
  skips_here held same limits e h =
      let s : SkipsTo (json_grammar o) o.max_depth (depth c) c.input c.at e = rw same at h in
      (skips_are (json_grammar o) o c.input (depth c) c.at e).0 (s.node, s.lies, shallow_kept o (depth c + nesting s.node) limits s.shallow)

  -- what is skipped ends at one place
  pub skips_same : (held greatest : ℕ) → held ≡ depth c → (end e : ℕ) → SkipsTo (json_grammar o) greatest held c.input c.at end
      → (json_relations o).skips c.input (depth c) c.at e → end ≡ e
  skips_same held greatest same end e h skips =
      let s = (skips_are (json_grammar o) o c.input (depth c) c.at e).1 skips in
      let here : SkipsTo (json_grammar o) greatest (depth c) c.input c.at end = rw same at h in
      (one_node (frames_of (json_grammar o)) (tokens_are_wire o.enforce_strictness) c.input (depth c) here.node s.0 c.at end e here.lies.0 s.1.0).1

-- ---- refusals

-- which error an answer holds
pub error_of : {A E : Type 0} (e f : E) → IsErrOf {T = A} (Err e) f → e ≡ f
error_of {A} {E} e f h = let same : ◌≡◌ {A = Result A E} (Err e) (Err f) = h in cc

-- what a refusal tells where nothing is skipped
pub skip_reads : (f : SkipFault) → (skip_refusal f ≢ Failed) × IsOfReader (skip_refusal f)
skip_reads skip_faults.NoValue = ((λ h. cc), tt)
skip_reads skip_faults.TooDeep = ((λ h. cc), tt)

pub skip_narrow : (A : Type 0) (f : SkipFault) → RefusesNoKind {A = A} (Err (skip_refusal f))
skip_narrow A skip_faults.NoValue = (((λ h. cc), λ h. cc), λ h. cc)
skip_narrow A skip_faults.TooDeep = (((λ h. cc), λ h. cc), λ h. cc)

pub skip_takes_no_memory : (A : Type 0) (f : SkipFault) → IsErrOf {T = A} (Err (skip_refusal f)) errors.NoMemory → ⊥
skip_takes_no_memory A skip_faults.NoValue h = cc
skip_takes_no_memory A skip_faults.TooDeep h = cc

pub skip_invalid : (A : Type 0) (f : SkipFault) → IsInvalid {A = A} (Err (skip_refusal f)) → f ≡ skip_faults.NoValue
skip_invalid A skip_faults.NoValue h = refl
skip_invalid A skip_faults.TooDeep h = absurd h

pub skip_deep : (f : SkipFault) → skip_refusal f ≡ errors.TooDeep → f ≡ skip_faults.TooDeep
skip_deep skip_faults.NoValue h = cc
skip_deep skip_faults.TooDeep h = refl

-- what a refusal tells where nothing comes
pub entry_reads : (f : EntryFault) → (entry_refusal f ≢ Failed) × IsOfReader (entry_refusal f)
entry_reads entry_faults.NoEntry = ((λ h. cc), tt)
entry_reads entry_faults.TooDeep = ((λ h. cc), tt)
entry_reads entry_faults.NoMemory = ((λ h. cc), tt)

pub entry_narrow : (A : Type 0) (f : EntryFault) → RefusesNoKind {A = A} (Err (entry_refusal f))
entry_narrow A entry_faults.NoEntry = (((λ h. cc), λ h. cc), λ h. cc)
entry_narrow A entry_faults.TooDeep = (((λ h. cc), λ h. cc), λ h. cc)
entry_narrow A entry_faults.NoMemory = (((λ h. cc), λ h. cc), λ h. cc)

pub entry_refused : (f : EntryFault) → IsFault (entry_refusal f) → f ≡ entry_faults.NoMemory → ⊥
entry_refused entry_faults.NoEntry h is = cc
entry_refused entry_faults.TooDeep h is = cc
entry_refused entry_faults.NoMemory h is = h

pub entry_invalid : (A : Type 0) (f : EntryFault) → IsInvalid {A = A} (Err (entry_refusal f)) → f ≡ entry_faults.NoEntry
entry_invalid A entry_faults.NoEntry h = refl
entry_invalid A entry_faults.TooDeep h = absurd h
entry_invalid A entry_faults.NoMemory h = absurd h

pub entry_deep : (f : EntryFault) → entry_refusal f ≡ errors.TooDeep → f ≡ entry_faults.TooDeep
entry_deep entry_faults.NoEntry h = cc
entry_deep entry_faults.TooDeep h = refl
entry_deep entry_faults.NoMemory h = cc

-- a refusal of the input by a reader that hadn't failed
pub refusal_conducts : {A : Type 0} (old new : Cursor) (error given : SerdeError) → error ≡ given → old.failed ≡ false → given ≢ Failed → IsOfReader given → old.at ≤ length old.input
    → new ≡ failed_at old → Conducts {A = A} old new (Err error)
refusal_conducts {A} old new error given same sound other reading within is = rw (is, same) (record {
  failed = (λ h. absurd (other (error_of {A = A} given Failed h)), λ h. absurd (let both : true ≡ false = sym h ∙ sound in cc));
  stays = refl;
  reading = reading;
  ahead = omega arith;
  within = within;
})

-- an answer of a reader that hadn't failed, and went on
pub goes_ahead : (A : Type 0) (old new : Cursor) (x : A) (at : ℕ) → old.failed ≡ false → new.at ≡ at → new.input ≡ old.input → old.at ≤ at → at ≤ length old.input
    → Conducts {A = A} old new (Ok x)
goes_ahead A old new x at sound place input ahead within = record {
  failed = (λ h. let no : ◌≡◌ {A = Result A SerdeError} (Ok x) (Err Failed) = h in cc, λ h. absurd (let both : true ≡ false = sym h ∙ sound in cc));
  stays = tt;
  reading = tt;
  ahead = rw place ahead;
  within = rw (place, input) within;
}
