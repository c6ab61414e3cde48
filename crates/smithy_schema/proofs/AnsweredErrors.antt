-- Which errors the reads of a caller's own types answer.
use Rattle.std.proofs.Common.{◌≡◌, ◌↔◌, Bool, true, false, Option, List, Result, Ok, Err, OnErr, IsErrOf, inl, inr, refl, sym, ◌∙◌, ap, subst}
use Rattle.smithy_schema.specs.declared.error.SerdeError.{SerdeError}
use Rattle.smithy_schema.specs.declared.error.SerdeError.TheVariants.{InvalidInput, TypeMismatch, TooDeep, TooWide, NotCarried, Failed, NoMemory}
use Rattle.smithy_shapes.specs.Site.{Site}
use Rattle.smithy_declarations.specs.Value.{Value}
use Rattle.smithy_schema.specs.Errors.{IsOfReader, IsOfCursor}
use Rattle.smithy_schema.specs.Reading.{Cursor, ContainerKind, in_structure, in_list, Conducts, failed_at, Reader}
use Rattle.smithy_schema.specs.Consuming.{Call, Route, Along, ended, refused, stopped, went, Consumes, unopened, entered, Rests, by_member, by_element}
use Rattle.smithy_schema.specs.Passing.{ReadsNull}
use Rattle.smithy_schema.specs.Fields.{TakesField, took, null_passed, passed, broke}
use Rattle.smithy_schema.specs.Typed.{MayAnswer, FailsAsReader}
use Rattle.smithy_schema.proofs.ConsumingLemmas.{same_error, is_error}

-- an error of a cursor call is one of a reader
cursor_reads : (e : SerdeError) → IsOfCursor e → IsOfReader e
cursor_reads InvalidInput is = tt
cursor_reads TypeMismatch is = tt
cursor_reads TooDeep is = tt
cursor_reads TooWide is = tt
cursor_reads NotCarried is = tt
cursor_reads Failed is = tt
cursor_reads NoMemory is = tt
cursor_reads _ is = absurd is

sound_still : (b : Bool) → b ≡ false → b ≡ true → ⊥
sound_still b sound had = let clash : true ≡ false = sym had ∙ sound in cc

-- ---- one call

-- an error of a reader that hadn't failed where the value began
pub broke_inside : {A : Type 0} (old here new : Cursor) (e : SerdeError) → old.failed ≡ false → here.failed ≡ false → MayAnswer here e → new.failed ≡ true → FailsAsReader {A = A} old new (Err e)
broke_inside {A} old here new e first sound may broken = record {
  failed = (λ is. absurd (sound_still here.failed sound (may.1 (same_error A e Failed is))), λ had. absurd (sound_still old.failed first had));
  reading = may.0;
  broken = broken;
}

-- a value was read, by a reader that hadn't failed
pub read_sound : {A : Type 0} (x : A) (old new : Cursor) → old.failed ≡ false → FailsAsReader {A = A} old new (Ok x)
read_sound x old new sound = record {
  failed = (λ is. cc, λ had. absurd (sound_still old.failed sound had));
  reading = tt;
  broken = tt;
}

pub was_read : {A : Type 0} (x : A) (b : Bool) → IsErrOf {E = SerdeError} (Ok x) Failed ↔ (b ≡ true) → b ≡ false
was_read x true h = let clash = h.1 refl in cc
was_read x false h = refl

-- the call `fail`
pub now_failed : (old new : Cursor) → new ≡ failed_at old → new.failed ≡ true
now_failed old new is = ap (λ (c : Cursor). c.failed) is

-- the same of an answer of another type
pub same_failure : {A B : Type 0} (old new : Cursor) (e : SerdeError) → FailsAsReader {A = A} old new (Err e) → FailsAsReader {A = B} old new (Err e)
same_failure {A} {B} old new e fails = record {
  failed = (λ is. fails.failed.0 (is_error A e Failed (same_error B e Failed is)), λ had. is_error B e Failed (same_error A e Failed (fails.failed.1 had)));
  reading = fails.reading;
  broken = fails.broken;
}

pub same_success : {A B : Type 0} (x : A) (y : B) (old new : Cursor) → FailsAsReader {A = A} old new (Ok x) → FailsAsReader {A = B} old new (Ok y)
same_success x y old new fails = read_sound y old new (was_read x old.failed fails.failed)

-- a call of the reader's own
pub conducted : {A B : Type 0} (old new : Cursor) (e : SerdeError) → Conducts {A = A} old new (Err e) → FailsAsReader {A = B} old new (Err e)
conducted {A} {B} old new e conduct = record {
  failed = (λ is. conduct.failed.0 (is_error A e Failed (same_error B e Failed is)), λ had. is_error B e Failed (same_error A e Failed (conduct.failed.1 had)));
  reading = conduct.reading;
  broken = now_failed old new conduct.stays;
}

-- what may be answered for a value that is part of another
pub may_answer : {A : Type 0} (old new : Cursor) (e : SerdeError) → FailsAsReader {A = A} old new (Err e) → MayAnswer old e
may_answer {A} old new e fails = (fails.reading, λ is. fails.failed.0 (is_error A e Failed is))

-- ---- calls with a consumer

rests_sound : (d f : Cursor) → d.failed ≡ false → Rests d f → f.failed ≡ false
rests_sound d f sound (inl same) = ap (λ (c : Cursor). c.failed) same ∙ sound
rests_sound d f sound (inr taken) = taken.passes.failed

module _ {K C : Type 0} (route : Route K) (call : Call K C) (goes_sound : (k : K) (c d : Cursor) → route.goes k c d → d.failed ≡ false)
    (refuses : (c : Cursor) (e : SerdeError) → route.refuses c e → MayAnswer c e) (calls : (k : K) (s t : C) (d f : Cursor) (e : SerdeError) → call k s d (Err e) t f → MayAnswer d e) where
  along_answers : (s t : C) (c g : Cursor) (result : Result (Unit {0}) SerdeError) → Along route call s c result t g → c.failed ≡ false → (e : SerdeError) → result ≡ Err e
      → (here : Cursor) × (here.failed ≡ false) × MayAnswer here e
  along_answers s t c g result (ended leaves) sound e is = absurd (let h : Ok tt ≡ Err e = is in cc)
  along_answers s t c g result (refused {e = h} why) sound e is = (c, sound, subst (MayAnswer c) (same_error (Unit {0}) h e is) (refuses c h why))
  along_answers s t c g result (stopped {d = d} {f = f} {e = h} k goes called) sound e is =
      (d, goes_sound k c d goes, subst (MayAnswer d) (same_error (Unit {0}) h e is) (calls k s t d f h called))
  along_answers s t c g result (went {t = u} {d = d} {f = f} k goes called rests more) sound e is =
      along_answers u t f g result more (rests_sound d f (goes_sound k c d goes) rests) e is

  consumes_answers : (r : Reader) (site : Site) (within : ContainerKind) (s t : C) (c g : Cursor) (result : Result (Unit {0}) SerdeError)
      → Consumes r site within route call s c result t g → OnErr result (g.failed ≡ true) → FailsAsReader c g result
  consumes_answers r site within s t c g result (unopened {e = e} why) broken = record {
    failed = (λ is. why.failed.0 (same_error (Unit {0}) e Failed is), λ had. is_error (Unit {0}) e Failed (why.failed.1 had));
    reading = cursor_reads e why.narrow;
    broken = broken;
  }
  consumes_answers r site within s t c g result (entered {d = d} live due enters along) broken = by_result result along broken
    where
      by_result : (result : Result (Unit {0}) SerdeError) → Along route call s d result t g → OnErr result (g.failed ≡ true) → FailsAsReader c g result
      by_result (Ok done) along broken = read_sound done c g live
      by_result (Err e) along broken =
          let (here, sound, may) = along_answers s t d g (Err e) along enters.failed e refl in
          broke_inside c here g e live sound may broken

null_answers : (r : Reader) (d f : Cursor) (result : Result (Unit {0}) SerdeError) → ReadsNull r d f result → (e : SerdeError) → result ≡ Err e → MayAnswer d e
null_answers r d f (Ok done) reads e is = absurd (let h : Ok done ≡ Err e = is in cc)
null_answers r d f (Err h) reads e is =
    subst (MayAnswer d) (same_error (Unit {0}) h e is) (reads.conduct.reading, λ failed. reads.conduct.failed.0 (is_error (Unit {0}) h Failed failed))

-- a consumer that keeps fields
field_answers : {C : Type 0} (fields : C → List (Option Value)) (r : Reader) (k : Option Site) (s t : C) (d f : Cursor) (result : Result (Unit {0}) SerdeError) → TakesField fields r k s d result t f → (e : SerdeError) → result ≡ Err e → MayAnswer d e
field_answers fields r k s t d f result (took n v index reads after) e is = absurd (let h : Ok tt ≡ Err e = is in cc)
field_answers fields r k s t d f result (null_passed declared due reads) e is = null_answers r d f result reads e is
field_answers fields r k s t d f result passed e is = absurd (let h : Ok tt ≡ Err e = is in cc)
field_answers fields r k s t d f result (broke {e = h} may why) e is = subst (MayAnswer d) (same_error (Unit {0}) h e is) may

pub fields_fail : {C : Type 0} (fields : C → List (Option Value)) (r : Reader) (outer : Site) (s t : C) (c g : Cursor) (result : Result (Unit {0}) SerdeError)
    → Consumes r outer in_structure (by_member r outer) (TakesField fields r) s c result t g → OnErr result (g.failed ≡ true) → FailsAsReader c g result
fields_fail fields r outer s t c g result consumes =
    consumes_answers (by_member r outer) (TakesField fields r) (λ k a b goes. goes.steps.failed) (λ a e why. (cursor_reads e why.narrow, why.failed.0))
    (λ k a b d f e called. field_answers fields r k a b d f (Err e) called e refl) r outer in_structure s t c g result consumes

-- a consumer of a list's elements
pub elements_fail : {C : Type 0} (r : Reader) (outer : Site) (call : Call (Unit {0}) C) → ((s t : C) (d f : Cursor) (e : SerdeError) → call tt s d (Err e) t f → MayAnswer d e)
    → (s t : C) (c g : Cursor) (result : Result (Unit {0}) SerdeError) → Consumes r outer in_list (by_element r outer) call s c result t g → OnErr result (g.failed ≡ true) → FailsAsReader c g result
elements_fail r outer call calls s t c g result consumes =
    consumes_answers (by_element r outer) call (λ k a b goes. goes.steps.failed) (λ a e why. (cursor_reads e why.0.narrow, why.0.failed.0))
    (λ k a b d f e called. calls a b d f e called) r outer in_list s t c g result consumes
