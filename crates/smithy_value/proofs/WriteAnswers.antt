-- What a write of a value answers, by each way out of it: one record for each.
use Rattle.std.proofs.Common.{◌≡◌, ◌↔◌, [], ◌∷◌, Bool, true, false, Result, Ok, Err, IfErr, IsErr, IsErrAnd, IsErrOf, OnOk, ap, refl, sym, subst, ◌∙◌}
use Rattle.smithy_schema.specs.declared.error.SerdeError.{SerdeError}
use Rattle.smithy_schema.specs.declared.error.SerdeError.TheVariants.{InvalidInput, TypeMismatch, TooDeep, TooWide, NotCarried, Unsupported, Unwritable, Missing, Failed, NoMemory}
use Rattle.smithy_schema.specs.Errors.{IsFault}
use Rattle.smithy_schema.specs.Writing.{Event, Writer, run}
use Rattle.smithy_schema.proofs.WritingLemmas.{call_made, call_refused}
use Rattle.smithy_value.specs.WriteValue.{WritesValue}

abbrev Answer : Type 0
Answer = Result (Unit {0}) SerdeError

no_error : (u : Unit {0}) (f : SerdeError) → IsErrOf {T = Unit {0}} {E = SerdeError} (Ok u) f → ⊥
no_error u f is = let both : ◌≡◌ {A = Answer} (Ok u) (Err f) = is in cc

no_err : (u : Unit {0}) → IsErr {T = Unit {0}} {E = SerdeError} (Ok u) → ⊥
no_err u is = let both : false ≡ true = is in cc

not_true : (b : Bool) → (b ≡ true → ⊥) → b ≡ false
not_true true none = absurd (none refl)
not_true false none = refl

-- a call that answered Ok had not failed before, and has not now
pub had_not_failed : (had : Bool) (u : Unit {0}) → IsErrOf {T = Unit {0}} {E = SerdeError} (Ok u) Failed ↔ (had ≡ true) → had ≡ false
had_not_failed had u failed = not_true had (λ is. no_error u Failed (failed.1 is))

pub has_not_failed : (has : Bool) (u : Unit {0}) → IsErr {T = Unit {0}} {E = SerdeError} (Ok u) ↔ (has ≡ true) → has ≡ false
has_not_failed has u broken = not_true has (λ is. no_err u (broken.1 is))

failed_as : {A : Type 0} (e : SerdeError) → e ≡ Failed → IsErrOf {T = A} {E = SerdeError} (Err e) Failed
failed_as {A} e is = ap Err is

-- where nothing is at fault and no failure came before, memory ran out
pub only_memory : (e : SerdeError) → (IsFault e → ⊥) → (e ≡ Failed → ⊥) → e ≡ NoMemory
only_memory InvalidInput none first = absurd (none tt)
only_memory TypeMismatch none first = absurd (none tt)
only_memory TooDeep none first = absurd (none tt)
only_memory TooWide none first = absurd (none tt)
only_memory NotCarried none first = absurd (none tt)
only_memory Unsupported none first = absurd (none tt)
only_memory Unwritable none first = absurd (none tt)
only_memory Missing none first = absurd (none tt)
only_memory Failed none first = absurd (first refl)
only_memory NoMemory none first = refl

-- an end that has neither failed nor is at fault doesn't come to an error but for want of memory
pub ends_well : {A : Type 0} (result : Result A SerdeError) (had : Bool) (P : Type 0) → had ≡ false → IsErrOf result Failed ↔ (had ≡ true) → IfErr result (λ e. IsFault e → (e ≡ Unwritable) × (P → ⊥)) → P
    → IfErr result (λ e. e ≡ NoMemory)
ends_well (Ok x) had P sound failed refused p = tt
ends_well {A} (Err e) had P sound failed refused p =
    only_memory e (λ fault. (refused fault).1 p)
    (λ is. let both : true ≡ false = sym (failed.0 (failed_as {A = A} e is)) ∙ sound in cc)

-- what follows ends as the whole does
both_failed : (had now : Bool) (result : Answer) → had ≡ false → now ≡ false → IsErrOf result Failed ↔ (now ≡ true) → IsErrOf result Failed ↔ (had ≡ true)
both_failed had now result before none failed =
    ((λ is. absurd (let both : true ≡ false = sym (failed.0 is) ∙ none in cc)), (λ is. absurd (let both : true ≡ false = sym is ∙ before in cc)))

module _ {S : Type 0} where
  pub same_state : (made : Result S SerdeError) (s t : S) → made ≡ Ok s → made ≡ Ok t → s ≡ t
  same_state made s t h k = let both : ◌≡◌ {A = Result S SerdeError} (Ok s) (Ok t) = sym h ∙ k in cc

  -- what can be written is refused for want of memory alone
  pub memory_alone : (made : Result S SerdeError) (had has : Bool) (new state : S) (e : SerdeError) → WritesValue made had has new (Err e) → had ≡ false → made ≡ Ok state → e ≡ NoMemory
  memory_alone made had has new state e writes sound can =
      only_memory e
      (λ fault. let both : ◌≡◌ {A = Result S SerdeError} (Ok state) (Err e) = sym can ∙ writes.refused fault in cc)
      (λ is. let both : true ≡ false = sym (writes.failed.0 (failed_as {A = Unit {0}} e is)) ∙ sound in cc)

  -- an error of a call is the answer
  pub answered : {made : Result S SerdeError} {had has : Bool} {new : S} (result : Answer) (e : SerdeError) → IsErrAnd result (λ x. x ≡ e) → WritesValue made had has new (Err e) → WritesValue made had has new result
  answered (Ok u) e is writes = absurd is
  answered {made} {had} {has} {new} (Err x) e is writes = subst (λ (y : SerdeError). WritesValue made had has new (Err y)) (sym is) writes

  -- a call of a serializer
  pub called : (made : Result S SerdeError) (had has : Bool) (new : S) (result : Answer)
      → IsErrOf result Failed ↔ (had ≡ true) → IsErr result ↔ (has ≡ true) → OnOk result (made ≡ Ok new) → IfErr result (λ e. IsFault e → made ≡ Err e)
      → WritesValue made had has new result
  called made had has new result failed broken ok refused = record { failed = failed; broken = broken; ok = ok; refused = refused }

  -- where it is all that a value is written by
  pub all_called : (after : Writer S) (x : Event) (s : S) (had has : Bool) (new : S) (result : Answer) → WritesValue (after x s) had has new result → WritesValue (run after (x ∷ []) s) had has new result
  all_called after x s had has new (Ok u) writes = record {
    failed = writes.failed;
    broken = writes.broken;
    ok = call_made after x [] s new writes.ok;
    refused = tt;
  }
  all_called after x s had has new (Err e) writes = record {
    failed = writes.failed;
    broken = writes.broken;
    ok = tt;
    refused = λ fault. call_refused after x [] s e (writes.refused fault);
  }

  -- the first call is refused
  pub first_fails : (first made : Result S SerdeError) (had has : Bool) (new : S) (e : SerdeError) → WritesValue first had has new (Err e) → (first ≡ Err e → made ≡ Err e)
      → WritesValue made had has new (Err e)
  first_fails first made had has new e writes so = record {
    failed = writes.failed;
    broken = writes.broken;
    ok = tt;
    refused = λ fault. so (writes.refused fault);
  }

  -- a later one is refused
  pub later_fails : (later made : Result S SerdeError) (had now has : Bool) (new : S) (e : SerdeError) → had ≡ false → now ≡ false → WritesValue later now has new (Err e) → (later ≡ Err e → made ≡ Err e)
      → WritesValue made had has new (Err e)
  later_fails later made had now has new e before none writes so = record {
    failed = both_failed had now (Err e) before none writes.failed;
    broken = writes.broken;
    ok = tt;
    refused = λ fault. so (writes.refused fault);
  }

  -- the last call ends what is written
  pub last_called : (after : Writer S) (x : Event) (s : S) (made : Result S SerdeError) (had now has : Bool) (new : S) (result : Answer) → had ≡ false → now ≡ false → made ≡ run after (x ∷ []) s
      → WritesValue (after x s) now has new result → WritesValue made had has new result
  last_called after x s made had now has new (Ok u) before none rest writes = record {
    failed = both_failed had now (Ok u) before none writes.failed;
    broken = writes.broken;
    ok = rest ∙ call_made after x [] s new writes.ok;
    refused = tt;
  }
  last_called after x s made had now has new (Err e) before none rest writes = record {
    failed = both_failed had now (Err e) before none writes.failed;
    broken = writes.broken;
    ok = tt;
    refused = λ fault. rest ∙ call_refused after x [] s e (writes.refused fault);
  }
