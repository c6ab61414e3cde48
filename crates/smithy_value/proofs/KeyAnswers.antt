-- The key of a map that a call hands out as another type, by what the call that it came from says.
use Rattle.std.proofs.Common.{◌≡◌, ℕ, List, Option, Some, true, false, Result, Ok, Err, IsErrOf, MatchOption, ap}
use Rattle.smithy_declarations.specs.declared.place.Place.{Place}
use Rattle.smithy_declarations.specs.Table.{Table, kind_of, IsMap}
use Rattle.smithy_schema.specs.declared.error.SerdeError.{SerdeError}
use Rattle.smithy_schema.specs.declared.error.SerdeError.TheVariants.{InvalidInput, TypeMismatch, TooDeep, TooWide, NotCarried, Unsupported, Unwritable, Missing, Failed, NoMemory}
use Rattle.smithy_schema.specs.Errors.{RefusesNoKind, IsRefused, IsInvalid, IsNoAnswer}
use Rattle.smithy_schema.specs.Reading.{Cursor, Relations, Conducts, Steps, Leaves, CannotGoOn, reader}
use Rattle.smithy_schema.specs.Containers.{GoesOnInMap}
use Rattle.smithy_value.proofs.ReadWide.{error_is}

no_error : {A : Type 0} (x : A) (f : SerdeError) → IsErrOf {T = A} {E = SerdeError} (Ok x) f → ⊥
no_error {A} x f is = let both : ◌≡◌ {A = Result A SerdeError} (Ok x) (Err f) = is in cc

error_as : {A B : Type 0} (e f : SerdeError) → IsErrOf {T = A} {E = SerdeError} (Err e) f → IsErrOf {T = B} {E = SerdeError} (Err e) f
error_as {A} {B} e f is = ap Err (error_is {B = A} e f is)

no_answer_as : (A B : Type 0) (e : SerdeError) → IsNoAnswer {A = A} (Err e) → IsNoAnswer {A = B} (Err e)
no_answer_as A B InvalidInput is = tt
no_answer_as A B TypeMismatch is = absurd is
no_answer_as A B TooDeep is = absurd is
no_answer_as A B TooWide is = absurd is
no_answer_as A B NotCarried is = absurd is
no_answer_as A B Unsupported is = absurd is
no_answer_as A B Unwritable is = absurd is
no_answer_as A B Missing is = absurd is
no_answer_as A B Failed is = tt
no_answer_as A B NoMemory is = tt

module _ {A B : Type 0} {max : ℕ} (w u : Relations) (tells_without_limits : Type 0) (bytes : B → List ℕ) (old new : Cursor) where
  -- the call that it came from refuses
  pub key_fails : (e : SerdeError) → Conducts {A = Option A} old new (Err e) → RefusesNoKind {A = Option A} (Err e) → (IsErrOf {T = Option A} {E = SerdeError} (Err e) TooDeep → ⊥)
      → (old.due ≡ true → IsNoAnswer {A = Option A} (Err e))
      → (IsRefused {A = Option A} (Err e) → old.due ≡ false → (t : Table) (p : Place) → IsMap (kind_of t p) → CannotGoOn w old t p)
      → (tells_without_limits → IsInvalid {A = Option A} (Err e) → old.due ≡ false → (t : Table) (p : Place) → IsMap (kind_of t p) → CannotGoOn u old t p)
      → GoesOnInMap {K = B} (reader w u tells_without_limits max) bytes old new (Err e)
  key_fails e conduct narrow shallow unread refused none_without_limits = record {
    conduct = record {
      failed = ((λ is. conduct.failed.0 (error_as {A = Option B} {B = Option A} e Failed is)), λ failed. error_as {A = Option A} {B = Option B} e Failed (conduct.failed.1 failed));
      stays = conduct.stays;
      reading = conduct.reading;
      ahead = conduct.ahead;
      within = conduct.within;
    };
    narrow = (((λ is. narrow.0.0 (error_as {A = Option B} {B = Option A} e TooWide is)), λ is. narrow.0.1 (error_as {A = Option B} {B = Option A} e NotCarried is)), λ is. narrow.1 (error_as {A = Option B} {B = Option A} e TypeMismatch is));
    shallow = λ is. shallow (error_as {A = Option B} {B = Option A} e TooDeep is);
    unread = λ due. no_answer_as (Option A) (Option B) e (unread due);
    ok = λ due t p kind. tt;
    refused = refused;
    none_without_limits = none_without_limits;
  }

  -- it goes on, or ends
  pub key_comes : (x : Option A) (y : Option B) → Conducts {A = Option A} old new (Ok x) → (old.due ≡ true → IsNoAnswer {A = Option A} (Ok x))
      → (old.due ≡ false → (t : Table) (p : Place) → IsMap (kind_of t p) → MatchOption y (Leaves w old new t p) (λ key. Steps w old new t p (Some (bytes key))))
      → GoesOnInMap {K = B} (reader w u tells_without_limits max) bytes old new (Ok y)
  key_comes x y conduct unread ok = record {
    conduct = record {
      failed = ((λ is. absurd (no_error {A = Option B} y Failed is)), λ failed. absurd (no_error {A = Option A} x Failed (conduct.failed.1 failed)));
      stays = tt;
      reading = tt;
      ahead = conduct.ahead;
      within = conduct.within;
    };
    narrow = (((λ is. no_error {A = Option B} y TooWide is), λ is. no_error {A = Option B} y NotCarried is), λ is. no_error {A = Option B} y TypeMismatch is);
    shallow = λ is. no_error {A = Option B} y TooDeep is;
    unread = λ due. absurd (unread due);
    ok = ok;
    refused = λ fault. absurd fault;
    none_without_limits = λ strict invalid. absurd invalid;
  }
