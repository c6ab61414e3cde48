-- What a search for a value of one kind answers, what a walk makes of it, and what a walk answers that enters a container.
use Rattle.std.specs.Prelude.{◌≡◌, ◌<◌, ◌⊎◌, ℕ, Bool, true, false, Result, Ok, Err, OnOk, OnErr, IfErr, IsErrOf, MatchResult, Option, MatchOption}
use Rattle.std.specs.declared.alloc.AllocError.{AllocError}
use Rattle.smithy_schema.specs.Reading.{Cursor, Frame, depth, failed_at, passed_to}
use Rattle.smithy_schema.specs.declared.error.SerdeError.{SerdeError}
use Rattle.smithy_schema.specs.declared.error.SerdeError.TheVariants.{InvalidInput, TypeMismatch, TooDeep, NoMemory}
use Rattle.smithy_wire.specs.Walking.{entered_into}
use Rattle.smithy_wire.specs.declared.found.Found.{Found}
use Rattle.smithy_wire.specs.declared.found.Found.TheVariants.{Value, Nothing, Beyond}

-- the first holds of the value, the second where nothing of the kind stands, the third where something does that the kind excludes
abbrev pub MatchFound : {A : Type 0} → Found A → (A → Type 0) → Type 0 → Type 0 → Type 0
MatchFound (Value x) P none beyond = P x
MatchFound Nothing P none beyond = none
MatchFound Beyond P none beyond = beyond

-- the read answers the value, and goes on behind it
abbrev pub Passes : {A : Type 0} → Cursor → Cursor → A × ℕ → Result A SerdeError → Type 0
Passes old new found result = (result ≡ Ok found.0) × (new ≡ passed_to old found.1)

-- the read is refused with the error, and the reader has failed
abbrev pub Refuses : {A : Type 0} → Cursor → Cursor → SerdeError → Result A SerdeError → Type 0
Refuses old new error result = (result ≡ Err error) × (new ≡ failed_at old)

-- the read answers what was found
abbrev pub Takes : {A : Type 0} → Cursor → Cursor → Result (Option (A × ℕ)) AllocError → Result A SerdeError → Type 0
Takes old new found result = MatchResult found
    (λ o. MatchOption o (Refuses old new InvalidInput result) (λ r. Passes old new r result))
    (λ _. Refuses old new NoMemory result)

-- the same of a kind that excludes something, which is refused with an error of its own
abbrev pub TakesWithin : {A : Type 0} → Cursor → Cursor → SerdeError → Result (Found (A × ℕ)) AllocError → Result A SerdeError → Type 0
TakesWithin old new beyond found result = MatchResult found
    (λ f. MatchFound f (λ r. Passes old new r result) (Refuses old new InvalidInput result) (Refuses old new beyond result))
    (λ _. Refuses old new NoMemory result)

-- What a walk answers that enters a container, of which as many as max may be open: it refuses where that many are, and where memory
-- is wanting.
pub record EntersInto (old new : Cursor) (max inside : ℕ) (frame : Frame) (result : Result (Unit {0}) SerdeError) : Type 0 where
  pub ok : OnOk result (new ≡ entered_into old inside frame)
  pub shallow : OnOk result (depth old < max)
  pub err : OnErr result (new ≡ failed_at old)
  pub deepest : IsErrOf result TooDeep → depth old ≡ max
  pub error : IfErr result (λ e. (e ≡ TooDeep) ⊎ (e ≡ NoMemory))

-- a refusal of what is of another type
abbrev pub typed : SerdeError → SerdeError
typed InvalidInput = TypeMismatch
typed e = e

-- a refusal, and an answer, as they are told where what comes is of another type than the wanted one, or isn't
abbrev pub told_as : Bool → SerdeError → SerdeError
told_as false e = e
told_as true e = typed e

abbrev pub told : {A : Type 0} → Bool → Result A SerdeError → Result A SerdeError
told false result = result
told true (Ok x) = Ok x
told true (Err e) = Err (typed e)
