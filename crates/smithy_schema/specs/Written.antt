-- What a written value adds between the calls that begin and end its container.
use Rattle.std.specs.Prelude.{◌≡◌, ◌↔◌, Bool, true, false, Result, Ok, Err, OnOk, OnErr, IsErr, ℤ, List, ◌∷◌, map}
use Rattle.smithy_schema.specs.declared.error.SerdeError.{SerdeError}
use Rattle.smithy_schema.specs.declared.error.SerdeError.TheVariants.{Failed}
use Rattle.smithy_declarations.specs.Value.{Value, scalar_value, whole as whole_number, list, values_of}
use Rattle.smithy_schema.specs.Errors.{IsFault}
use Rattle.smithy_schema.specs.Writing.{Event, Writer, Open, after_value, open_structure, run}

-- What a call of a value does with any serializer, by what each call makes of its state: the state before, and the state
-- after or the error that it answers.
abbrev pub Adds : Type 0 → Type 1
Adds V = (S : Type 0) → Writer S → V → S → Result S SerdeError → Type 0

-- an answer, with the state after it
abbrev pub outcome : {S : Type 0} → Result (Unit {0}) SerdeError → S → Result S SerdeError
outcome (Ok done) s = Ok s
outcome (Err e) s = Err e

-- The calls are these, one after the other, and any error is that of one of them: a fault by what it makes of a state, or want of
-- memory.
pub data Runs {S : Type 0} (after : Writer S) (events : List Event) (s : S) : Result S SerdeError → Type 0 where
  ran : {t : S} → run after events s ≡ Ok t → Runs after events s (Ok t)
  broke : {e : SerdeError} → (e ≡ Failed → ⊥) → (IsFault e → run after events s ≡ Err e) → Runs after events s (Err e)

-- why a call is refused
pub record Refuses {S : Type 0} (after : Writer S) (event : Event) (s : S) (has_failed : Bool) (e : SerdeError) : Type 0 where
  pub failed : (e ≡ Failed) ↔ (has_failed ≡ true)
  pub fault : IsFault e → after event s ≡ Err e

-- Where the serializer hasn't failed, the container begins, the value is written, and the container ends, in turn; any error is
-- that of one of the three.
pub data Wraps {S : Type 0} (after : Writer S) (begins ends : Event) (adds : S → Result S SerdeError → Type 0) (has_failed : Bool) (s : S) : Result S SerdeError → Type 0 where
  whole : {t u v : S} → has_failed ≡ false → after begins s ≡ Ok t → adds t (Ok u) → after ends u ≡ Ok v → Wraps after begins ends adds has_failed s (Ok v)
  not_begun : {e : SerdeError} → Refuses after begins s has_failed e → Wraps after begins ends adds has_failed s (Err e)
  not_written : {t : S} {e : SerdeError} → has_failed ≡ false → after begins s ≡ Ok t → adds t (Err e) → Wraps after begins ends adds has_failed s (Err e)
  not_ended : {t u : S} {e : SerdeError} → has_failed ≡ false → after begins s ≡ Ok t → adds t (Ok u) → Refuses after ends u false e → Wraps after begins ends adds has_failed s (Err e)

-- What a call of a serializer says of its answer that writes a container, whose parts are written by one call: it counts as one value
-- for the open containers, and the serializer has failed exactly where the answer is an error.
pub record WritesContainer {S : Type 0} (after : Writer S) (open_in : S → List Open) (begins ends : Event) (adds : S → Result S SerdeError → Type 0) (old : S) (had_failed : Bool) (new : S) (has_failed : Bool) (result : Result (Unit {0}) SerdeError) : Type 0 where
  pub wraps : Wraps after begins ends adds had_failed old (outcome result new)
  pub nests : OnOk result (after_value (open_in old) ≡ Ok (open_in new))
  pub broken : IsErr result ↔ (has_failed ≡ true)

-- the innermost open container is this one
abbrev pub IsInside : Open → List Open → Type 0
IsInside o os = (outer : List Open) × (os ≡ o ∷ outer)

-- the list of these whole numbers
abbrev pub list_of_wholes : List ℤ → Value
list_of_wholes ns = list (values_of (map (λ n. scalar_value (whole_number n)) ns))

-- What is written into an open structure: these calls, which leave it open as it was. After an Ok the serializer hasn't failed, and
-- after an error it has.
pub record AddsInside {S : Type 0} (after : Writer S) (open_in : S → List Open) (calls : List Event) (old : S) (has_failed : Bool) (new : S) (result : Result (Unit {0}) SerdeError) : Type 0 where
  pub runs : Runs after calls old (outcome result new)
  pub nests : OnOk result (open_in new ≡ open_in old)
  pub inside : OnOk result (IsInside open_structure (open_in new))
  pub sound : OnOk result (has_failed ≡ false)
  pub broken : OnErr result (has_failed ≡ true)
