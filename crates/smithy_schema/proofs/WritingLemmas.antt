-- Calls one after the other, where the first few were answered.
use Rattle.std.proofs.Common.{◌≡◌, List, [], ◌∷◌, ◌++◌, Result, Ok, Err, refl, ◌∙◌, ap}
use Rattle.smithy_schema.specs.declared.error.SerdeError.{SerdeError}
use Rattle.smithy_schema.specs.Writing.{Event, Writer, run, and_run}

and_run-and_run : {S : Type 0} (after : Writer S) (xs ys : List Event) (r : Result S SerdeError)
    → ((s : S) → run after (xs ++ ys) s ≡ and_run (run after ys) (run after xs s))
    → and_run (run after (xs ++ ys)) r ≡ and_run (run after ys) (and_run (run after xs) r)
and_run-and_run after xs ys (Ok s) rest = rest s
and_run-and_run after xs ys (Err e) rest = refl

-- later calls go on where the earlier ones have come
pub run-append : {S : Type 0} (after : Writer S) (xs ys : List Event) (s : S)
    → run after (xs ++ ys) s ≡ and_run (run after ys) (run after xs s)
run-append after [] ys s = refl
run-append after (x ∷ xs) ys s = and_run-and_run after xs ys (after x s) (run-append after xs ys)

-- the first call was answered by Ok, or was refused
pub call_made : {S : Type 0} (after : Writer S) (x : Event) (xs : List Event) (s t : S)
    → after x s ≡ Ok t → run after (x ∷ xs) s ≡ run after xs t
call_made after x xs s t made = rw made refl

pub call_refused : {S : Type 0} (after : Writer S) (x : Event) (xs : List Event) (s : S) (e : SerdeError)
    → after x s ≡ Err e → run after (x ∷ xs) s ≡ Err e
call_refused after x xs s e refused = rw refused refl

-- the calls of a child were answered by Ok, or one was refused
pub child_written : {S : Type 0} (after : Writer S) (xs ys : List Event) (s t : S)
    → run after xs s ≡ Ok t → run after (xs ++ ys) s ≡ run after ys t
child_written after xs ys s t written = run-append after xs ys s ∙ ap (and_run (run after ys)) written

pub child_refused : {S : Type 0} (after : Writer S) (xs ys : List Event) (s : S) (e : SerdeError)
    → run after xs s ≡ Err e → run after (xs ++ ys) s ≡ Err e
child_refused after xs ys s e refused = run-append after xs ys s ∙ ap (and_run (run after ys)) refused
