-- What the calls on answers that wait to be written say.
use Rattle.std.specs.Prelude.{◌≡◌, ◌++◌, ◌+◌, ℕ, List, [], ◌∷◌, Bool, ◌||◌, Result, Ok, Err}
use Rattle.smithy_outside.specs.Outside.{Shown, MetOneFault, MetNoFault, Took, TookPrefix}
use Rattle.smithy_lines.specs.declared.batch.Batch.{Batch}
use Rattle.smithy_lines.specs.Lines.{line_feed, HasNoFeed}
use Rattle.smithy_lines.specs.Answered.{Answers}

-- the answer to the next line was added
abbrev pub AddsAnswer : Answers → List ℕ → Batch → Batch → Type 0
AddsAnswer answers line old new =
    (answer : List ℕ) × (is : Bool) × answers (old.count + 1) line answer is × HasNoFeed answer
    × (new.text.items ≡ old.text.items ++ answer ++ line_feed ∷ [])
    × (new.count ≡ old.count + 1) × (new.refused ≡ (old.refused || is))

-- the answers that waited were taken, or a prefix of them
abbrev pub IsPassedOn : {T E : Type 0} → Batch → Batch → Shown → Shown → Result T E → Type 0
IsPassedOn old new was now (Ok x) =
    (new.text.items ≡ []) × (new.count ≡ old.count) × (new.refused ≡ old.refused) × MetNoFault was now × Took old.text.items was now
IsPassedOn old new was now (Err e) = MetOneFault was now × TookPrefix old.text.items was now
