-- What a call by a prepared task answers.
use Rattle.std.specs.Prelude.{◌≡◌, ◌⊎◌, ◌++◌, ◌∷◌, [], ℕ, List, length, slice_get, Option, Some, None}
use Rattle.smithy_transcode.specs.Wires.{wire_of}
use Rattle.smithy_transcode.specs.Transcoding.{Answer, Transcodes}
use Rattle.smithy_transcode_c.specs.declared.kept.Kept.{Kept}
use Rattle.smithy_transcode_c.specs.declared.asked.Meant.{Meant}
use Rattle.smithy_transcode_c.specs.declared.refusal.Refusal.{Refusal}
use Rattle.smithy_transcode_c.specs.Refusals.{refusal_number}
use Rattle.smithy_transcode_c.specs.Calls.{Asked, IsMeant, IsPassedOn, Refuses}

-- What was kept has one task more, the last, which is what is asked for.
pub record HasTask (asked : Asked) (before after : Kept) : Type 0 where
  pub task : Meant
  pub meant : IsMeant before.shapes asked task.root.0 (wire_of task.from) (wire_of task.to)
  pub same : after.shapes ≡ before.shapes
  pub last : after.tasks.items ≡ before.tasks.items ++ task ∷ []

-- the same table, and the same tasks
abbrev pub IsAsBefore : (before after : Kept) → Type 0
IsAsBefore before after = (after.shapes ≡ before.shapes) × (after.tasks.items ≡ before.tasks.items)

-- What a call that prepares a task answers, where the table is handed back: 0 and the number of the task, which is its last, or why
-- there is none.
abbrev pub PrepareAnswer : Asked → (before : Kept) → (place : Option Kept) → (number old_task new_task : ℕ) → Type 0
PrepareAnswer asked before place number old_task new_task =
    (after : Kept) × (place ≡ Some after)
    × (((number ≡ 0) × (new_task ≡ length before.tasks.items) × HasTask asked before after)
    ⊎ ((refusal : Refusal) × Refuses before.shapes asked refusal × (number ≡ refusal_number refusal) × (new_task ≡ old_task) × IsAsBefore before after))

-- What a call by the task of this number answers: that there is no such task, or what becomes of the answer of `transcode` for it.
abbrev pub TaskAnswer : Kept → (task : ℕ) → (input room : List ℕ) → (number body_len : ℕ) → (out : List ℕ) → Type 0
TaskAnswer kept task input room number body_len out =
    ((slice_get kept.tasks.items task ≡ None) × (number ≡ 2) × (body_len ≡ 0) × (out ≡ room))
    ⊎ ((meant : Meant) × (answer : Answer) × (slice_get kept.tasks.items task ≡ Some meant)
    × Transcodes kept.shapes meant.root.0 (wire_of meant.from) input (wire_of meant.to) answer × IsPassedOn answer room number body_len out)
