-- What a call that prepares a task answers, by what the table prepares.
use Rattle.std.proofs.Common.{◌≡◌, ℕ, length, Option, Some, refl, inl, inr}
use Rattle.smithy_transcode_c.specs.declared.kept.Kept.{Kept}
use Rattle.smithy_transcode_c.specs.declared.refusal.Refusal.{Refusal}
use Rattle.smithy_transcode_c.specs.Refusals.{refusal_number}
use Rattle.smithy_transcode_c.specs.Calls.{Asked, Refuses}
use Rattle.smithy_transcode_c.specs.Tasks.{HasTask, IsAsBefore, PrepareAnswer}

module _ (asked : Asked) (before old after : Kept) (place : Option Kept) (same : old ≡ before) (back : place ≡ Some after) where
  pub task_prepared : (old_task new_task : ℕ) → (new_task ≡ length old.tasks.items) × HasTask asked old after → PrepareAnswer asked before place 0 old_task new_task
  task_prepared old_task new_task told = let given = rw same at told in (after, back, inl (refl, given.0, given.1))

  pub task_refused : (refusal : Refusal) (number task : ℕ) → Refuses old.shapes asked refusal × IsAsBefore old after → number ≡ refusal_number refusal
      → PrepareAnswer asked before place number task task
  task_refused refusal number task told is = let given = rw same at told in (after, back, inr (refusal, given.0, is, refl, given.1))
