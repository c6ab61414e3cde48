-- What the command `transcode` says, by what `transcode` of the library says.
use Rattle.std.proofs.Common.{◌≡◌, ◌⊎◌, inl, inr, ℕ, List, None, Err, refl, ap, ◌∙◌}
use Rattle.smithy_declarations.specs.Table.{Table}
use Rattle.smithy_declarations.specs.Value.{Value}
use Rattle.smithy_transcode.specs.declared.wire.TranscodeError.{TranscodeError}
use Rattle.smithy_transcode.specs.declared.wire.TranscodeError.TheVariants as errors
use Rattle.smithy_transcode.specs.Spelling.{Spells}
use Rattle.smithy_transcode.specs.Transcoding.{Transcodes}
use Rattle.smithy_transcode.specs.Wires.{unfit}
use Rattle.smithy_transcode.proofs.Transcodings.{one_value, not_both}
use Rattle.smithy_commands.specs.declared.status.Status.{Status}
use Rattle.smithy_commands.specs.declared.status.Status.TheVariants.{Done, OutOfMemory, InvalidInput, TooDeep, TooWide, NotCarried, Inexpressible}
use Rattle.smithy_commands.specs.Status.{status_of_error}
use Rattle.smithy_commands.specs.OneInput.{EndsByInput, InputAnswer}
use Rattle.smithy_commands.specs.Transcode.{Transcode, RefusesBody, answers_of, TranscodeAnswer}
use Rattle.smithy_outside.specs.Outside.{Environment}

module _ (c : Transcode) (table : Table) (root : ℕ) (input : List ℕ) where
  -- why there is no body
  pub body_refused : (error : TranscodeError) → Transcodes table root c.from input c.to (Err error) → RefusesBody c table root input (status_of_error error)
  body_refused errors.InvalidInput told = (told.answers_invalid_input refl, told.answers_invalid_without_limits refl)
  body_refused errors.TooDeep told = told.answers_too_deep refl
  body_refused errors.TooWide told = told.answers_too_wide refl
  body_refused errors.NotCarried told = told.answers_not_carried refl
  body_refused (errors.Inexpressible u) told = told.answers_inexpressible u refl
  body_refused errors.NoMemory told = tt

  module _ (v : Value) (spells : Spells c.from table root input v) (fit : unfit c.to table root v ≡ None) where
    only_memory : (status : Status) → RefusesBody c table root input status → status ≡ OutOfMemory
    only_memory InvalidInput why = absurd (why.0 v spells)
    only_memory TooDeep why = absurd (why.0 v spells)
    only_memory TooWide why = absurd (why.0 v spells)
    only_memory NotCarried why = absurd (why.0 v spells)
    only_memory (Inexpressible u) why =
        let same : v ≡ why.0 = one_value c.from table root input v why.0 spells why.1 in
        absurd (not_both (unfit c.to table root v) u fit (ap (unfit c.to table root) same ∙ why.2))
    only_memory OutOfMemory why = refl
    only_memory _ why = absurd why

    done_of : (status : Status) → EndsByInput (answers_of c) table root input status → (status ≡ Done) ⊎ (status ≡ OutOfMemory)
    done_of status (inl given) = inl given.1.0
    done_of status (inr (inl why)) = inr (only_memory status why)
    done_of status (inr (inr memory)) = inr memory

pub transcode_answer : (c : Transcode) (old new : Environment) (status : Status) → InputAnswer (answers_of c) old new status → TranscodeAnswer c old new status
transcode_answer c old new status answers = record {
  answers = answers;
  done = λ text input table root v o spells fit. done_of c table root input v spells fit status (answers.complete text input table root o);
}
