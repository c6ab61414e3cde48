-- What a status says of `replay`.
use Rattle.std.proofs.Common.{◌≡◌, ◌≢◌, ◌≤◌, ◌+◌, ◌⊎◌, inl, inr, ℕ, List, length, Bool, true, false, refl, subst, ap, arith}
use Rattle.smithy_declarations.specs.Table.{Table}
use Rattle.smithy_lines.specs.Lines.{lines_of}
use Rattle.smithy_lines.specs.Answered.{TookAll, EndsIn}
use Rattle.smithy_lines.specs.declared.answer.AnswerFault.TheVariants as faults
use Rattle.smithy_commands.specs.declared.status.Status.{Status}
use Rattle.smithy_commands.specs.declared.status.Status.TheVariants.{Done, Usage, ReadFailed, WriteFailed, OutOfMemory, TableRefused, NoSuchShape, NotAStructure, TooLong, LinesRefused}
use Rattle.smithy_commands.specs.Status.{tells_output}
use Rattle.smithy_commands.specs.Checks.{longest_input, AfterInput, RefusesTable, RefusesChecks, PassesChecks}
use Rattle.smithy_commands.specs.Replay.{Replay, sources_of, line_answers, AfterReplay, IsUnused, Says, AllIsInOrder, ReplayAnswer}
use Rattle.smithy_outside.specs.Outside.{Shown, Environment, missing, MetNoFault, Gave}
use Rattle.smithy_outside.proofs.Faults.{has_failed, steady_meets_none}
use Rattle.smithy_commands.proofs.Refusals.{missing_refuses, refusal_tells_nothing, past_limit, table_holds}

-- ---- a run that is all in order, and one over a missing file

module _ (c : Replay) (old new : Environment) (text input : List ℕ) (table : Table) (root : ℕ) (o : AllIsInOrder c old new text input table root) where
  holds : (status : Status) → RefusesTable c.root_name (old.files c.table_path) status → ⊥
  holds = table_holds c.root_name text (old.files c.table_path) (new.files c.table_path) table root o.file o.accepted_as o.is_root

  pub complete_of : (status : Status) → Says c old new status → (status ≡ Done) ⊎ ((status ≡ LinesRefused) ⊎ (status ≡ OutOfMemory))
  complete_of Done says = inl refl
  complete_of LinesRefused says = inr (inl refl)
  complete_of OutOfMemory says = inr (inr refl)
  complete_of ReadFailed (inl first) = absurd (o.file.well (has_failed (old.files c.table_path) (new.files c.table_path) first.1))
  complete_of ReadFailed (inr after) = absurd (o.source.well (has_failed old.input new.input after.2.2.2.1))
  complete_of WriteFailed says = let lines = says.2.2.2 in absurd (o.out_is_well (has_failed old.out new.out lines.2.0))
  complete_of (TableRefused fault) says = absurd (holds (TableRefused fault) says.1)
  complete_of NoSuchShape says = absurd (holds NoSuchShape says.1)
  complete_of NotAStructure says = absurd (holds NotAStructure says.1)
  complete_of TooLong (inl first) = let more = first.1.1 text o.file.told in absurd (omega (arith, more, o.file.within))
  complete_of TooLong (inr after) =
      let more = past_limit longest_input old.input new.input input after.2.2.2 o.source.told in absurd (omega (arith, more, o.source.within))
  complete_of _ says = absurd says.1

-- a command that meets no fault, as all that it reads and writes is steady
steady_of : (c : Replay) (old new : Environment) → (old.files c.table_path).is_steady ≡ true → old.input.is_steady ≡ true → old.out.is_steady ≡ true
    → (status : Status) → Says c old new status → (status ≢ ReadFailed) × (status ≢ WriteFailed)
steady_of c old new file input out status says = (
  λ e. read_fails_not (subst (Says c old new) e says),
  λ e. let wrote = subst (Says c old new) e says in let lines = wrote.2.2.2 in steady_meets_none old.out new.out out lines.2.0,
) where
  read_fails_not : Says c old new ReadFailed → ⊥
  read_fails_not (inl first) = steady_meets_none (old.files c.table_path) (new.files c.table_path) file first.1
  read_fails_not (inr after) = steady_meets_none old.input new.input input after.2.2.2.1

-- ---- the answer

abbrev NoFurther : Environment → Environment → Type 0
NoFurther old new = (bytes : List ℕ) × Gave bytes old.input new.input × (length bytes ≤ longest_input + 1)

abbrev Kept : Environment → Environment → Type 0
Kept old new = (path : List ℕ) → (new.files path).content ≡ (old.files path).content

-- ---- the checks refuse

-- a refusal says why there is no answer to a line, and is neither an answer nor a fault of the output
refusal_says : (c : Replay) (old new : Environment) → IsUnused old new → (status : Status) → RefusesChecks c.root_name (sources_of c old) (sources_of c new) status
    → Says c old new status
refusal_says c old new out Done why = absurd why.1
refusal_says c old new out LinesRefused why = absurd why.1
refusal_says c old new out WriteFailed why = absurd why.1
refusal_says c old new out OutOfMemory why = inl out
refusal_says c old new out _ why = why

-- the lines aren't answered, and nothing is written
pub nothing_replayed : (c : Replay) (old new : Environment) → NoFurther old new → Kept old new → new.out ≡ old.out → new.out_holds_back ≡ old.out_holds_back
    → (status : Status) → RefusesChecks c.root_name (sources_of c old) (sources_of c new) status
    → (status ≢ ReadFailed → MetNoFault (old.files c.table_path) (new.files c.table_path)) → (status ≢ ReadFailed → MetNoFault old.input new.input)
    → ReplayAnswer c old new status
nothing_replayed c old new no_further kept out held status why table_is_well input_is_well = record {
  says = says;
  reads_no_further = no_further;
  table_met_no_fault = table_is_well;
  input_met_no_fault = input_is_well;
  out_met_no_fault = λ other. (ap (λ (s : Shown). s.faults) out, ap (λ (s : Shown). s.is_steady) out);
  files_are_kept = kept;
  missing_is_a_fault = λ gone. missing_refuses c.root_name (sources_of c old) (sources_of c new) gone status why;
  complete = λ text input table root o. complete_of c old new text input table root o status says;
  steady_never_fails = λ file input out. steady_of c old new file input out status says;
  nothing_is_held_back = λ tells. absurd (refusal_tells_nothing c.root_name (sources_of c old) (sources_of c new) status why tells);
  out_is_untouched = λ other written memory. (out, held);
} where
  says : Says c old new status
  says = refusal_says c old new (out, held) status why

-- ---- the lines are answered

-- the status where each line has its answer, by whether one is refused
abbrev pub status_of_lines : Bool → Status
status_of_lines false = Done
status_of_lines true = LinesRefused

says_of_lines : (c : Replay) (old new : Environment) (refused : Bool) → AfterReplay c old new refused → Says c old new (status_of_lines refused)
says_of_lines c old new false h = h
says_of_lines c old new true h = h

lines_never_fail : (refused : Bool) → (status_of_lines refused ≢ ReadFailed) × (status_of_lines refused ≢ WriteFailed)
lines_never_fail false = ((λ e. absurd (let same : Done ≡ ReadFailed = e in cc)), (λ e. absurd (let same : Done ≡ WriteFailed = e in cc)))
lines_never_fail true = ((λ e. absurd (let same : LinesRefused ≡ ReadFailed = e in cc)), (λ e. absurd (let same : LinesRefused ≡ WriteFailed = e in cc)))

lines_tell : (refused : Bool) → tells_output (status_of_lines refused) ≡ false → ⊥
lines_tell false other = let e : true ≡ false = other in cc
lines_tell true other = let e : true ≡ false = other in cc

-- ---- the checks passed

module _ (c : Replay) (old new : Environment) (no_further : NoFurther old new) (kept : Kept old new) (table : Table) (root : ℕ) (input : List ℕ)
    (passed : PassesChecks c.root_name (sources_of c old) (sources_of c new) table root input)
    (table_is_well : MetNoFault (old.files c.table_path) (new.files c.table_path)) (input_is_well : MetNoFault old.input new.input) where
  after : (P : Table → ℕ → List ℕ → Type 0) → P table root input → AfterInput c.root_name (sources_of c old) (sources_of c new) P
  after P holds =
      let checked = passed.checked in (checked.text, checked.loaded, (table, checked.accepted_as, (root, checked.is_root, (input, passed.read, holds))))

  there : (old.files c.table_path).content ≡ missing → ⊥
  there gone = passed.checked.loaded.there gone

  -- each line has its answer
  pub lines_replayed : (refused : Bool) → TookAll (line_answers c table root) (lines_of input) refused old.out new.out → new.out_holds_back ≡ false
      → ReplayAnswer c old new (status_of_lines refused)
  lines_replayed refused took finished = record {
    says = says;
    reads_no_further = no_further;
    table_met_no_fault = λ other. table_is_well;
    input_met_no_fault = λ other. input_is_well;
    out_met_no_fault = λ other. took.3;
    files_are_kept = kept;
    missing_is_a_fault = λ gone. absurd (there gone);
    complete = λ text input table root o. complete_of c old new text input table root o (status_of_lines refused) says;
    steady_never_fails = λ file input out. lines_never_fail refused;
    nothing_is_held_back = λ tells. finished;
    out_is_untouched = λ other written memory. absurd (lines_tell refused other);
  } where
    says : Says c old new (status_of_lines refused)
    says = says_of_lines c old new refused (after _ (took.0, took.1, took.2))

  -- the output failed
  pub replay_cut_short : EndsIn (line_answers c table root) (lines_of input) faults.WriteFailed old.out new.out → ReplayAnswer c old new WriteFailed
  replay_cut_short ends = record {
    says = says;
    reads_no_further = no_further;
    table_met_no_fault = λ other. table_is_well;
    input_met_no_fault = λ other. input_is_well;
    out_met_no_fault = λ other. absurd (other refl);
    files_are_kept = kept;
    missing_is_a_fault = λ gone. absurd (there gone);
    complete = λ text input table root o. complete_of c old new text input table root o WriteFailed says;
    steady_never_fails = λ file input out. steady_of c old new file input out WriteFailed says;
    nothing_is_held_back = λ tells. absurd (let e : false ≡ true = tells in cc);
    out_is_untouched = λ other written memory. absurd (written refl);
  } where
    says : Says c old new WriteFailed
    says = after _ ends

  -- memory ran out, before any line or after some
  pub replay_without_memory : IsUnused old new ⊎ EndsIn (line_answers c table root) (lines_of input) faults.NoMemory old.out new.out → ReplayAnswer c old new OutOfMemory
  replay_without_memory ends = record {
    says = says ends;
    reads_no_further = no_further;
    table_met_no_fault = λ other. table_is_well;
    input_met_no_fault = λ other. input_is_well;
    out_met_no_fault = λ other. well ends;
    files_are_kept = kept;
    missing_is_a_fault = λ gone. inr refl;
    complete = λ text input table root o. inr (inr refl);
    steady_never_fails = λ file input out. ((λ e. absurd (let same : OutOfMemory ≡ ReadFailed = e in cc)), (λ e. absurd (let same : OutOfMemory ≡ WriteFailed = e in cc)));
    nothing_is_held_back = λ tells. absurd (let e : false ≡ true = tells in cc);
    out_is_untouched = λ other written memory. absurd (memory refl);
  } where
    says : IsUnused old new ⊎ EndsIn (line_answers c table root) (lines_of input) faults.NoMemory old.out new.out → Says c old new OutOfMemory
    says (inl unused) = inl unused
    says (inr some) = inr (after _ some)

    well : IsUnused old new ⊎ EndsIn (line_answers c table root) (lines_of input) faults.NoMemory old.out new.out → MetNoFault old.out new.out
    well (inl unused) = (ap (λ (s : Shown). s.faults) unused.0, ap (λ (s : Shown). s.is_steady) unused.0)
    well (inr some) = some.4.3

pub replay_is_no_usage : (c : Replay) (old new : Environment) (status : Status) → ReplayAnswer c old new status → status ≢ Usage
replay_is_no_usage c old new status answer = λ e. absurd (subst (Says c old new) e answer.says).1
