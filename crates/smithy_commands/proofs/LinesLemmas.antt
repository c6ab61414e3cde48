-- What a status says of `lines`.
use Rattle.std.proofs.Common.{◌≡◌, ◌≢◌, ◌⊎◌, inl, inr, ℕ, List, Bool, Result, Ok, Err, true, false, refl, subst, ap, arith}
use Rattle.smithy_declarations.specs.Table.{Table}
use Rattle.smithy_lines.specs.Sources.{AnswersEach}
use Rattle.smithy_lines.specs.declared.answer.StreamFault.{StreamFault}
use Rattle.smithy_lines.specs.declared.answer.StreamFault.TheVariants as faults
use Rattle.smithy_commands.specs.declared.status.Status.{Status}
use Rattle.smithy_commands.specs.declared.status.Status.TheVariants.{Done, Usage, ReadFailed, WriteFailed, OutOfMemory, TableRefused, NoSuchShape, NotAStructure, TooLong, Differs, LinesRefused, FindingsTold}
use Rattle.smithy_commands.specs.Status.{tells_output}
use Rattle.smithy_commands.specs.Checks.{RefusesTable, RefusesTableChecks, PassesTableChecks}
use Rattle.smithy_commands.specs.Lines.{Lines, line_answers, AfterLines, BeforeLines, Says, AllIsInOrder, LinesAnswer}
use Rattle.smithy_commands.proofs.Refusals.{table_holds}
use Rattle.smithy_outside.specs.Outside.{Shown, Environment, missing, MetOneFault, MetNoFault}
use Rattle.smithy_outside.proofs.Faults.{has_failed, steady_meets_none}

-- ---- the faults of the input and the output

-- the status where the lines of the input were answered with this result
abbrev pub status_of_lines : Result Bool StreamFault → Status
status_of_lines (Ok false) = Done
status_of_lines (Ok true) = LinesRefused
status_of_lines (Err faults.ReadFailed) = ReadFailed
status_of_lines (Err faults.WriteFailed) = WriteFailed
status_of_lines (Err faults.NoMemory) = OutOfMemory

-- by the result, the input met one fault or none, and the output
abbrev InputCounts : Result Bool StreamFault → Shown → Shown → Type 0
InputCounts (Err faults.ReadFailed) old new = MetOneFault old new
InputCounts _ old new = MetNoFault old new

abbrev OutCounts : Result Bool StreamFault → Shown → Shown → Type 0
OutCounts (Err faults.WriteFailed) old new = MetOneFault old new
OutCounts _ old new = MetNoFault old new

module _ (c : Lines) (old new : Environment) where
  input_counts : (result : Result Bool StreamFault) → AfterLines c old new result → InputCounts result old.input new.input
  input_counts (Ok false) after = let lines = after.2.2.2 in lines.2.1
  input_counts (Ok true) after = let lines = after.2.2.2 in lines.2.1
  input_counts (Err faults.ReadFailed) after = let lines = after.2.2.2 in lines.2.0
  input_counts (Err faults.WriteFailed) after = let lines = after.2.2.2 in lines.2.0
  input_counts (Err faults.NoMemory) after = let lines = after.2.2.2 in lines.2.0

  out_counts : (result : Result Bool StreamFault) → AfterLines c old new result → OutCounts result old.out new.out
  out_counts (Ok false) after = let lines = after.2.2.2 in lines.2.2.3
  out_counts (Ok true) after = let lines = after.2.2.2 in lines.2.2.3
  out_counts (Err faults.ReadFailed) after = let lines = after.2.2.2 in lines.2.1.4.3
  out_counts (Err faults.WriteFailed) after = let lines = after.2.2.2 in lines.2.1.2.0
  out_counts (Err faults.NoMemory) after = let lines = after.2.2.2 in lines.2.1.2.4.3

  says_of_lines : (result : Result Bool StreamFault) → MetNoFault (old.files c.table_path) (new.files c.table_path) → AfterLines c old new result → Says c old new (status_of_lines result)
  says_of_lines (Ok false) well after = after
  says_of_lines (Ok true) well after = after
  says_of_lines (Err faults.ReadFailed) well after = inr (well, after)
  says_of_lines (Err faults.WriteFailed) well after = after
  says_of_lines (Err faults.NoMemory) well after = inr after

  input_is_well : (result : Result Bool StreamFault) → InputCounts result old.input new.input → status_of_lines result ≢ ReadFailed → MetNoFault old.input new.input
  input_is_well (Ok false) well other = well
  input_is_well (Ok true) well other = well
  input_is_well (Err faults.ReadFailed) fault other = absurd (other refl)
  input_is_well (Err faults.WriteFailed) well other = well
  input_is_well (Err faults.NoMemory) well other = well

  out_is_well : (result : Result Bool StreamFault) → OutCounts result old.out new.out → status_of_lines result ≢ WriteFailed → MetNoFault old.out new.out
  out_is_well (Ok false) well other = well
  out_is_well (Ok true) well other = well
  out_is_well (Err faults.ReadFailed) well other = well
  out_is_well (Err faults.WriteFailed) fault other = absurd (other refl)
  out_is_well (Err faults.NoMemory) well other = well

-- ---- a run that is all in order, and one over steady objects

module _ (c : Lines) (old new : Environment) (text : List ℕ) (table : Table) (root : ℕ) (o : AllIsInOrder c old new text table root) where
  holds : (status : Status) → RefusesTable c.root_name (old.files c.table_path) status → ⊥
  holds = table_holds c.root_name text (old.files c.table_path) (new.files c.table_path) table root o.file o.accepted_as o.is_root

  pub complete_of : (status : Status) → Says c old new status → (status ≡ Done) ⊎ ((status ≡ LinesRefused) ⊎ (status ≡ OutOfMemory))
  complete_of Done says = inl refl
  complete_of LinesRefused says = inr (inl refl)
  complete_of OutOfMemory says = inr (inr refl)
  complete_of ReadFailed (inl before) = absurd (o.file.well (has_failed (old.files c.table_path) (new.files c.table_path) before.1))
  complete_of ReadFailed (inr (well, after)) = absurd (o.input_is_well (has_failed old.input new.input (input_counts c old new (Err faults.ReadFailed) after)))
  complete_of WriteFailed after = absurd (o.out_is_well (has_failed old.out new.out (out_counts c old new (Err faults.WriteFailed) after)))
  complete_of (TableRefused fault) before = absurd (holds (TableRefused fault) before.1)
  complete_of NoSuchShape before = absurd (holds NoSuchShape before.1)
  complete_of NotAStructure before = absurd (holds NotAStructure before.1)
  complete_of TooLong before = let more = before.1.1 text o.file.told in absurd (omega (arith, more, o.file.within))
  complete_of _ before = absurd before.1

steady_of : (c : Lines) (old new : Environment) → (old.files c.table_path).is_steady ≡ true → old.input.is_steady ≡ true → old.out.is_steady ≡ true
    → (status : Status) → Says c old new status → (status ≢ ReadFailed) × (status ≢ WriteFailed)
steady_of c old new file input out status says = (
  λ e. read_fails_not (subst (Says c old new) e says),
  λ e. steady_meets_none old.out new.out out (out_counts c old new (Err faults.WriteFailed) (subst (Says c old new) e says)),
) where
  read_fails_not : Says c old new ReadFailed → ⊥
  read_fails_not (inl before) = steady_meets_none (old.files c.table_path) (new.files c.table_path) file before.1
  read_fails_not (inr (well, after)) = steady_meets_none old.input new.input input (input_counts c old new (Err faults.ReadFailed) after)

-- ---- the answer

abbrev Kept : Environment → Environment → Type 0
Kept old new = (path : List ℕ) → (new.files path).content ≡ (old.files path).content

missing_refuses : (root_name : List ℕ) (old new : Shown) → old.content ≡ missing → (status : Status) → RefusesTableChecks root_name old new status
    → (status ≡ ReadFailed) ⊎ (status ≡ OutOfMemory)
missing_refuses root_name old new gone ReadFailed why = inl refl
missing_refuses root_name old new gone OutOfMemory why = inr refl
missing_refuses root_name old new gone (TableRefused fault) why = absurd (why.1.there gone)
missing_refuses root_name old new gone NoSuchShape why = absurd (why.1.there gone)
missing_refuses root_name old new gone NotAStructure why = absurd (why.1.there gone)
missing_refuses root_name old new gone TooLong why = absurd (why.0 gone)
missing_refuses root_name old new gone _ why = absurd why

refusal_says : (c : Lines) (old new : Environment) → BeforeLines old new → (status : Status)
    → RefusesTableChecks c.root_name (old.files c.table_path) (new.files c.table_path) status → Says c old new status
refusal_says c old new before Done why = absurd why
refusal_says c old new before LinesRefused why = absurd why
refusal_says c old new before WriteFailed why = absurd why
refusal_says c old new before ReadFailed why = inl (before, why)
refusal_says c old new before OutOfMemory why = inl (before, why)
refusal_says c old new before _ why = (before, why)

refusal_tells_nothing : (root_name : List ℕ) (old new : Shown) (status : Status) → RefusesTableChecks root_name old new status → tells_output status ≡ true → ⊥
refusal_tells_nothing root_name old new Done why tells = why
refusal_tells_nothing root_name old new Differs why tells = why
refusal_tells_nothing root_name old new LinesRefused why tells = why
refusal_tells_nothing root_name old new FindingsTold why tells = why
refusal_tells_nothing root_name old new _ why tells = cc

-- what becomes of the output by the result: it holds nothing back, or it wasn't used; after its own fault or out of memory nothing is said
abbrev pub PassesOn : Result Bool StreamFault → Environment → Environment → Type 0
PassesOn (Ok refused) old new = new.out_holds_back ≡ false
PassesOn (Err faults.ReadFailed) old new = (new.out_holds_back ≡ false) ⊎ ((new.out ≡ old.out) × (new.out_holds_back ≡ old.out_holds_back))
PassesOn (Err faults.WriteFailed) old new = Unit {0}
PassesOn (Err faults.NoMemory) old new = Unit {0}

module _ (old new : Environment) where
  all_passed_on : (result : Result Bool StreamFault) → PassesOn result old new → tells_output (status_of_lines result) ≡ true → new.out_holds_back ≡ false
  all_passed_on (Ok refused) passed tells = passed
  all_passed_on (Err faults.ReadFailed) passed tells = absurd (let e : false ≡ true = tells in cc)
  all_passed_on (Err faults.WriteFailed) passed tells = absurd (let e : false ≡ true = tells in cc)
  all_passed_on (Err faults.NoMemory) passed tells = absurd (let e : false ≡ true = tells in cc)

  some_passed_on : (result : Result Bool StreamFault) → PassesOn result old new → status_of_lines result ≡ ReadFailed
      → (new.out_holds_back ≡ false) ⊎ ((new.out ≡ old.out) × (new.out_holds_back ≡ old.out_holds_back))
  some_passed_on (Ok refused) passed is = inl passed
  some_passed_on (Err faults.ReadFailed) passed is = passed
  some_passed_on (Err faults.WriteFailed) passed is = absurd (let e : WriteFailed ≡ ReadFailed = is in cc)
  some_passed_on (Err faults.NoMemory) passed is = absurd (let e : OutOfMemory ≡ ReadFailed = is in cc)

-- a sink that wasn't used tells what it did before
pub unused : {K : Type 0} (told : K → Shown) (holds_back : K → Bool) (old new : K) → (holds_back new ≡ false) ⊎ (new ≡ old)
    → (holds_back new ≡ false) ⊎ ((told new ≡ told old) × (holds_back new ≡ holds_back old))
unused told holds_back old new (inl passed) = inl passed
unused told holds_back old new (inr same) = inr (ap told same, ap holds_back same)

-- the table or the root is refused
pub nothing_answered : (c : Lines) (old new : Environment) → Kept old new → BeforeLines old new → (status : Status)
    → RefusesTableChecks c.root_name (old.files c.table_path) (new.files c.table_path) status
    → (status ≢ ReadFailed → MetNoFault (old.files c.table_path) (new.files c.table_path)) → LinesAnswer c old new status
nothing_answered c old new kept before status why table_is_well = record {
  says = says;
  table_met_no_fault = table_is_well;
  input_met_no_fault = λ other. (ap (λ (s : Shown). s.faults) before.0, ap (λ (s : Shown). s.is_steady) before.0);
  out_met_no_fault = λ other. (ap (λ (s : Shown). s.faults) before.1, ap (λ (s : Shown). s.is_steady) before.1);
  files_are_kept = kept;
  missing_is_a_fault = λ gone. missing_refuses c.root_name (old.files c.table_path) (new.files c.table_path) gone status why;
  complete = λ text table root o. complete_of c old new text table root o status says;
  steady_never_fails = λ file input out. steady_of c old new file input out status says;
  nothing_is_held_back = λ tells. absurd (refusal_tells_nothing c.root_name (old.files c.table_path) (new.files c.table_path) status why tells);
  answers_are_passed_on = λ is. inr (before.1, before.2);
} where
  says : Says c old new status
  says = refusal_says c old new before status why

-- the lines are answered
pub lines_answered : (c : Lines) (old new : Environment) → Kept old new → (table : Table) (root : ℕ) → PassesTableChecks c.root_name (old.files c.table_path) table root
    → MetNoFault (old.files c.table_path) (new.files c.table_path) → (result : Result Bool StreamFault)
    → AnswersEach (line_answers c table root) result old.input new.input old.out new.out
    → PassesOn result old new → LinesAnswer c old new (status_of_lines result)
lines_answered c old new kept table root passed table_is_well result answered finished = record {
  says = says;
  table_met_no_fault = λ other. table_is_well;
  input_met_no_fault = input_is_well c old new result (input_counts c old new result after);
  out_met_no_fault = out_is_well c old new result (out_counts c old new result after);
  files_are_kept = kept;
  missing_is_a_fault = λ gone. absurd (passed.loaded.there gone);
  complete = λ text table root o. complete_of c old new text table root o (status_of_lines result) says;
  steady_never_fails = λ file input out. steady_of c old new file input out (status_of_lines result) says;
  nothing_is_held_back = all_passed_on old new result finished;
  answers_are_passed_on = some_passed_on old new result finished;
} where
  after : AfterLines c old new result
  after = (passed.text, passed.loaded, (table, passed.accepted_as, (root, passed.is_root, answered)))

  says : Says c old new (status_of_lines result)
  says = says_of_lines c old new result table_is_well after

pub lines_is_no_usage : (c : Lines) (old new : Environment) (status : Status) → LinesAnswer c old new status → status ≢ Usage
lines_is_no_usage c old new status answer = λ e. absurd (subst (Says c old new) e answer.says).1
