-- What a status says of a command that reads one input.
use Rattle.std.proofs.Common.{◌≡◌, ◌≢◌, ◌≤◌, ◌+◌, ◌⊎◌, inl, inr, ℕ, List, length, true, false, refl, sym, subst, ap, arith}
use Rattle.smithy_declarations.specs.Table.{Table}
use Rattle.smithy_commands.specs.declared.status.Status.{Status}
use Rattle.smithy_commands.specs.declared.status.Status.TheVariants.{Done, Usage, ReadFailed, WriteFailed, OutOfMemory, TableRefused, NoSuchShape, NotAStructure, TooLong, Differs, LinesRefused, FindingsTold}
use Rattle.smithy_commands.specs.Status.{tells_output, refuses_input}
use Rattle.smithy_commands.specs.Checks.{longest_input, AfterInput, RefusesTable, RefusesChecks, PassesChecks}
use Rattle.smithy_commands.specs.OneInput.{InputCommand, sources_of, Says, AllIsInOrder, EndsByInput, InputAnswer}
use Rattle.smithy_commands.specs.OneInput.Says.{answered, cut_short, refused, unchecked}
use Rattle.smithy_commands.proofs.Refusals.{missing_refuses, refusal_tells_nothing, past_limit, same_table, same_root, table_holds}
use Rattle.smithy_outside.specs.Outside.{Shown, Environment, missing, MetOneFault, MetNoFault, Gave, Took, TookPrefix}
use Rattle.smithy_outside.proofs.Faults.{has_failed, steady_meets_none}

-- ---- statuses

refusal_is_no_answer : (status : Status) → refuses_input status ≡ true → tells_output status ≡ true → ⊥
refusal_is_no_answer Done refuses tells = cc
refusal_is_no_answer Differs refuses tells = cc
refusal_is_no_answer LinesRefused refuses tells = cc
refusal_is_no_answer FindingsTold refuses tells = cc
refusal_is_no_answer _ refuses tells = cc

-- ---- a run that is all in order

module _ (c : InputCommand) (old new : Environment) (text input : List ℕ) (table : Table) (root : ℕ) (o : AllIsInOrder c old new text input table root) where
  -- what holds of the table, the root and the input that the command came to, holds of these
  by_input : (P : Table → ℕ → List ℕ → Type 0) → AfterInput c.root_name (sources_of c old) (sources_of c new) P → P table root input
  by_input P after =
      let other = after.2.0 in
      let found = after.2.2 in
      let read = found.2 in
      let t = same_table c.root_name text (old.files c.table_path) (new.files c.table_path) table root o.file o.accepted_as o.is_root after.0 after.1 other after.2.1 in
      let r = same_root c.root_name text (old.files c.table_path) (new.files c.table_path) table root o.file o.accepted_as o.is_root other t found.0 found.1.named in
      let i : read.0 ≡ input = read.1.whole input o.source.told in
      subst (λ (u : Table). P u root input) (sym t) (subst (λ (n : ℕ). P other n input) (sym r) (subst (λ (bytes : List ℕ). P other found.0 bytes) i read.2))

  never_refused : (status : Status) → RefusesTable c.root_name (old.files c.table_path) status → ⊥
  never_refused status = table_holds c.root_name text (old.files c.table_path) (new.files c.table_path) table root o.file o.accepted_as o.is_root status

  checks_pass : (status : Status) → RefusesChecks c.root_name (sources_of c old) (sources_of c new) status → status ≡ OutOfMemory
  checks_pass ReadFailed (inl first) = absurd (o.file.well (has_failed (old.files c.table_path) (new.files c.table_path) first.1))
  checks_pass ReadFailed (inr after) = absurd (o.source.well (has_failed old.input new.input after.2.2.2.1))
  checks_pass OutOfMemory why = refl
  checks_pass (TableRefused fault) why = absurd (never_refused (TableRefused fault) why.1)
  checks_pass NoSuchShape why = absurd (never_refused NoSuchShape why.1)
  checks_pass NotAStructure why = absurd (never_refused NotAStructure why.1)
  checks_pass TooLong (inl first) = let more = first.1.1 text o.file.told in absurd (omega (arith, more, o.file.within))
  checks_pass TooLong (inr after) =
      let more = past_limit longest_input old.input new.input input after.2.2.2 o.source.told in absurd (omega (arith, more, o.source.within))
  checks_pass _ why = absurd why.1

  complete_of : (status : Status) → Says c old new status → EndsByInput c table root input status
  complete_of status (answered tells after) =
      let given = by_input (λ t r i. (s : Status) × (bytes : List ℕ) × c.gives t r i s bytes × ((s ≡ status) × Took bytes old.out new.out)) after in
      inl (given.1, subst (λ (s : Status). c.gives table root input s given.1) given.3.0 given.2)
  complete_of status (cut_short is after) = absurd (o.out_is_well (has_failed old.out new.out after.2.2.2.2.3.0))
  complete_of status (refused refuses after) = inr (inl (by_input (λ t r i. c.refuses t r i status) after))
  complete_of status (unchecked why) = inr (inr (checks_pass status why))

-- ---- a file that is missing, and what is steady

fault_of_missing : (c : InputCommand) (old new : Environment) → (old.files c.table_path).content ≡ missing → (status : Status) → Says c old new status
    → (status ≡ ReadFailed) ⊎ (status ≡ OutOfMemory)
fault_of_missing c old new gone status (answered tells after) = absurd (after.1.there gone)
fault_of_missing c old new gone status (cut_short is after) = absurd (after.1.there gone)
fault_of_missing c old new gone status (refused refuses after) = absurd (after.1.there gone)
fault_of_missing c old new gone status (unchecked why) = missing_refuses c.root_name (sources_of c old) (sources_of c new) gone status why

module _ (c : InputCommand) (old new : Environment) (file : (old.files c.table_path).is_steady ≡ true) (input : old.input.is_steady ≡ true)
    (out : old.out.is_steady ≡ true) where
  read_fails_not : Says c old new ReadFailed → ⊥
  read_fails_not (answered tells after) = let e : false ≡ true = tells in cc
  read_fails_not (cut_short is after) = cc
  read_fails_not (refused refuses after) = let e : false ≡ true = refuses in cc
  read_fails_not (unchecked (inl first)) = steady_meets_none (old.files c.table_path) (new.files c.table_path) file first.1
  read_fails_not (unchecked (inr after)) = steady_meets_none old.input new.input input after.2.2.2.1

  write_fails_not : Says c old new WriteFailed → ⊥
  write_fails_not (answered tells after) = let e : false ≡ true = tells in cc
  write_fails_not (cut_short is after) = steady_meets_none old.out new.out out after.2.2.2.2.3.0
  write_fails_not (refused refuses after) = let e : false ≡ true = refuses in cc
  write_fails_not (unchecked why) = why.1

  steady_of : (status : Status) → Says c old new status → (status ≢ ReadFailed) × (status ≢ WriteFailed)
  steady_of status says = (λ e. read_fails_not (subst (Says c old new) e says), λ e. write_fails_not (subst (Says c old new) e says))

-- ---- the answer

abbrev NoFurther : Environment → Environment → Type 0
NoFurther old new = (bytes : List ℕ) × Gave bytes old.input new.input × (length bytes ≤ longest_input + 1)

abbrev Kept : Environment → Environment → Type 0
Kept old new = (path : List ℕ) → (new.files path).content ≡ (old.files path).content

module _ (c : InputCommand) (old new : Environment) (no_further : NoFurther old new) (kept : Kept old new) (status : Status) (says : Says c old new status)
    (table_is_well : status ≢ ReadFailed → MetNoFault (old.files c.table_path) (new.files c.table_path))
    (input_is_well : status ≢ ReadFailed → MetNoFault old.input new.input) where
  answer_of : (tells_output status ≡ true → new.out_holds_back ≡ false)
      → (status ≢ WriteFailed → MetNoFault old.out new.out)
      → (tells_output status ≡ false → status ≢ WriteFailed → (new.out ≡ old.out) × (new.out_holds_back ≡ old.out_holds_back))
      → InputAnswer c old new status
  answer_of finished out_is_well untouched = record {
    says = says;
    reads_no_further = no_further;
    table_met_no_fault = table_is_well;
    input_met_no_fault = input_is_well;
    files_are_kept = kept;
    missing_is_a_fault = λ gone. fault_of_missing c old new gone status says;
    complete = λ text input table root o. complete_of c old new text input table root o status says;
    steady_never_fails = λ file input out. steady_of c old new file input out status says;
    output = record { nothing_is_held_back = finished; out_met_no_fault = out_is_well; out_is_untouched = untouched };
  }

  -- nothing is written
  unwritten : (tells_output status ≡ true → ⊥) → new.out ≡ old.out → new.out_holds_back ≡ old.out_holds_back → InputAnswer c old new status
  unwritten silent out held =
      answer_of (λ tells. absurd (silent tells)) (λ other. (ap (λ (s : Shown). s.faults) out, ap (λ (s : Shown). s.is_steady) out)) (λ other written. (out, held))

-- a check failed
pub nothing_read : (c : InputCommand) (old new : Environment) → NoFurther old new → Kept old new → new.out ≡ old.out → new.out_holds_back ≡ old.out_holds_back
    → (status : Status) → RefusesChecks c.root_name (sources_of c old) (sources_of c new) status
    → (status ≢ ReadFailed → MetNoFault (old.files c.table_path) (new.files c.table_path)) → (status ≢ ReadFailed → MetNoFault old.input new.input)
    → InputAnswer c old new status
nothing_read c old new no_further kept out held status why table_is_well input_is_well =
    unwritten c old new no_further kept status (unchecked why) table_is_well input_is_well
    (refusal_tells_nothing c.root_name (sources_of c old) (sources_of c new) status why) out held

-- the checks passed
module _ (c : InputCommand) (old new : Environment) (no_further : NoFurther old new) (kept : Kept old new) (table : Table) (root : ℕ) (input : List ℕ)
    (passed : PassesChecks c.root_name (sources_of c old) (sources_of c new) table root input)
    (table_is_well : MetNoFault (old.files c.table_path) (new.files c.table_path)) (input_is_well : MetNoFault old.input new.input) where
  after : (P : Table → ℕ → List ℕ → Type 0) → P table root input → AfterInput c.root_name (sources_of c old) (sources_of c new) P
  after P holds =
      let checked = passed.checked in (checked.text, checked.loaded, (table, checked.accepted_as, (root, checked.is_root, (input, passed.read, holds))))

  -- the input is refused
  pub input_refused : (status : Status) → refuses_input status ≡ true → c.refuses table root input status → new.out ≡ old.out
      → new.out_holds_back ≡ old.out_holds_back → InputAnswer c old new status
  input_refused status refuses why out held =
      unwritten c old new no_further kept status (refused refuses (after (λ t r i. c.refuses t r i status) why)) (λ other. table_is_well) (λ other. input_is_well)
      (refusal_is_no_answer status refuses) out held

  module _ (status : Status) (bytes : List ℕ) (tells : tells_output status ≡ true) (gives : c.gives table root input status bytes) where
    -- the answer is written whole
    pub answer_written : MetNoFault old.out new.out → Took bytes old.out new.out → new.out_holds_back ≡ false → InputAnswer c old new status
    answer_written well took finished =
        answer_of c old new no_further kept status (answered tells (after _ (status, bytes, gives, (refl, took)))) (λ other. table_is_well) (λ other. input_is_well)
        (λ t. finished) (λ other. well) (λ other written. absurd (cc (tells, other)))

    -- or it isn't
    pub answer_cut_short : MetOneFault old.out new.out → TookPrefix bytes old.out new.out → InputAnswer c old new WriteFailed
    answer_cut_short fault took =
        answer_of c old new no_further kept WriteFailed (cut_short refl (after _ (status, bytes, gives, (fault, took)))) (λ other. table_is_well) (λ other. input_is_well)
        (λ t. absurd (let e : false ≡ true = t in cc)) (λ other. absurd (other refl)) (λ other written. absurd (written refl))

pub input_is_no_usage : (c : InputCommand) (old new : Environment) (status : Status) → InputAnswer c old new status → status ≢ Usage
input_is_no_usage c old new status answer = λ e. never (subst (Says c old new) e answer.says) where
  never : Says c old new Usage → ⊥
  never (answered tells after) = let e : false ≡ true = tells in cc
  never (cut_short is after) = cc
  never (refused refuses after) = let e : false ≡ true = refuses in cc
  never (unchecked why) = why.1
