-- What a status says of `compare`, and why two files were not compared.
use Rattle.std.proofs.Common.{◌≡◌, ◌≢◌, ◌⊎◌, ◌≤◌, ◌∙◌, inl, inr, ℕ, List, length, Bool, Some, None, Result, Ok, Err, IfOk, IfErr, true, false, refl, sym, ap, subst, arith}
use Rattle.smithy_declarations.specs.Table.{Table, IsStructure, kind_of, shape_place, declared_as}
use Rattle.smithy_declarations.specs.Acceptance.{accepted, table_of}
use Rattle.smithy_transcode.specs.declared.wire.TranscodeError.{TranscodeError}
use Rattle.smithy_transcode.specs.declared.wire.TranscodeError.TheVariants as errors
use Rattle.smithy_compare.specs.Compares.{Answer}
use Rattle.smithy_compare.specs.declared.comparing.Compared.{Compared}
use Rattle.smithy_compare.specs.declared.comparing.Compared.TheVariants as compared
use Rattle.smithy_compare.specs.declared.comparing.CompareError.TheVariants.{First, Second, NoMemory}
use Rattle.smithy_compare.specs.declared.comparing.CompareError.{CompareError}
use Rattle.smithy_commands.specs.declared.status.Status.{Status}
use Rattle.smithy_commands.specs.declared.status.Status.TheVariants.{Done, Usage, ReadFailed, WriteFailed, OutOfMemory, InvalidInput, TooDeep, TooWide, NotCarried, Inexpressible, TableRefused, NoSuchShape, NotAStructure, TooLong, Differs, SecondInvalidInput, SecondTooDeep, SecondTooWide, SecondNotCarried}
use Rattle.smithy_commands.specs.Status.{tells_output, status_of_error}
use Rattle.smithy_commands.specs.Checks.{longest_table, longest_input, IsLoaded, IsTooLong, IsRoot, AfterTable, AfterRoot}
use Rattle.smithy_commands.specs.Compare.{Compare, status_of_second_error, status_of_compare_error, status_of_compared, status_of_comparison, FilesTold, MetFault, AfterFirst, AfterBoth, Answers, answer_line, AfterComparing, RefusesBody, Refuses, Says, AllIsInOrder, CompareAnswer, IsFound, IsFoundIn, FailsToCompare}
use Rattle.smithy_commands.specs.Private.Stages.{FailsToRead, FailsToLoad, FailsToFind}
use Rattle.smithy_outside.specs.Outside.{Shown, Environment, environment_of, HasFailed, MetNoFault, MetOneFault, Shows, Took, TookPrefix}
use Rattle.smithy_outside.proofs.Faults.{has_failed, steady_meets_none}

-- ---- a file before and behind the load of others

failed_later : (a b d : Shown) → a.faults ≤ b.faults → HasFailed b d → HasFailed a d
failed_later a b d later (inl rose) = inl (omega (arith, later, rose))
failed_later a b d later (inr last) = inr last

met_later : (a b d : Shown) → a.faults ≤ b.faults → b.is_steady ≡ a.is_steady → MetOneFault b d → MetFault a d
met_later a b d later steady one = (failed_later a b d later (has_failed b d one), sym steady ∙ one.1)

too_long_before : (limit : ℕ) (a b : Shown) → b.content ≡ a.content → IsTooLong limit b → IsTooLong limit a
too_long_before limit a b kept long = (λ gone. long.0 (kept ∙ gone), λ all told. long.1 all (kept ∙ told))

pub loaded_before : (limit : ℕ) (bytes : List ℕ) (a b : Shown) → b.content ≡ a.content → IsLoaded limit bytes b → IsLoaded limit bytes a
loaded_before limit bytes a b kept loaded = record {
  whole = λ all told. loaded.whole all (kept ∙ told);
  there = λ gone. loaded.there (kept ∙ gone);
  within = loaded.within;
}

ok_weaker : {T E : Type 0} (r : Result T E) (P Q : T → Type 0) → ((x : T) → P x → Q x) → IfOk r P → IfOk r Q
ok_weaker (Ok x) P Q f h = f x h
ok_weaker (Err e) P Q f h = tt

err_weaker : {T E : Type 0} (r : Result T E) (P Q : E → Type 0) → ((e : E) → P e → Q e) → IfErr r P → IfErr r Q
err_weaker (Ok x) P Q f h = tt
err_weaker (Err e) P Q f h = f e h

-- ---- the steps

pub table_fails : (c : Compare) (old new : FilesTold) (status : Status) → FailsToLoad (old c.table_path) (new c.table_path) status → Refuses c old new status
table_fails c old new ReadFailed one = inl (has_failed (old c.table_path) (new c.table_path) one, one.1)
table_fails c old new OutOfMemory why = tt
table_fails c old new TooLong why = inl why
table_fails c old new (TableRefused fault) why = inl why
table_fails c old new _ why = absurd why

module _ (c : Compare) (old new : FilesTold) (text : List ℕ) (table : Table) (loaded : IsLoaded longest_table text (old c.table_path)) (is : table_of text ≡ accepted table) where
  pub root_fails : (status : Status) → FailsToFind table c.root_name status → Refuses c old new status
  root_fails NoSuchShape why = inl (text, loaded, (table, is, why))
  root_fails NotAStructure why = inl (text, loaded, (table, is, why))
  root_fails _ why = absurd why

  module _ (root : ℕ) (there : IsRoot c.root_name table root) where
    pub first_fails : (before : Shown) (status : Status) → before.content ≡ (old c.first.path).content → before.is_steady ≡ (old c.first.path).is_steady
        → (old c.first.path).faults ≤ before.faults → FailsToRead longest_input before (new c.first.path) status → Refuses c old new status
    first_fails before ReadFailed kept steady later one =
        inr (inl (text, loaded, (table, is, (root, there, met_later (old c.first.path) before (new c.first.path) later steady one))))
    first_fails before OutOfMemory kept steady later why = tt
    first_fails before TooLong kept steady later why =
        inr (inl (text, loaded, (table, is, (root, there, too_long_before longest_input (old c.first.path) before kept why))))
    first_fails before _ kept steady later why = absurd why

    module _ (first : List ℕ) (first_loaded : IsLoaded longest_input first (old c.first.path)) where
      pub second_fails : (before : Shown) (status : Status) → before.content ≡ (old c.second.path).content → before.is_steady ≡ (old c.second.path).is_steady
          → (old c.second.path).faults ≤ before.faults → FailsToRead longest_input before (new c.second.path) status → Refuses c old new status
      second_fails before ReadFailed kept steady later one =
          inr (inr (text, loaded, (table, is, (root, there, (first, first_loaded, met_later (old c.second.path) before (new c.second.path) later steady one)))))
      second_fails before OutOfMemory kept steady later why = tt
      second_fails before TooLong kept steady later why =
          inr (inr (text, loaded, (table, is, (root, there, (first, first_loaded, too_long_before longest_input (old c.second.path) before kept why)))))
      second_fails before _ kept steady later why = absurd why

      module _ (second : List ℕ) (second_loaded : IsLoaded longest_input second (old c.second.path)) where
        body_fails : (error : CompareError) → Answers c table root first second (Err error) → RefusesBody c old (status_of_compare_error error)
        body_fails error told = (text, loaded, (table, is, (root, there, (first, first_loaded, (second, second_loaded, (error, told, refl))))))

        refused_by : (error : CompareError) → Answers c table root first second (Err error) → Refuses c old new (status_of_compare_error error)
        refused_by (First errors.InvalidInput) told = inr (body_fails (First errors.InvalidInput) told)
        refused_by (First errors.TooDeep) told = inr (body_fails (First errors.TooDeep) told)
        refused_by (First errors.TooWide) told = inr (body_fails (First errors.TooWide) told)
        refused_by (First errors.NotCarried) told = inr (body_fails (First errors.NotCarried) told)
        refused_by (First (errors.Inexpressible u)) told = absurd told.says
        refused_by (First errors.NoMemory) told = tt
        refused_by (Second errors.InvalidInput) told = inr (body_fails (Second errors.InvalidInput) told)
        refused_by (Second errors.TooDeep) told = inr (body_fails (Second errors.TooDeep) told)
        refused_by (Second errors.TooWide) told = inr (body_fails (Second errors.TooWide) told)
        refused_by (Second errors.NotCarried) told = inr (body_fails (Second errors.NotCarried) told)
        refused_by (Second (errors.Inexpressible u)) told = absurd told.says.1
        refused_by (Second errors.NoMemory) told = tt
        refused_by NoMemory told = tt

        pub comparing_fails : (status : Status) → FailsToCompare c table root first second status → Refuses c old new status
        comparing_fails status (inl wanting) = let none : Refuses c old new OutOfMemory = tt in subst (Refuses c old new) (sym wanting) none
        comparing_fails status (inr by) = subst (Refuses c old new) (sym by.2) (refused_by by.0 by.1)

        -- what the last step answers
        pub last_fails : {T : Type 0} (r : Result T Status) → IfErr r (FailsToCompare c table root first second) → IfErr r (Refuses c old new)
        last_fails r why = err_weaker r (FailsToCompare c table root first second) (Refuses c old new) comparing_fails why

        pub last_finds : {T : Type 0} (r : Result T Status) (status : T → Status) (line : T → List ℕ) → IfOk r (λ a. IsFound c table root first second (status a) (line a))
            → IfOk r (λ a. IsFoundIn c old (status a) (line a))
        last_finds {T} r status line found =
            ok_weaker r (λ (a : T). IsFound c table root first second (status a) (line a)) (λ (a : T). IsFoundIn c old (status a) (line a))
            (λ (a : T) f. (text, loaded, (table, is, (root, there, (first, first_loaded, (second, second_loaded, (f.0, f.1, (f.2, f.3)))))))) found

-- ---- a run that is all in order

differs_alone : (found : Compared) → found ≢ compared.Same → Differs ≡ status_of_compared found
differs_alone compared.Same other = absurd (other refl)
differs_alone (compared.Differs path) other = refl

module _ (c : Compare) (old new : Environment) (text first second : List ℕ) (table : Table) (root : ℕ) (o : AllIsInOrder c old new text first second table root) where
  -- what was loaded is the table
  accepted_there : (found : List ℕ) → IsLoaded longest_table found (old.files c.table_path) → table_of found ≡ accepted table
  accepted_there found loaded = subst (λ (t : List ℕ). table_of t ≡ accepted table) (sym (loaded.whole text o.file.told)) o.accepted_as

  of_table : (P : Table → Type 0) → AfterTable (old.files c.table_path) P → P table
  of_table P after =
      let is = accepted_there after.0 after.1 in
      let told = after.2.1 in
      let same : after.2.0 ≡ table = cc (is, told) in
      subst P same after.2.2

  of_root : (P : Table → ℕ → Type 0) → AfterRoot c.root_name (old.files c.table_path) P → P table root
  of_root P after =
      let there = of_table (λ (t : Table). (r : ℕ) × IsRoot c.root_name t r × P t r) after in
      let named = there.1.named in
      let is = o.is_root.named in
      let same : there.0 ≡ root = cc (named, is) in
      subst (λ (r : ℕ). P table r) same there.2

  of_first : (P : Table → ℕ → List ℕ → Type 0) → AfterFirst c old.files P → P table root first
  of_first P after =
      let there = of_root (λ (t : Table) (r : ℕ). (b : List ℕ) × IsLoaded longest_input b (old.files c.first.path) × P t r b) after in
      subst (λ (b : List ℕ). P table root b) (there.1.whole first o.first_file.told) there.2

  of_both : (P : Table → ℕ → List ℕ → List ℕ → Type 0) → AfterBoth c old.files P → P table root first second
  of_both P after =
      let there = of_first (λ (t : Table) (r : ℕ) (a : List ℕ). (b : List ℕ) × IsLoaded longest_input b (old.files c.second.path) × P t r a b) after in
      subst (λ (b : List ℕ). P table root first b) (there.1.whole second o.second_file.told) there.2

  of_comparison : (P : Compared → List ℕ → Type 0) → AfterComparing c old.files P
      → (found : Compared) × Answers c table root first second (Ok found) × P found (answer_line table root found)
  of_comparison P after =
      of_both (λ (t : Table) (r : ℕ) (a b : List ℕ). (found : Compared) × Answers c t r a b (Ok found) × P found (answer_line t r found)) after

  of_refusal : (status : Status) → RefusesBody c old.files status
      → (e : CompareError) × Answers c table root first second (Err e) × (status ≡ status_of_compare_error e)
  of_refusal status after =
      of_both (λ (t : Table) (r : ℕ) (a b : List ℕ). (e : CompareError) × Answers c t r a b (Err e) × (status ≡ status_of_compare_error e)) after

  too_long : (limit : ℕ) (file : Shown) (bytes : List ℕ) → IsTooLong limit file → Shows file bytes → length bytes ≤ limit → ⊥
  too_long limit file bytes long told within = let more = long.1 bytes told in absurd (omega (arith, more, within))

  abbrev Ends : Status → Type 0
  Ends status = (status ≡ OutOfMemory) ⊎ ((answer : Answer) × Answers c table root first second answer × (status ≡ status_of_comparison answer))

  ends_by : (status : Status) → RefusesBody c old.files status → Ends status
  ends_by status by = let there = of_refusal status by in inr (Err there.0, there.1, there.2)

  pub complete_of : (status : Status) → Says c old new status → Ends status
  complete_of Done says =
      let found = of_comparison (λ found line. (found ≡ compared.Same) × Took line old.out new.out) says in
      inr (Ok found.0, found.1, sym (ap status_of_compared found.2.0))
  complete_of Differs says =
      let found = of_comparison (λ found line. (found ≢ compared.Same) × Took line old.out new.out) says in
      inr (Ok found.0, found.1, differs_alone found.0 found.2.0)
  complete_of WriteFailed says =
      let found = of_comparison (λ found line. MetOneFault old.out new.out × TookPrefix line old.out new.out) says in
      absurd (o.out_is_well (has_failed old.out new.out found.2.0))
  complete_of OutOfMemory says = inl refl
  complete_of ReadFailed (inl met) = absurd (o.file.well met.0)
  complete_of ReadFailed (inr (inl after)) =
      let met = of_root (λ t r. MetFault (old.files c.first.path) (new.files c.first.path)) after in absurd (o.first_file.well met.0)
  complete_of ReadFailed (inr (inr after)) =
      let met = of_first (λ t r b. MetFault (old.files c.second.path) (new.files c.second.path)) after in absurd (o.second_file.well met.0)
  complete_of TooLong (inl long) = absurd (too_long longest_table (old.files c.table_path) text long o.file.told o.file.within)
  complete_of TooLong (inr (inl after)) =
      let long = of_root (λ t r. IsTooLong longest_input (old.files c.first.path)) after in
      absurd (too_long longest_input (old.files c.first.path) first long o.first_file.told o.first_file.within)
  complete_of TooLong (inr (inr after)) =
      let long = of_first (λ t r b. IsTooLong longest_input (old.files c.second.path)) after in
      absurd (too_long longest_input (old.files c.second.path) second long o.second_file.told o.second_file.within)
  complete_of (TableRefused fault) (inl says) = let is = accepted_there says.0 says.1 in let told = says.2.3 in absurd (cc (is, told))
  complete_of NoSuchShape (inl says) =
      let none = of_table (λ (t : Table). declared_as t c.root_name ≡ None) says in let is = o.is_root.named in absurd (cc (none, is))
  complete_of NotAStructure (inl says) =
      let there = of_table (λ (t : Table). (r : ℕ) × (declared_as t c.root_name ≡ Some r) × ¬ IsStructure (kind_of t (shape_place r))) says in
      let named = there.1 in
      let is = o.is_root.named in
      let same : root ≡ there.0 = cc (named, is) in
      absurd (there.2 (subst (λ (r : ℕ). IsStructure (kind_of table (shape_place r))) same o.is_root.structure))
  complete_of _ (inl says) = absurd says
  complete_of _ (inr by) = ends_by _ by

-- ---- a run over what is steady

not_met : (a b : Shown) → a.is_steady ≡ true → MetFault a b → ⊥
not_met a b steady met = let unsteady = met.1 in absurd (cc (steady, unsteady))

steady_of : (c : Compare) (old new : Environment) → (old.files c.table_path).is_steady ≡ true → (old.files c.first.path).is_steady ≡ true
    → (old.files c.second.path).is_steady ≡ true → old.out.is_steady ≡ true → (status : Status) → Says c old new status → (status ≢ ReadFailed) × (status ≢ WriteFailed)
steady_of c old new table first second out status says = (
  λ e. loads (subst (Says c old new) e says),
  λ e. let wrote = subst (Says c old new) e says in steady_meets_none old.out new.out out wrote.2.2.2.2.2.2.0,
) where
  loads : Says c old new ReadFailed → ⊥
  loads (inl met) = not_met (old.files c.table_path) (new.files c.table_path) table met
  loads (inr (inl after)) = not_met (old.files c.first.path) (new.files c.first.path) first after.2.2.2
  loads (inr (inr after)) = not_met (old.files c.second.path) (new.files c.second.path) second after.2.2.2.2

-- ---- the answer

-- whether a body that is refused may have the status
abbrev is_of_error : Status → Bool
is_of_error OutOfMemory = true
is_of_error InvalidInput = true
is_of_error TooDeep = true
is_of_error TooWide = true
is_of_error NotCarried = true
is_of_error (Inexpressible u) = true
is_of_error SecondInvalidInput = true
is_of_error SecondTooDeep = true
is_of_error SecondTooWide = true
is_of_error SecondNotCarried = true
is_of_error _ = false

of_error : (e : TranscodeError) → is_of_error (status_of_error e) ≡ true
of_error errors.InvalidInput = refl
of_error errors.TooDeep = refl
of_error errors.TooWide = refl
of_error errors.NotCarried = refl
of_error (errors.Inexpressible u) = refl
of_error errors.NoMemory = refl

of_second_error : (e : TranscodeError) → is_of_error (status_of_second_error e) ≡ true
of_second_error errors.InvalidInput = refl
of_second_error errors.TooDeep = refl
of_second_error errors.TooWide = refl
of_second_error errors.NotCarried = refl
of_second_error (errors.Inexpressible u) = refl
of_second_error errors.NoMemory = refl

of_compare_error : (e : CompareError) → is_of_error (status_of_compare_error e) ≡ true
of_compare_error (First e) = of_error e
of_compare_error (Second e) = of_second_error e
of_compare_error NoMemory = refl

not_of_error : (c : Compare) (files : FilesTold) (status : Status) → RefusesBody c files status → is_of_error status ≡ false → ⊥
not_of_error c files status by other =
    let error = by.2.2.2.2.2 in
    let all = of_compare_error error.0 in
    let is = error.2 in
    absurd (let e : true ≡ false = sym all ∙ ap is_of_error (sym is) ∙ other in cc)

refusal_says : (c : Compare) (old new : Environment) (status : Status) → Refuses c old.files new.files status → Says c old new status
refusal_says c old new Done (inl why) = absurd why
refusal_says c old new Done (inr by) = absurd (not_of_error c old.files Done by refl)
refusal_says c old new Differs (inl why) = absurd why
refusal_says c old new Differs (inr by) = absurd (not_of_error c old.files Differs by refl)
refusal_says c old new WriteFailed (inl why) = absurd why
refusal_says c old new WriteFailed (inr by) = absurd (not_of_error c old.files WriteFailed by refl)
refusal_says c old new _ why = why

refusal_tells_nothing : (c : Compare) (old new : Environment) (status : Status) → Refuses c old.files new.files status → tells_output status ≡ true → ⊥
refusal_tells_nothing c old new ReadFailed why answer = cc
refusal_tells_nothing c old new OutOfMemory why answer = cc
refusal_tells_nothing c old new InvalidInput why answer = cc
refusal_tells_nothing c old new TooDeep why answer = cc
refusal_tells_nothing c old new TooWide why answer = cc
refusal_tells_nothing c old new NotCarried why answer = cc
refusal_tells_nothing c old new (Inexpressible u) why answer = cc
refusal_tells_nothing c old new (TableRefused fault) why answer = cc
refusal_tells_nothing c old new NoSuchShape why answer = cc
refusal_tells_nothing c old new NotAStructure why answer = cc
refusal_tells_nothing c old new TooLong why answer = cc
refusal_tells_nothing c old new SecondInvalidInput why answer = cc
refusal_tells_nothing c old new SecondTooDeep why answer = cc
refusal_tells_nothing c old new SecondTooWide why answer = cc
refusal_tells_nothing c old new SecondNotCarried why answer = cc
refusal_tells_nothing c old new _ (inl why) answer = why
refusal_tells_nothing c old new _ (inr by) answer = not_of_error c old.files _ by refl

-- what holds of what was found and of its line, if P does
after_weaker : (c : Compare) (files : FilesTold) (P Q : Compared → List ℕ → Type 0) → ((found : Compared) (line : List ℕ) → P found line → Q found line)
    → AfterComparing c files P → AfterComparing c files Q
after_weaker c files P Q f after =
    let table = after.2 in
    let root = table.2 in
    let first = root.2 in
    let second = first.2 in
    let found = second.2 in
    (after.0, after.1, (table.0, table.1, (root.0, root.1, (first.0, first.1, (second.0, second.1, (found.0, found.1, f found.0 _ found.2))))))

-- no other status comes with what was found
neither : (status : Status) (found : Compared) → status ≡ status_of_compared found → (status ≡ Done → ⊥) → (status ≡ Differs → ⊥) → ⊥
neither status compared.Same is done differs = done is
neither status (compared.Differs path) is done differs = differs is

found_is_told : (found : Compared) → tells_output (status_of_compared found) ≡ true
found_is_told compared.Same = refl
found_is_told (compared.Differs path) = refl

same_alone : (found : Compared) → Done ≡ status_of_compared found → found ≡ compared.Same
same_alone compared.Same is = refl
same_alone (compared.Differs path) is = absurd (let e : Done ≡ Differs = is in cc)

other_alone : (found : Compared) → Differs ≡ status_of_compared found → found ≢ compared.Same
other_alone found is = λ same. absurd (let e : Differs ≡ Done = subst (λ (f : Compared). Differs ≡ status_of_compared f) same is in cc)

module _ (c : Compare) (files files_behind : List ℕ → Shown) (input out out_behind : Shown) (held held_behind : Bool)
    (kept : (path : List ℕ) → (files_behind path).content ≡ (files path).content) where
  abbrev before : Environment
  before = environment_of files input out held

  abbrev behind : Environment
  behind = environment_of files_behind input out_behind held_behind

  abbrev unwritten : Environment
  unwritten = environment_of files_behind input out held

  pub nothing_found : (status : Status) → Refuses c files files_behind status → CompareAnswer c before unwritten status
  nothing_found status why = let says = refusal_says c before unwritten status why in record {
    says = says;
    input_is_untouched = refl;
    files_are_kept = kept;
    complete = λ text first second table root o. complete_of c before unwritten text first second table root o status says;
    steady_never_fails = λ table first second o. steady_of c before unwritten table first second o status says;
    output = record {
      nothing_is_held_back = λ answer. absurd (refusal_tells_nothing c before unwritten status why answer);
      out_met_no_fault = λ other. (refl, refl);
      out_is_untouched = λ a b. (refl, refl);
    };
  }

  found_says : (status : Status) → AfterComparing c files (λ found text. (status ≡ status_of_compared found) × Took text out out_behind) → Says c before behind status
  found_says Done told =
      after_weaker c files (λ found text. (Done ≡ status_of_compared found) × Took text out out_behind) (λ found text. (found ≡ compared.Same) × Took text out out_behind)
      (λ found text p. (same_alone found p.0, p.1)) told
  found_says Differs told =
      after_weaker c files (λ found text. (Differs ≡ status_of_compared found) × Took text out out_behind) (λ found text. (found ≢ compared.Same) × Took text out out_behind)
      (λ found text p. (other_alone found p.0, p.1)) told
  found_says _ told = absurd (neither _ told.2.2.2.2.2.0 told.2.2.2.2.2.2.0 (λ e. cc e) (λ e. cc e))

  module _ (status : Status) (line : List ℕ) (found : IsFoundIn c files status line) where
    answered : tells_output status ≡ true
    answered = let is = found.2.2.2.2.2.2.0 in ap tells_output is ∙ found_is_told found.2.2.2.2.2.0

    pub all_written : MetNoFault out out_behind → Took line out out_behind → held_behind ≡ false → CompareAnswer c before behind status
    all_written well took finished =
        let told = after_weaker c files (λ f text. (status ≡ status_of_compared f) × (line ≡ text)) (λ f text. (status ≡ status_of_compared f) × Took text out out_behind)
        (λ f text p. (p.0, subst (λ (t : List ℕ). Took t out out_behind) p.1 took)) found in
        let says = found_says status told in record {
          says = says;
          input_is_untouched = refl;
          files_are_kept = kept;
          complete = λ text first second table root o. complete_of c before behind text first second table root o status says;
          steady_never_fails = λ table first second o. steady_of c before behind table first second o status says;
          output = record {
            nothing_is_held_back = λ answer. finished;
            out_met_no_fault = λ other. well;
            out_is_untouched = λ other written. absurd (let all = answered in cc (all, other));
          };
        }

    pub not_all_written : MetOneFault out out_behind → TookPrefix line out out_behind → CompareAnswer c before behind WriteFailed
    not_all_written fault took =
        let says : Says c before behind WriteFailed = after_weaker c files (λ f text. (status ≡ status_of_compared f) × (line ≡ text))
        (λ f text. MetOneFault out out_behind × TookPrefix text out out_behind)
        (λ f text p. (fault, subst (λ (t : List ℕ). TookPrefix t out out_behind) p.1 took)) found in record {
          says = says;
          input_is_untouched = refl;
          files_are_kept = kept;
          complete = λ text first second table root o. complete_of c before behind text first second table root o WriteFailed says;
          steady_never_fails = λ table first second o. steady_of c before behind table first second o WriteFailed says;
          output = record {
            nothing_is_held_back = λ answer. absurd (let f : false ≡ true = answer in cc);
            out_met_no_fault = λ other. absurd (other refl);
            out_is_untouched = λ a other. absurd (other refl);
          };
        }

says_no_usage : (c : Compare) (old new : Environment) → Says c old new Usage → ⊥
says_no_usage c old new (inl why) = why
says_no_usage c old new (inr by) = not_of_error c old.files Usage by refl

pub compare_is_no_usage : (c : Compare) (old new : Environment) (status : Status) → CompareAnswer c old new status → status ≢ Usage
compare_is_no_usage c old new status answer = λ e. says_no_usage c old new (subst (Says c old new) e answer.says)
