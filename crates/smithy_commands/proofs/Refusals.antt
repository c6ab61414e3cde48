-- What the checks that commands share say where they fail.
use Rattle.std.proofs.Common.{◌≡◌, ◌≢◌, ◌<◌, ◌∙◌, ◌⊎◌, inl, inr, ℕ, List, length, Some, true, Result, Err, IsErrOf, refl, sym, subst, arith}
use Rattle.std.specs.declared.vec.Vec.{Vec}
use Rattle.std.specs.declared.alloc.Global.{Global}
use Rattle.smithy_outside.specs.declared.outside.LoadFault.{LoadFault}
use Rattle.smithy_outside.specs.declared.outside.LoadFault.TheVariants as load_faults
use Rattle.smithy_declarations.specs.declared.fault.TableFault.{TableFault}
use Rattle.smithy_declarations.specs.declared.fault.TableFault.TheVariants.{BadLine, FloatShape, UnknownTarget, UnknownTimeFormat, DuplicateShape, NameClash, QueryName, KeyValueName, SparseDocument, TooMany, NoMemory}
use Rattle.smithy_declarations.specs.Decl.{Decl}
use Rattle.smithy_declarations.specs.TableText.{Lines, declarations, declarations_of}
use Rattle.smithy_declarations.specs.Acceptance.{accepted, refused, bad_line, build_of, table_of}
use Rattle.smithy_declarations.specs.DeclViews.{IsRefusedBy, IsLineFault}
use Rattle.smithy_declarations.specs.Table.{Table, IsStructure, kind_of, shape_place, declared_as}
use Rattle.smithy_outside.specs.Outside.{Shown, missing, MetNoFault, Shows, GavePast, IsCountedLoad}
use Rattle.smithy_outside.proofs.Moved.{gave_longer}
use Rattle.smithy_commands.specs.Status.{tells_output, status_of_load_fault, status_of_table_fault}
use Rattle.smithy_commands.specs.declared.status.Status.{Status}
use Rattle.smithy_commands.specs.declared.status.Status.TheVariants.{Done, ReadFailed, OutOfMemory, TableRefused, NoSuchShape, NotAStructure, TooLong, Differs, LinesRefused, FindingsTold}
use Rattle.smithy_commands.specs.Checks.{longest_table, longest_input, Sources, IsLoaded, IsInOrder, IsRoot, RefusesTable, RefusesTableChecks, RefusesChecks}
use Rattle.smithy_commands.specs.Private.Stages.{FailsToLoad, FailsToFind}

pub table_of_bad_line : (text : List ℕ) (n : ℕ) → declarations_of text ≡ Lines.bad_line n → table_of text ≡ refused bad_line n
table_of_bad_line text n e = rw (e, table_of) refl

pub table_of_declarations : (text : List ℕ) (decls : List Decl) → declarations_of text ≡ declarations decls → table_of text ≡ build_of decls
table_of_declarations text decls e = rw (e, table_of) refl

-- a line that is of no form
pub line_fails : (old new : Shown) (text : List ℕ) (fault : TableFault) → IsLoaded longest_table text old → IsLineFault (declarations_of text) fault
    → FailsToLoad old new (status_of_table_fault fault)
line_fails old new text (BadLine n) loaded e = (text, loaded, (bad_line, _, n, table_of_bad_line text n e, refl))
line_fails old new text (FloatShape n) loaded e = absurd e
line_fails old new text (UnknownTarget n) loaded e = absurd e
line_fails old new text (UnknownTimeFormat n) loaded e = absurd e
line_fails old new text (DuplicateShape n) loaded e = absurd e
line_fails old new text (NameClash n) loaded e = absurd e
line_fails old new text (QueryName n) loaded e = absurd e
line_fails old new text (KeyValueName n) loaded e = absurd e
line_fails old new text (SparseDocument n) loaded e = absurd e
line_fails old new text (TooMany n) loaded e = absurd e
line_fails old new text NoMemory loaded e = tt

-- declarations that are no table
pub build_fails : (old new : Shown) (text : List ℕ) (decls : List Decl) (fault : TableFault) → IsLoaded longest_table text old
    → declarations_of text ≡ declarations decls → IsRefusedBy (build_of decls) fault → FailsToLoad old new (status_of_table_fault fault)
build_fails old new text decls (BadLine n) loaded e r = (text, loaded, (_, _, n, table_of_declarations text decls e ∙ r, refl))
build_fails old new text decls (FloatShape n) loaded e r = (text, loaded, (_, _, n, table_of_declarations text decls e ∙ r, refl))
build_fails old new text decls (UnknownTarget n) loaded e r = (text, loaded, (_, _, n, table_of_declarations text decls e ∙ r, refl))
build_fails old new text decls (UnknownTimeFormat n) loaded e r = (text, loaded, (_, _, n, table_of_declarations text decls e ∙ r, refl))
build_fails old new text decls (DuplicateShape n) loaded e r = (text, loaded, (_, _, n, table_of_declarations text decls e ∙ r, refl))
build_fails old new text decls (NameClash n) loaded e r = (text, loaded, (_, _, n, table_of_declarations text decls e ∙ r, refl))
build_fails old new text decls (QueryName n) loaded e r = (text, loaded, (_, _, n, table_of_declarations text decls e ∙ r, refl))
build_fails old new text decls (KeyValueName n) loaded e r = (text, loaded, (_, _, n, table_of_declarations text decls e ∙ r, refl))
build_fails old new text decls (SparseDocument n) loaded e r = (text, loaded, (_, _, n, table_of_declarations text decls e ∙ r, refl))
build_fails old new text decls (TooMany n) loaded e r = (text, loaded, (_, _, n, table_of_declarations text decls e ∙ r, refl))
build_fails old new text decls NoMemory loaded e r = tt

-- ---- a command before its input was read

-- what a read answers that is refused by this fault
abbrev unread : LoadFault → Result (Vec ℕ Global) LoadFault
unread fault = Err fault

-- a read that is refused otherwise than by a fault meets none
pub well_unless_read_failed : (fault : LoadFault) (old new : Shown) → IsCountedLoad (unread fault) old new → status_of_load_fault fault ≢ ReadFailed
    → MetNoFault old new
well_unless_read_failed load_faults.Failed old new counts other = absurd (other refl)
well_unless_read_failed load_faults.TooLong old new counts other = counts
well_unless_read_failed load_faults.NoMemory old new counts other = counts

module _ (root_name : List ℕ) (old new : Sources) (text : List ℕ) (table : Table) (loaded : IsLoaded longest_table text old.table) (is : table_of text ≡ accepted table) where
  -- the input wasn't read
  pub read_refuses : (root : ℕ) → IsRoot root_name table root → (fault : LoadFault) → MetNoFault old.table new.table → IsCountedLoad (unread fault) old.input new.input
      → (IsErrOf (unread fault) load_faults.TooLong → GavePast longest_input old.input new.input)
      → RefusesChecks root_name old new (status_of_load_fault fault)
  read_refuses root there load_faults.Failed well counts long = inr (text, loaded, (table, is, (root, there, (well, counts))))
  read_refuses root there load_faults.TooLong well counts long = inr (text, loaded, (table, is, (root, there, long refl)))
  read_refuses root there load_faults.NoMemory well counts long = tt

-- ---- a table that isn't loaded, and one without the root

pub table_unloaded : (root_name : List ℕ) (old new : Shown) (status : Status) → FailsToLoad old new status → RefusesTableChecks root_name old new status
table_unloaded root_name old new ReadFailed why = why
table_unloaded root_name old new OutOfMemory why = tt
table_unloaded root_name old new TooLong why = why
table_unloaded root_name old new (TableRefused fault) why = why
table_unloaded root_name old new _ why = absurd why

pub root_missing : (root_name : List ℕ) (old new : Shown) (text : List ℕ) (table : Table) → IsLoaded longest_table text old → table_of text ≡ accepted table → (status : Status)
    → FailsToFind table root_name status → RefusesTableChecks root_name old new status
root_missing root_name old new text table loaded is NoSuchShape why = (text, loaded, (table, is, why))
root_missing root_name old new text table loaded is NotAStructure why = (text, loaded, (table, is, why))
root_missing root_name old new text table loaded is _ why = absurd why

-- what refuses the table refuses a command before its input
pub table_refuses : (root_name : List ℕ) (old new : Sources) (status : Status) → new.input ≡ old.input → RefusesTableChecks root_name old.table new.table status
    → RefusesChecks root_name old new status
table_refuses root_name old new ReadFailed kept why = inl (kept, why)
table_refuses root_name old new OutOfMemory kept why = tt
table_refuses root_name old new TooLong kept why = inl (kept, why)
table_refuses root_name old new _ kept why = (kept, why)

-- ---- what every refusal says

pub missing_refuses : (root_name : List ℕ) (old new : Sources) → old.table.content ≡ missing → (status : Status) → RefusesChecks root_name old new status
    → (status ≡ ReadFailed) ⊎ (status ≡ OutOfMemory)
missing_refuses root_name old new gone ReadFailed why = inl refl
missing_refuses root_name old new gone OutOfMemory why = inr refl
missing_refuses root_name old new gone (TableRefused fault) why = absurd (why.1.1.there gone)
missing_refuses root_name old new gone NoSuchShape why = absurd (why.1.1.there gone)
missing_refuses root_name old new gone NotAStructure why = absurd (why.1.1.there gone)
missing_refuses root_name old new gone TooLong (inl first) = absurd (first.1.0 gone)
missing_refuses root_name old new gone TooLong (inr after) = absurd (after.1.there gone)
missing_refuses root_name old new gone _ why = absurd why.1

pub refusal_tells_nothing : (root_name : List ℕ) (old new : Sources) (status : Status) → RefusesChecks root_name old new status → tells_output status ≡ true → ⊥
refusal_tells_nothing root_name old new Done why tells = why.1
refusal_tells_nothing root_name old new Differs why tells = why.1
refusal_tells_nothing root_name old new LinesRefused why tells = why.1
refusal_tells_nothing root_name old new FindingsTold why tells = why.1
refusal_tells_nothing root_name old new _ why tells = cc

-- ---- a table that is told and in order

-- what gave more than the limit had more
pub past_limit : (limit : ℕ) (a b : Shown) (was : List ℕ) → GavePast limit a b → Shows a was → limit < length was
past_limit limit a b was past told = gave_longer limit past.0 a b past.1 (omega (arith, past.2)) was told

module _ (root_name text : List ℕ) (old new : Shown) (table : Table) (root : ℕ) (file : IsInOrder longest_table text old new) (is : table_of text ≡ accepted table)
    (there : IsRoot root_name table root) where
  same_text : (found : List ℕ) → IsLoaded longest_table found old → table_of found ≡ accepted table
  same_text found loaded = subst (λ (t : List ℕ). table_of t ≡ accepted table) (sym (loaded.whole text file.told)) is

  pub same_table : (found : List ℕ) → IsLoaded longest_table found old → (other : Table) → table_of found ≡ accepted other → table ≡ other
  same_table found loaded other found_is = let same = same_text found loaded in cc (same, found_is)

  named_there : (other : Table) → table ≡ other → declared_as other root_name ≡ Some root
  named_there other same = subst (λ (t : Table). declared_as t root_name ≡ Some root) same there.named

  structure_there : (other : Table) → table ≡ other → IsStructure (kind_of other (shape_place root))
  structure_there other same = subst (λ (t : Table). IsStructure (kind_of t (shape_place root))) same there.structure

  pub same_root : (other : Table) → table ≡ other → (n : ℕ) → declared_as other root_name ≡ Some n → root ≡ n
  same_root other same n named = let first = named_there other same in cc (first, named)

  -- isn't refused
  pub table_holds : (status : Status) → RefusesTable root_name old status → ⊥
  table_holds (TableRefused fault) after = let same = same_text after.0 after.1 in let told = after.2.3 in cc (same, told)
  table_holds NoSuchShape after =
      let named = named_there after.2.0 (same_table after.0 after.1 after.2.0 after.2.1) in let none = after.2.2 in cc (named, none)
  table_holds NotAStructure after =
      let other = after.2.0 in
      let t = same_table after.0 after.1 other after.2.1 in
      let n = after.2.2.0 in
      after.2.2.2 (subst (λ (m : ℕ). IsStructure (kind_of other (shape_place m))) (same_root other t n after.2.2.1) (structure_there other t))
  table_holds _ why = why
