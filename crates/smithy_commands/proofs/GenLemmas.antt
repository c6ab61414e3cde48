-- What a status says of `gen`. What is generated goes from JSON to CBOR and back, and only want of memory refuses it.
use Rattle.std.proofs.Common.{◌≡◌, ◌≢◌, ◌∙◌, ℕ, List, Bool, length, Some, true, false, Ok, Err, refl, sym, ap, subst, codes}
use Rattle.std.specs.Cmp.Lexicographic.{pointwise}
use Rattle.std.specs.Prelude.{nat_eq}
use Rattle.std.proofs.lemmas.Cmp.{nat_list_eq_equiv}
use Rattle.std.specs.declared.vec.Vec.{Vec}
use Rattle.std.specs.declared.alloc.Global.{Global}
use Rattle.smithy_declarations.specs.declared.fault.TableFault.{TableFault}
use Rattle.smithy_declarations.specs.declared.fault.TableFault.TheVariants.{BadLine, FloatShape, UnknownTarget, UnknownTimeFormat, DuplicateShape, NameClash, QueryName, KeyValueName, SparseDocument, TooMany, NoMemory}
use Rattle.smithy_declarations.specs.Acceptance.{TableAnswer, accepted, table_of}
use Rattle.smithy_declarations.specs.DeclViews.{IsRefusedBy, IsLineFault}
use Rattle.smithy_shapes.specs.ScalarTest.{no_documents}
use Rattle.smithy_declarations.specs.Table.{Table, declared_as}
use Rattle.smithy_declarations.specs.TableText.{declarations_of}
use Rattle.smithy_declarations.specs.Value.{Value}
use Rattle.smithy_transcode.specs.declared.wire.TranscodeError.{TranscodeError}
use Rattle.smithy_transcode.specs.declared.wire.TranscodeError.TheVariants as errors
use Rattle.smithy_transcode.specs.Spelling.{Spells, body}
use Rattle.smithy_transcode.specs.Transcoding.{TellsAgain, GivesOrNoMemory, Transcodes}
use Rattle.smithy_transcode.specs.Wires.{Wire, json, cbor, holds}
use Rattle.smithy_transcode.proofs.Transcodings.{one_value}
use Rattle.smithy_generator.specs.Generated.{generated, generated_table}
use Rattle.smithy_generator.specs.GeneratedShapes.{generated_shapes, generated_root, generated_value}
use Rattle.smithy_generator.proofs.Passes.{PassesItems, whole_seconds, input_passes}
use Rattle.smithy_generator.proofs.Tables.{table_is, root_is}
use Rattle.smithy_commands.specs.declared.status.Status.{Status}
use Rattle.smithy_commands.specs.declared.status.Status.TheVariants.{Done, Usage, WriteFailed, OutOfMemory, NoSuchShape, NotAStructure}
use Rattle.smithy_commands.specs.Private.Stages.{FailsToFind}
use Rattle.smithy_commands.specs.Status.{status_of_table_fault, status_of_error}
use Rattle.smithy_commands.specs.Gen.{Gen, line_of_lengths, IsGenLine, Tells, GenAnswer, IsExpressible, HasBodiesOfLengths}
use Rattle.smithy_outside.specs.Outside.{Shown, Environment, environment_of, MetNoFault, MetOneFault, Took, TookPrefix}
use Rattle.smithy_outside.proofs.Faults.{steady_meets_none}
use Rattle.smithy_commands.proofs.Refusals.{table_of_bad_line}

-- ---- the table

-- declarations that are a table
pub accepted_alone : (answer : TableAnswer) (t : Table) (fault : TableFault) → answer ≡ accepted t → IsRefusedBy answer fault → status_of_table_fault fault ≡ OutOfMemory
accepted_alone answer t NoMemory is r = refl
accepted_alone answer t (BadLine n) is r = absurd (cc (is, r))
accepted_alone answer t (FloatShape n) is r = absurd (cc (is, r))
accepted_alone answer t (UnknownTarget n) is r = absurd (cc (is, r))
accepted_alone answer t (UnknownTimeFormat n) is r = absurd (cc (is, r))
accepted_alone answer t (DuplicateShape n) is r = absurd (cc (is, r))
accepted_alone answer t (NameClash n) is r = absurd (cc (is, r))
accepted_alone answer t (QueryName n) is r = absurd (cc (is, r))
accepted_alone answer t (KeyValueName n) is r = absurd (cc (is, r))
accepted_alone answer t (SparseDocument n) is r = absurd (cc (is, r))
accepted_alone answer t (TooMany n) is r = absurd (cc (is, r))

-- lines that are a table
pub lines_alone : (text : List ℕ) (t : Table) (fault : TableFault) → table_of text ≡ accepted t → IsLineFault (declarations_of text) fault → status_of_table_fault fault ≡ OutOfMemory
lines_alone text t NoMemory is r = refl
lines_alone text t (BadLine n) is r = absurd (let bad = table_of_bad_line text n r in cc (is, bad))
lines_alone text t (FloatShape n) is r = absurd r
lines_alone text t (UnknownTarget n) is r = absurd r
lines_alone text t (UnknownTimeFormat n) is r = absurd r
lines_alone text t (DuplicateShape n) is r = absurd r
lines_alone text t (NameClash n) is r = absurd r
lines_alone text t (QueryName n) is r = absurd r
lines_alone text t (KeyValueName n) is r = absurd r
lines_alone text t (SparseDocument n) is r = absurd r
lines_alone text t (TooMany n) is r = absurd r

-- the generator's table is what its text is, and no other
pub only_table : (t : Table) → table_of generated_table ≡ accepted t → t ≡ generated_shapes
only_table t is = let same : accepted t ≡ accepted generated_shapes = sym is ∙ table_is in cc

pub only_root : (root : ℕ) → declared_as generated_shapes (codes "S") ≡ Some root → root ≡ generated_root
only_root root is = let same : Some root ≡ Some generated_root = sym is ∙ root_is in cc

-- ---- the input

json_passes : PassesItems (holds (json false false))
json_passes = record { numbers = λ n. refl; texts = λ t. refl; seconds = λ n. refl }

none_is_document : PassesItems no_documents
none_is_document = record { numbers = λ n. refl; texts = λ t. refl; seconds = λ n. refl }

cbor_passes : PassesItems (holds (cbor false))
cbor_passes = record { numbers = λ n. refl; texts = λ t. refl; seconds = λ n. rw (whole_seconds n) refl }

pub input_is_expressible : (seed count : ℕ) → Spells (json false false) generated_shapes generated_root (generated seed count) (generated_value seed count)
    → IsExpressible generated_shapes generated_root (generated seed count)
input_is_expressible seed count spells = (
  generated_value seed count,
  spells,
  rw (input_passes no_documents none_is_document seed count, input_passes (holds (cbor false)) cbor_passes seed count) refl,
  rw (input_passes (holds (json false false)) json_passes seed count) refl,
)

-- ---- one transcoding

pub memory_alone : (bytes : List ℕ) (e : TranscodeError) → GivesOrNoMemory bytes (Err e) → status_of_error e ≡ OutOfMemory
memory_alone bytes errors.NoMemory given = refl
memory_alone bytes errors.InvalidInput given = absurd given
memory_alone bytes errors.TooDeep given = absurd given
memory_alone bytes errors.TooWide given = absurd given
memory_alone bytes errors.NotCarried given = absurd given
memory_alone bytes (errors.Inexpressible u) given = absurd given

pub told_of : (table : Table) (root : ℕ) (from : Wire) (input : List ℕ) (to : Wire) (out : Vec ℕ Global) → Transcodes table root from input to (Ok out) → (v : Value)
    → Spells from table root input v → (out.items ≡ body to table root v) × TellsAgain to table root out.items v
told_of table root from input to out told v spells =
    let found = told.answers_ok in
    let same : found.0 ≡ v = one_value from table root input found.0 v found.1 spells in
    (subst (λ u. out.items ≡ body to table root u) same found.3, subst (λ u. TellsAgain to table root out.items u) same found.4)

-- the root is there
pub root_alone : (status : Status) → FailsToFind generated_shapes (codes "S") status → status ≡ OutOfMemory
root_alone NoSuchShape fails = absurd (let none = fails in let some = root_is in cc)
root_alone NotAStructure fails = absurd (fails.2 (rw (only_root fails.0 fails.1) tt))
root_alone _ fails = absurd fails

pub same_bytes : (xs ys : List ℕ) → xs ≡ ys → pointwise nat_eq xs ys ≡ true
same_bytes xs ys same = subst (λ zs. pointwise nat_eq xs zs ≡ true) same (nat_list_eq_equiv.refl xs)

-- ---- the line

pub line_is : (c : Gen) (table : Table) (root : ℕ) (input : List ℕ) (in_cbor in_json size : ℕ) (line : List ℕ) → table ≡ generated_shapes
    → declared_as table (codes "S") ≡ Some root → input ≡ generated c.seed c.count → size ≡ length input → HasBodiesOfLengths table root input in_cbor in_json
    → line ≡ line_of_lengths size in_cbor in_json → IsGenLine c line
line_is c table root input in_cbor in_json size line t declared i n both is = (
  in_cbor,
  in_json,
  (table, root, both.0, table_is ∙ ap accepted (sym t), declared, subst (λ bytes. Spells (json false false) table root bytes both.0) i both.1, both.2, both.3),
  is ∙ ap (λ m. line_of_lengths m in_cbor in_json) (n ∙ ap length i),
)

-- ---- the answer

module _ (c : Gen) (files : List ℕ → Shown) (input out out_behind : Shown) (held held_behind : Bool) (line : List ℕ) where
  abbrev before : Environment
  before = environment_of files input out held

  abbrev behind : Environment
  behind = environment_of files input out_behind held_behind

  pub gen_done : IsGenLine c line → MetNoFault out out_behind → Took line out out_behind → held_behind ≡ false → GenAnswer c before behind Done
  gen_done is well took finished = record {
    says = (line, is, took);
    files_are_untouched = refl;
    input_is_untouched = refl;
    steady_never_fails = λ steady e. absurd (let f : Done ≡ WriteFailed = e in cc);
    output = record { nothing_is_held_back = λ e. finished; out_met_no_fault = λ other. well; out_is_untouched = λ other. absurd (let f : true ≡ false = other in cc) };
  }

  pub gen_write_failed : IsGenLine c line → MetOneFault out out_behind → TookPrefix line out out_behind → GenAnswer c before behind WriteFailed
  gen_write_failed is fault took = record {
    says = (line, is, fault, took);
    files_are_untouched = refl;
    input_is_untouched = refl;
    steady_never_fails = λ steady e. steady_meets_none out out_behind steady fault;
    output = record {
      nothing_is_held_back = λ e. absurd (let f : false ≡ true = e in cc);
      out_met_no_fault = λ other. absurd (other refl);
      out_is_untouched = λ a other. absurd (other refl);
    };
  }

pub gen_is_no_usage : (c : Gen) (old new : Environment) (status : Status) → GenAnswer c old new status → status ≢ Usage
gen_is_no_usage c old new status answer = λ e. absurd (subst (Tells c old new) e answer.says)

gen_out_of_memory : (c : Gen) (e : Environment) → GenAnswer c e e OutOfMemory
gen_out_of_memory c e = record {
  says = tt;
  files_are_untouched = refl;
  input_is_untouched = refl;
  steady_never_fails = λ steady same. absurd (let f : OutOfMemory ≡ WriteFailed = same in cc);
  output = record {
    nothing_is_held_back = λ same. absurd (let f : false ≡ true = same in cc);
    out_met_no_fault = λ other. (refl, refl);
    out_is_untouched = λ a b. (refl, refl);
  };
}

-- a status that can be of want of memory alone
pub gen_refused : (c : Gen) (e : Environment) (status : Status) → status ≡ OutOfMemory → GenAnswer c e e status
gen_refused c e status is = subst (GenAnswer c e e) (sym is) (gen_out_of_memory c e)
