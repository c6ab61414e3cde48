-- Values that are made of what was read.
use Rattle.std.proofs.Common.{◌≡◌, true, false, Bool, List, Result, Ok, Err, sym, subst}
use Rattle.smithy_declarations.specs.Value.{Value}
use Rattle.smithy_shapes.specs.Site.{Site}
use Rattle.smithy_schema.specs.declared.error.SerdeError.{SerdeError}
use Rattle.smithy_schema.specs.Reading.{Cursor, Relations, Reads}
use Rattle.smithy_schema.specs.Typed.{ReadsAs, ReadsDueAs, WritesAs, WritesWhole}
use Rattle.smithy_schema.specs.Writing.{Event, Writer, Open}
use Rattle.smithy_schema.proofs.AnsweredErrors.{same_success, same_failure}
use Rattle.smithy_schema.proofs.WrittenFields.{not_had, has_broken}

module _ {A B : Type 0} (view : A → Value) (view' : B → Value) (w : Relations) (c d : Cursor) (site : Site) where
  pub made_of : (x : A) (made : B) → view' made ≡ view x → ReadsAs {A = A} w c d site view (Ok x) → ReadsAs {A = B} w c d site view' (Ok made)
  made_of x made is reads = record {
    ok = subst (λ v. Reads w c d site.table site.place v) (sym is) reads.ok;
    refused = λ fault. absurd fault;
    fails = same_success x made c d reads.fails;
  }

  pub not_made : (e : SerdeError) → ReadsAs {A = A} w c d site view (Err e) → ReadsAs {A = B} w c d site view' (Err e)
  not_made e reads = record { ok = tt; refused = reads.refused; fails = same_failure c d e reads.fails }

  -- where nothing may be due
  pub due_made_of : (x : A) (made : B) → view' made ≡ view x → ReadsDueAs {A = A} w c d site view (Ok x) → ReadsDueAs {A = B} w c d site view' (Ok made)
  due_made_of x made is reads = record {
    ok = subst (λ v. Reads w c d site.table site.place v) (sym is) reads.ok;
    refused = λ fault. absurd fault;
    undue = reads.undue;
    fails = same_success x made c d reads.fails;
  }

  pub due_not_made : (e : SerdeError) → ReadsDueAs {A = A} w c d site view (Err e) → ReadsDueAs {A = B} w c d site view' (Err e)
  due_not_made e reads = record { ok = tt; refused = reads.refused; undue = reads.undue; fails = same_failure c d e reads.fails }

-- where something is due
pub read_due : {A : Type 0} (view : A → Value) (w : Relations) (c d : Cursor) (site : Site) (result : Result A SerdeError) → c.due ≡ true → ReadsDueAs {A = A} w c d site view result → ReadsAs {A = A} w c d site view result
read_due view w c d site result due reads = record { ok = reads.ok; refused = λ fault. reads.refused fault due; fails = reads.fails }

-- a serializer that hasn't failed
pub whole_written : {S : Type 0} (after : Writer S) (open_in : S → List Open) (es : List Event) (s t : S) (had has : Bool) (result : Result (Unit {0}) SerdeError) → had ≡ false
    → WritesWhole after open_in es s had t has result → WritesAs after es s has t result
whole_written after open_in es s t had has result sound writes = record {
  runs = writes.runs sound;
  sound = not_had result has writes.broken;
  broken = has_broken result has writes.broken;
}
