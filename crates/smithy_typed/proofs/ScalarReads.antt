-- Scalars as values of a type.
use Rattle.std.proofs.Common.{◌≡◌, [], ◌∷◌, true, false, Bool, Result, Ok, Err, ap, sym, subst}
use Rattle.smithy_declarations.specs.declared.place.Place.{Place}
use Rattle.smithy_declarations.specs.declared.place.Target.TheVariants.{Simple, Document}
use Rattle.smithy_declarations.specs.declared.shape_type.Scalar.{Scalar}
use Rattle.smithy_types.specs.declared.document.Document as kept
use Rattle.smithy_declarations.specs.Table.{document_place}
use Rattle.smithy_declarations.specs.Value.{ScalarValue, scalar_value}
use Rattle.smithy_shapes.specs.Site.{Site}
use Rattle.smithy_schema.specs.declared.error.SerdeError.{SerdeError}
use Rattle.smithy_schema.specs.Reading.{Cursor, Reader, Reads, StandsNot, ReadsScalar, ReadsDocument}
use Rattle.smithy_schema.specs.Writing.{Event, Writer, Makes}
use Rattle.smithy_schema.specs.Typed.{ReadsAs, WritesAs}
use Rattle.smithy_schema.proofs.AnsweredErrors.{read_sound, was_read, conducted}
use Rattle.smithy_schema.proofs.ReadFields.{read_there, none_read_there}
use Rattle.smithy_typed.specs.Values.{open_value}
use Rattle.smithy_schema.proofs.WrittenFields.{called, not_had, has_broken}

-- a scalar is read at a place of its kind
pub scalar_read : {A : Type 0} (kind : Scalar) (scalar : A → ScalarValue) (r : Reader) (c d : Cursor) (site : Site) (result : Result A SerdeError) → site.place.target ≡ Simple kind → c.due ≡ true
    → ReadsScalar {A = A} r c d site kind scalar result → ReadsAs {A = A} r.wire c d site (λ x. scalar_value (scalar x)) result
scalar_read kind scalar r c d site (Ok x) target due reads = record {
  ok = read_there kind scalar r c d site x target reads;
  refused = λ fault. absurd fault;
  fails = read_sound x c d (was_read x c.failed reads.conduct.failed);
}
scalar_read kind scalar r c d site (Err e) target due reads = record {
  ok = tt;
  refused = λ fault. none_read_there kind scalar r c d site e target reads fault due;
  fails = conducted c d e reads.conduct;
}

document_here : (p : Place) → p.target ≡ Document → document_place p.time ≡ p
document_here p h = ap (λ x. let q : Place = record { target = x; time = p.time } in q) (sym h)

-- a document is read at a place of one
pub document_read : (r : Reader) (c d : Cursor) (site : Site) (result : Result kept.Document SerdeError) → site.place.target ≡ Document → c.due ≡ true
    → ReadsDocument r c d site result → ReadsAs {A = kept.Document} r.wire c d site open_value result
document_read r c d site (Ok x) target due reads = record {
  ok = subst (λ p. Reads r.wire c d site.table p (open_value x)) (document_here site.place target) reads.ok;
  refused = λ fault. absurd fault;
  fails = read_sound x c d (was_read x c.failed reads.conduct.failed);
}
document_read r c d site (Err e) target due reads = record {
  ok = tt;
  refused = λ fault. subst (λ p. StandsNot r.wire c site.table p) (document_here site.place target) (reads.refused fault due);
  fails = conducted c d e reads.conduct;
}

-- one call is made
pub event_written : {S : Type 0} (after : Writer S) (event : Event) (s t : S) (had has : Bool) (result : Result (Unit {0}) SerdeError) → had ≡ false
    → Makes (after event s) had t has result → WritesAs after (event ∷ []) s has t result
event_written after event s t had has result sound told = record {
  runs = called after event s t had result sound told.failed told.ok told.refused;
  sound = not_had result has told.broken;
  broken = has_broken result has told.broken;
}
