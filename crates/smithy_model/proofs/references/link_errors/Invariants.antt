use Rattle.smithy_model.specs.Reading.{IsReferenceNumbered}
use Rattle.smithy_model.specs.Views.{reference_view, numbers_view}
use Rattle.smithy_model.proofs.Zip.{AreChanged}
use Rattle.smithy_model.proofs.references.link_errors.Given as goal

-- those so far
abbrev pub invariant-loop-place : goal.invariant-loop-place
invariant-loop-place l = AreChanged (IsReferenceNumbered (numbers_view l.numbers)) reference_view l.place l.initial.errors.items l.errors.items
