use Rattle.smithy_model.specs.Reading.{IsOperationNumbered}
use Rattle.smithy_model.specs.Views.{operation_view, numbers_view}
use Rattle.smithy_model.proofs.Zip.{AreChanged}
use Rattle.smithy_model.proofs.references.link_operations.Given as goal

-- those so far
abbrev pub invariant-loop-place : goal.invariant-loop-place
invariant-loop-place l = AreChanged (IsOperationNumbered (numbers_view l.numbers)) operation_view l.place l.initial.operations.items l.operations.items
