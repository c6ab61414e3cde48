use Rattle.smithy_model.specs.Reading.{IsNumbered}
use Rattle.smithy_model.specs.Views.{member_view, numbers_view}
use Rattle.smithy_model.proofs.Zip.{AreChanged}
use Rattle.smithy_model.proofs.links.link_all.Given as goal

-- those so far
abbrev pub invariant-loop-place : goal.invariant-loop-place
invariant-loop-place l = AreChanged (IsNumbered (numbers_view l.numbers)) member_view l.place l.initial.members.items l.members.items
