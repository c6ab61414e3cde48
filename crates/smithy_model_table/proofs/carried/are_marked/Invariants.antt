use Rattle.std.proofs.Common.{◌≡◌, map, drop}
use Rattle.std.specs.List.{list_all}
use Rattle.smithy_model.specs.Views.{member_view}
use Rattle.smithy_model_table.specs.Leaving.{has_mark}
use Rattle.smithy_model_table.proofs.carried.are_marked.Given as goal

abbrev pub invariant-loop-member : goal.invariant-loop-member
invariant-loop-member l = list_all (has_mark l.marks) (map member_view (drop l.member-index l.members)) ≡ list_all (has_mark l.marks) (map member_view l.members)
