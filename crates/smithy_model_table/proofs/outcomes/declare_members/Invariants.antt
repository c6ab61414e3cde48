use Rattle.std.proofs.Common.{◌≡◌, ◌++◌, List, map, take}
use Rattle.smithy_model.specs.Views.{model_view, member_view}
use Rattle.smithy_model_table.specs.Outcomes.{LeftOut, AreOutcomes}
use Rattle.smithy_model_table.specs.Taken.{AreTaken}
use Rattle.smithy_model_table.specs.Views.{bindings_view, names_view, left_view}
use Rattle.smithy_declarations.specs.DeclViews.{member_decl_of}
use Rattle.smithy_model_table.proofs.outcomes.declare_members.Given as goal

-- what became of the members so far, and the names that those have which are declared
abbrev pub invariant-loop-member : goal.invariant-loop-member
invariant-loop-member l = record {
  made : (added : List LeftOut) × (map left_view l.left.items ≡ map left_view l.initial.left.items ++ added)
      × AreOutcomes (model_view l.model) l.marks (names_view l.names) (bindings_view l.owner.counting) l.owner.id.now (map member_view (take l.member-index l.members)) (map member_decl_of l.decls.items) added;
  taken : AreTaken (map member_decl_of l.decls.items) l.taken;
}
