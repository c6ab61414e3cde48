use Rattle.std.proofs.Common.{map, refl, sym, subst}
use Rattle.smithy_model.specs.Views.{model_view, member_view}
use Rattle.smithy_model_table.specs.Taken.{AreTaken}
use Rattle.smithy_model_table.specs.Views.{bindings_view, names_view, left_view}
use Rattle.smithy_declarations.specs.DeclViews.{member_decl_of}
use Rattle.smithy_model_table.proofs.OutcomeLemmas.{outcome_kept}
use Rattle.smithy_model_table.proofs.outcomes.declare_members.Goals as goal

pub loop-member-preserved : goal.loop-member-preserved
loop-member-preserved c =
    let decls = map member_decl_of c.loop-member.decls.items in
    let held = c.loop-member.invariant in
    record {
      made = outcome_kept (model_view c.args.model.now) c.args.marks.now (names_view c.args.names.now) (bindings_view c.args.owner.now.counting) c.args.owner.now.id.now member_view c.args.members.now
          c.loop-member.member-index _ _ (map left_view c.args.left.now.items) (map left_view c.loop-member.left.items) (map left_view c.add_outcome.new.left.items)
          decls decls (map member_decl_of c.add_outcome.new.decls.items) c.loop-member-test.true
          held.made refl (c.in_ok-outcome.ensures decls held.taken) c.in_ok-add_outcome.ensures.declared
          c.in_ok-add_outcome.ensures.left;
      taken = subst (λ ds. AreTaken ds c.add_outcome.new.taken) (sym c.in_ok-add_outcome.ensures.declared) (c.in_ok-add_outcome.ensures.taken decls held.taken);
    }
