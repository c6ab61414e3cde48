use Rattle.std.proofs.Common.{◌≤◌, List, ℕ, length, map, refl, subst, rules, arith}
use Rattle.std.specs.Prelude.{Bool}
use Rattle.std.proofs.lemmas.List.{length-map}
use Rattle.std.proofs.lemmas.Result.{err_from_is_err_and}
use Rattle.smithy_model.specs.Views.{model_view, shape_view}
use Rattle.smithy_declarations.specs.DeclViews.{decl_of}
use Rattle.smithy_model_table.specs.Naming.{names_of}
use Rattle.smithy_model_table.specs.Visiting.{DeclaresReached}
use Rattle.smithy_model_table.specs.Wanted.{AreRoots}
use Rattle.smithy_model_table.specs.Finding.{RefusesSearch}
use Rattle.smithy_model_table.specs.ModelTable.{most_shapes}
use Rattle.smithy_model_table.specs.Views.{left_view, wanted_view}
use Rattle.smithy_model_table.proofs.Refused.{made_of, roots_refused}
use Rattle.smithy_model_table.proofs.table.declare.Goals as goal

pub returns-clause-made : goal.returns-clause-made
returns-clause-made c =
    let m = model_view c.args.model.now in
    let w = wanted_view c.args.wanted in
    let left = map left_view c.in_ok-declare_reached.field-0.left.items in
    let decls = map decl_of c.in_ok-declare_reached.field-0.decls.items in
    let marks = c.in_ok-marks.marks.items in
    let roots = c.in_ok-roots.roots.items in
    let short : length c.args.model.now.shapes.items ≤ most_shapes = search rules in
    let few : length m.shapes ≤ most_shapes = omega (arith, short, length-map c.args.model.now.shapes.items shape_view) in
    let wanted : AreRoots m marks w roots = subst (λ (ms : List Bool). AreRoots m ms w roots) c.deref.ensures.value c.in_ok-roots.ensures.roots in
    let declared : DeclaresReached m marks roots decls left =
    subst (λ (ms : List Bool). DeclaresReached m ms roots decls left) c.deref-2.ensures.value
    (subst (λ (rs : List ℕ). DeclaresReached m c.deref-2.result.now rs decls left) c.deref-3.ensures.value c.in_ok-declare_reached.ensures) in
    made_of m w (names_of m) marks roots declared.0 decls left few refl c.in_ok-marks.ensures wanted declared.1 declared.2

pub returns-in_err-roots-clause-refused : goal.returns-in_err-roots-clause-refused
returns-in_err-roots-clause-refused c =
    let p = err_from_is_err_and c.from_residual-in_err-roots.result c.from_residual-in_err-roots.ensures.1 in
    let m = model_view c.args.model.now in
    let w = wanted_view c.args.wanted in
    let fault = c.in_err-roots.field-0.0 in
    let refused = subst (λ (ms : List Bool). RefusesSearch m ms w fault) c.deref.ensures.value c.in_err-roots.ensures.refused in
    rw (p.1, p.2) (roots_refused m c.in_ok-marks.marks.items w fault c.in_ok-marks.ensures refused)
