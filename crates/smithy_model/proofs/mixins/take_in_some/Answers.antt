use Rattle.std.proofs.Common.{◌≤◌, ◌∙◌, length, map, refl, sym, subst, true≢false, arith, rules}
use Rattle.std.proofs.lemmas.Result.{err_from_is_err_and}
use Rattle.std.proofs.lemmas.List.{length-map}
use Rattle.smithy_model.specs.Mixing.{IsSettledAt}
use Rattle.smithy_model.specs.Views.{shape_view}
use Rattle.smithy_model.proofs.Mixing.{ids_kept, all_settled}
use Rattle.smithy_model.proofs.Taking.{one_refuses}
use Rattle.smithy_model.proofs.mixins.take_in_some.Goals as goal

pub loop-number-init : goal.loop-number-init
loop-number-init c = record {
  mixed = λ own half. half;
  uses = refl;
  no_more = omega arith;
  fewer = λ found. absurd (true≢false (sym found));
  same = λ none. (refl, refl);
  held_up = λ none k less. absurd (omega (arith, less));
}

pub take_in-requires : goal.take_in-requires
take_in-requires c =
    c.requires ∙ ids_kept (map shape_view c.args.shapes.now.items) (map shape_view c.loop-number.shapes.items) c.loop-number.invariant.uses

pub returns-in_err-take_in-clause-taken : goal.returns-in_err-take_in-clause-taken
returns-in_err-take_in-clause-taken c =
    let p = err_from_is_err_and c.from_residual.result c.from_residual.ensures.1 in
    rw (p.1, p.2)
    (one_refuses (map shape_view c.args.shapes.now.items) (map shape_view c.loop-number.shapes.items) c.args.done.now.items c.loop-number.done.items
    c.in_err-take_in.field-0.0 c.loop-number.invariant.uses c.loop-number.invariant.mixed c.in_err-take_in.ensures.taken.refused)

pub loop-number-preserved : goal.loop-number-preserved
loop-number-preserved c =
    let held = c.loop-number.invariant in
    let less = c.in_ok-take_in.ensures.fewer c.if-not-branch.false in
    record {
      mixed = λ own half. c.in_ok-take_in.ensures.taken.mixed own (held.mixed own half);
      uses = c.in_ok-take_in.ensures.taken.uses ∙ held.uses;
      no_more = omega (arith, less, held.no_more);
      fewer = λ found. omega (arith, less, held.no_more);
      same = λ none. absurd (true≢false none);
      held_up = λ none. absurd (true≢false none);
    }

pub returns-clause-taken : goal.returns-clause-taken
returns-clause-taken c = record { mixed = c.loop-number.invariant.mixed; uses = c.loop-number.invariant.uses; refused = tt }

pub returns-clause-held_up : goal.returns-clause-held_up
returns-clause-held_up c =
    let n = c.loop-number.number in
    let all : length c.args.shapes.now.items ≤ n = search rules in
    λ none k.
    let same = c.loop-number.invariant.same none in
    let first = all_settled (map shape_view c.args.shapes.now.items) c.args.done.now.items n k (omega (arith, all, length-map c.args.shapes.now.items shape_view))
    (c.loop-number.invariant.held_up none) in
    subst (λ ss. IsSettledAt (map shape_view ss.items) c.loop-number.done.items k) (sym same.0)
    (subst (λ ds. IsSettledAt (map shape_view c.args.shapes.now.items) ds.items k) (sym same.1) first)
