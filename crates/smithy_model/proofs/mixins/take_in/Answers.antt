use Rattle.std.proofs.Common.{◌≡◌, ◌<◌, ◌∙◌, List, length, map, set, slice_get, Some, true, false, refl, sym, ap, subst, rules}
use Rattle.std.specs.Prelude.{Bool}
use Rattle.std.specs.List.{AllZip}
use Rattle.std.proofs.lemmas.Result.{err_from_is_err_and}
use Rattle.smithy_model.specs.declared.model.Shape as kept
use Rattle.smithy_model.specs.Model.{Shape}
use Rattle.smithy_model.specs.Mixins.{gathered, with_gathered, IsWith, uses_of, is_done, IsDone}
use Rattle.smithy_model.specs.Mixing.{AreHalfMixed, IsHeldUp, RefusesOne}
use Rattle.smithy_model.specs.Views.{shape_view, gathered_view}
use Rattle.smithy_model.proofs.Put.{got_same}
use Rattle.smithy_model.proofs.Mixing.{at_item, waits_at, taken_in, one_fewer, uses_set, map_set, settled_here, refused_here}
use Rattle.smithy_model.proofs.mixins.take_in.Goals as goal

pub returns-clause-taken : goal.returns-clause-taken
returns-clause-taken c =
    let ws = c.args.shapes.now.items in
    let done = c.args.done.now.items in
    let n = c.args.number in
    let within : n < length ws = search rules in
    let within_done : n < length done = search rules in
    let u = c.index_mut.result.now in
    let made_of : List kept.Shape → List Bool → kept.Shape → Type 0 = λ xs ds x.
    (mixins : List Shape) × AllZip (IsDone (map shape_view xs) ds) (shape_view x).mixins mixins
    × (gathered_view c.in-Some.gathered ≡ gathered (shape_view x) mixins) × (c.in-Some.gathered.agrees ≡ true) in
    let first : made_of c.deref.result.now c.deref-2.result.now c.index-2.result.now = rw c.in-Some.is at c.in_ok-gathered.ensures.gathered in
    let same = got_same ws n c.index-2.result.now u within c.index-2.ensures c.index_mut.ensures.value in
    let found : made_of ws done u =
    subst (λ xs. made_of xs done u) c.deref.ensures.value (subst (λ ds. made_of c.deref.result.now ds u) c.deref-2.ensures.value
    (subst (λ x. made_of c.deref.result.now c.deref-2.result.now x) same first)) in
    let waits : is_done done n ≡ false = waits_at done n c.index.result.now within_done c.index.ensures c.if-index.false in
    let made : IsWith (shape_view u) found.0 (shape_view c.give.new.shape) =
    (sym (ap (λ g. g.agrees) found.2) ∙ found.3, c.give.ensures ∙ ap (with_gathered (shape_view u)) found.2) in
    let at : slice_get (map shape_view ws) n ≡ Some (shape_view u) = at_item shape_view ws n u within c.index_mut.ensures.value in
    record {
      mixed = λ own half.
          subst (λ ss. AreHalfMixed own ss (set done n true)) (sym (map_set shape_view ws n c.give.new.shape))
          (taken_in own (map shape_view ws) done n (shape_view u) (shape_view c.give.new.shape) found.0 at within_done waits found.1 made half);
      uses = ap uses_of (map_set shape_view ws n c.give.new.shape)
          ∙ uses_set (map shape_view ws) n (shape_view u) (shape_view c.give.new.shape) at (ap (λ (s : Shape). s.id) c.give.ensures) (ap (λ (s : Shape). s.mixins) c.give.ensures);
      refused = tt;
    }

pub returns-clause-fewer : goal.returns-clause-fewer
returns-clause-fewer c =
    let n = c.args.number in
    let within : n < length c.args.done.now.items = search rules in
    λ same. one_fewer c.args.done.now.items n within (waits_at c.args.done.now.items n c.index.result.now within c.index.ensures c.if-index.false)

pub returns-in_default-clause-held_up : goal.returns-in_default-clause-held_up
returns-in_default-clause-held_up c =
    let ws = c.args.shapes.now.items in
    let done = c.args.done.now.items in
    let n = c.args.number in
    let within : n < length ws = search rules in
    let u = c.index-2.result.now in
    let held = subst (λ (xs : List kept.Shape). IsHeldUp (map shape_view xs) done (shape_view u)) c.deref.ensures.value
    (subst (λ (ds : List Bool). IsHeldUp (map shape_view c.deref.result.now) ds (shape_view u)) c.deref-2.ensures.value (c.in_ok-gathered.ensures.held_up c.in_default.is)) in
    λ same. (refl, refl, settled_here (map shape_view ws) done n (shape_view u) (at_item shape_view ws n u within c.index-2.ensures) held)

pub returns-in_err-gathered-clause-taken : goal.returns-in_err-gathered-clause-taken
returns-in_err-gathered-clause-taken c =
    let p = err_from_is_err_and c.from_residual.result c.from_residual.ensures.1 in
    let ws = c.args.shapes.now.items in
    let n = c.args.number in
    let within : n < length ws = search rules in
    let u = c.index-2.result.now in
    let fault = c.in_err-gathered.field-0.0 in
    let done = c.args.done.now.items in
    let at = at_item shape_view ws n u within c.index-2.ensures in
    let within_done : n < length done = search rules in
    let waits : is_done done n ≡ false = waits_at done n c.index.result.now within_done c.index.ensures c.if-index.false in
    let one : RefusesOne (map shape_view ws) done (shape_view u) fault =
    subst (λ (ds : List Bool). RefusesOne (map shape_view ws) ds (shape_view u) fault) c.deref-2.ensures.value
    (subst (λ (xs : List kept.Shape). slice_get (map shape_view xs) n ≡ Some (shape_view u) → RefusesOne (map shape_view xs) c.deref-2.result.now (shape_view u) fault)
    c.deref.ensures.value (c.in_err-gathered.ensures.refused n) at) in
    rw (p.1, p.2) (record { mixed = tt; uses = tt; refused = refused_here (map shape_view ws) done n (shape_view u) fault at waits one })
