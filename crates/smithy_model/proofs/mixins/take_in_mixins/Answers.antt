use Rattle.std.proofs.Common.{◌≡◌, ◌<◌, ◌∙◌, ℕ, List, length, map, true, inl, inr, subst, arith}
use Rattle.std.specs.Prelude.{Bool, not}
use Rattle.std.proofs.lemmas.Result.{err_from_is_err_and}
use Rattle.std.proofs.lemmas.List.{length-map}
use Rattle.smithy_model.specs.declared.model.Shape as kept
use Rattle.smithy_model.specs.Model.{Shape}
use Rattle.smithy_model.specs.Mixins.{takes_mixins, is_done}
use Rattle.smithy_model.specs.Mixing.{IsWaiting}
use Rattle.smithy_model.specs.Reading.{ids_of}
use Rattle.smithy_model.specs.Views.{shape_view, numbers_view}
use Rattle.smithy_model.proofs.Mixing.{half_at_first, all_mixed, circle_left, all_refused, ids_kept, refused_before}
use Rattle.smithy_model.proofs.mixins.take_in_mixins.Goals as goal

pub returns-in_default-clause-mixed : goal.returns-in_default-clause-mixed
returns-in_default-clause-mixed c =
    let own = map shape_view c.args.shapes.now.items in
    let first = subst (λ (xs : List kept.Shape). c.in_ok-done.done.items ≡ map (λ (s : Shape). not (takes_mixins s)) (map shape_view xs)) c.deref.ensures.value
    c.in_ok-done.ensures in
    let shapes = c.args.shapes.now.items in
    let all : (k : ℕ) → k < length shapes → is_done c.in_ok-done.done.items k ≡ true =
    subst (λ (ds : List Bool). (k : ℕ) → k < length shapes → is_done ds k ≡ true) c.deref-3.ensures.value
    (subst (λ (xs : List kept.Shape). (k : ℕ) → k < length xs → is_done c.deref-3.result.now k ≡ true) c.deref-2.ensures.value (c.waiting.ensures.none c.in_default.is)) in
    all_mixed own own c.in_ok-done.done.items (half_at_first own c.in_ok-done.done.items first) (λ k less. all k (omega (arith, less, length-map shapes shape_view)))

pub take_in_all-requires : goal.take_in_all-requires
take_in_all-requires c =
    subst (λ (xs : List kept.Shape). numbers_view c.in_ok-numbers.numbers ≡ ids_of (map shape_view xs)) c.deref-4.ensures.value c.in_ok-numbers.ensures
    ∙ ids_kept (map shape_view c.args.shapes.now.items) (map shape_view c.take_in_order.new.shapes.items) c.in_ok-take_in_order.ensures.uses

pub returns-clause-mixed : goal.returns-clause-mixed
returns-clause-mixed c =
    let own = map shape_view c.args.shapes.now.items in
    let first = subst (λ (xs : List kept.Shape). c.in_ok-done.done.items ≡ map (λ (s : Shape). not (takes_mixins s)) (map shape_view xs)) c.deref.ensures.value
    c.in_ok-done.ensures in
    let shapes = c.take_in_all.new.shapes.items in
    let half = c.in_ok-take_in_all.ensures.taken.mixed own (c.in_ok-take_in_order.ensures.mixed own (half_at_first own c.in_ok-done.done.items first)) in
    let all : (k : ℕ) → k < length shapes → is_done c.take_in_all.new.done.items k ≡ true =
    subst (λ (ds : List Bool). (k : ℕ) → k < length shapes → is_done ds k ≡ true) c.deref-6.ensures.value
    (subst (λ (xs : List kept.Shape). (k : ℕ) → k < length xs → is_done c.deref-6.result.now k ≡ true) c.deref-5.ensures.value (c.waiting-2.ensures.none c.in-None.is)) in
    all_mixed own (map shape_view shapes) c.take_in_all.new.done.items half (λ k less. all k (omega (arith, less, length-map shapes shape_view)))

pub returns-in_err-take_in_order-clause-refused : goal.returns-in_err-take_in_order-clause-refused
returns-in_err-take_in_order-clause-refused c =
    let p = err_from_is_err_and c.from_residual-in_err-take_in_order.result c.from_residual-in_err-take_in_order.ensures.1 in
    let own = map shape_view c.args.shapes.now.items in
    let first = subst (λ (xs : List kept.Shape). c.in_ok-done.done.items ≡ map (λ (s : Shape). not (takes_mixins s)) (map shape_view xs)) c.deref.ensures.value
    c.in_ok-done.ensures in
    rw (p.1, p.2)
    (all_refused own c.in_ok-done.done.items c.in_err-take_in_order.field-0.0 (half_at_first own c.in_ok-done.done.items first) c.in_err-take_in_order.ensures.refused)

pub returns-in_err-take_in_all-clause-refused : goal.returns-in_err-take_in_all-clause-refused
returns-in_err-take_in_all-clause-refused c =
    let p = err_from_is_err_and c.from_residual-in_err-take_in_all.result c.from_residual-in_err-take_in_all.ensures.1 in
    let own = map shape_view c.args.shapes.now.items in
    let first = subst (λ (xs : List kept.Shape). c.in_ok-done.done.items ≡ map (λ (s : Shape). not (takes_mixins s)) (map shape_view xs)) c.deref.ensures.value
    c.in_ok-done.ensures in
    rw (p.1, p.2)
    (all_refused own c.in_ok-done.done.items c.in_err-take_in_all.field-0.0 (half_at_first own c.in_ok-done.done.items first)
    (refused_before own (map shape_view c.take_in_order.new.shapes.items) c.in_ok-done.done.items c.take_in_order.new.done.items c.in_err-take_in_all.field-0.0
    c.in_ok-take_in_order.ensures.uses c.in_ok-take_in_order.ensures.mixed c.in_err-take_in_all.ensures.taken.refused))

pub returns-in-Some-waiting-clause-refused : goal.returns-in-Some-waiting-clause-refused
returns-in-Some-waiting-clause-refused c =
    let own = map shape_view c.args.shapes.now.items in
    let first = subst (λ (xs : List kept.Shape). c.in_ok-done.done.items ≡ map (λ (s : Shape). not (takes_mixins s)) (map shape_view xs)) c.deref.ensures.value
    c.in_ok-done.ensures in
    let shapes = c.take_in_all.new.shapes.items in
    let half = c.in_ok-take_in_all.ensures.taken.mixed own (c.in_ok-take_in_order.ensures.mixed own (half_at_first own c.in_ok-done.done.items first)) in
    let waits = subst (λ (ds : List Bool). IsWaiting (map shape_view shapes) ds c.in-Some-waiting.id.now) c.deref-6.ensures.value
    (subst (λ (xs : List kept.Shape). IsWaiting (map shape_view xs) c.deref-6.result.now c.in-Some-waiting.id.now) c.deref-5.ensures.value c.in-Some-waiting.ensures.one) in
    inr (inl (circle_left own (map shape_view shapes) c.take_in_all.new.done.items c.in-Some-waiting.id.now half c.in_ok-take_in_all.ensures.held_up waits))
