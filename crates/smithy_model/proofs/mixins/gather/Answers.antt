use Rattle.std.proofs.Common.{◌≡◌, ◌<◌, ◌≤◌, ◌∙◌, ℕ, List, [], ◌∷◌, ◌++◌, Bor, length, map, get_or, slice_get, take_all, bytes_eq, Some, false, sym, ap, subst, inl, inr, refl, rules, arith}
use Rattle.std.proofs.lemmas.List.{length-map}
use Rattle.std.specs.List.{list_any, AllZip}
use Rattle.smithy_model.specs.Mixins.{Gathered, nothing, with_shape, with_mixin, IsDone}
use Rattle.smithy_model.specs.Views.{shape_view, numbers_view, gathered_view}
use Rattle.smithy_model.proofs.Put.{fold_last}
use Rattle.smithy_model.proofs.Zip.{zip_next}
use Rattle.smithy_model.proofs.Mixing.{at_view, id_there, waiting_there, misses}
use Rattle.smithy_model.proofs.mixins.gather.Goals as goal

pub loop-id-preserved : goal.loop-id-preserved
loop-id-preserved c =
    let shapes = map shape_view c.args.shapes.now in
    let i = c.loop-id.id-index in
    let d : Bor (List ℕ) = record { ref_ptr = (0, 0); now = [] } in
    let within : i < length c.args.shape.now.mixins.items = search rules in
    let mixin = shape_view c.in-Some-done_at.mixin.now in
    let there = c.in-Some-done_at.ensures.there in
    let mixins = c.loop-id.invariant.so_far.0 in
    let named = subst (λ (ws : List (Bor (List ℕ))). mixin.id ≡ (get_or ws i d).now) c.deref-id-items.ensures.value
    (id_there shapes (numbers_view c.args.numbers.now) c.in-Some.number mixin _ c.requires c.in-Some.ensures.found there.0) in
    record {
      places = c.in_ok-add_parts.ensures.places;
      so_far = (
        mixins ++ mixin ∷ [],
        zip_next (IsDone shapes c.args.done.now) (λ (t : Bor (List ℕ)). t.now) c.args.shape.now.mixins.items i d mixins mixin within c.loop-id.invariant.so_far.1
            (c.in-Some.number, there.0, there.1, named),
        (rw (c.hands_on_sparse.ensures, c.hands_on_time.ensures) at c.in_ok-add_parts.ensures.added) ∙ fold_last with_mixin nothing (gathered_view c.loop-id.gathered) mixins mixin c.loop-id.invariant.so_far.2,
      );
    }

pub returns-in_default-clause-refused : goal.returns-in_default-clause-refused
returns-in_default-clause-refused c =
    let shapes = map shape_view c.args.shapes.now in
    let i = c.loop-id.id-index in
    let d : Bor (List ℕ) = record { ref_ptr = (0, 0); now = [] } in
    let within : i < length c.args.shape.now.mixins.items = search rules in
    let ids = numbers_view c.args.numbers.now in
    let unknown = subst (λ (ws : List (Bor (List ℕ))). list_any (λ other. bytes_eq other (get_or ws i d).now) ids ≡ false) c.deref-id-items.ensures.value
    (c.number.ensures.unknown c.in_default.is) in
    λ number at.
    inl (misses shapes ids number i (shape_view c.args.shape.now) (get_or c.args.shape.now.mixins.items i d).now c.requires at
    (at_view (λ (t : Bor (List ℕ)). t.now) c.args.shape.now.mixins.items i d within) unknown)

pub returns-in_default-done_at-clause-held_up : goal.returns-in_default-done_at-clause-held_up
returns-in_default-done_at-clause-held_up c =
    let shapes = map shape_view c.args.shapes.now in
    let i = c.loop-id.id-index in
    let d : Bor (List ℕ) = record { ref_ptr = (0, 0); now = [] } in
    let within : i < length c.args.shape.now.mixins.items = search rules in
    let ids = numbers_view c.args.numbers.now in
    let mixins = c.args.shape.now.mixins.items in
    let found = subst (λ (ws : List (Bor (List ℕ))). slice_get ids c.in-Some.number ≡ Some (get_or ws i d).now) c.deref-id-items.ensures.value
    c.in-Some.ensures.found in
    λ none. (
      i,
      (get_or mixins i d).now,
      at_view (λ (t : Bor (List ℕ)). t.now) mixins i d within,
      waiting_there shapes ids c.args.done.now c.in-Some.number (get_or mixins i d).now c.requires found (λ far. c.done_at.ensures.waiting c.in_default-done_at.is (omega (arith, far, length-map c.args.shapes.now shape_view))),
    )

pub returns-then-not-gathered-clause-refused : goal.returns-then-not-gathered-clause-refused
returns-then-not-gathered-clause-refused c =
    let shapes = map shape_view c.args.shapes.now in
    let own = shape_view c.args.shape.now in
    let ids = c.args.shape.now.mixins.items in
    let mixins = c.loop-id.invariant.so_far.0 in
    let all : length ids ≤ c.loop-id.id-index = search rules in
    let zip = subst (λ (ws : List (Bor (List ℕ))). AllZip (IsDone shapes c.args.done.now) (map (λ (t : Bor (List ℕ)). t.now) ws) mixins)
    (take_all c.loop-id.id-index ids all) c.loop-id.invariant.so_far.1 in
    let made = c.in_ok-add_parts-2.ensures.added ∙ ap (λ g. with_shape g own) c.loop-id.invariant.so_far.2 in
    λ number at. inr (mixins, zip, sym (ap (λ (g : Gathered). g.agrees) made) ∙ c.if-not-gathered.true, refl)
