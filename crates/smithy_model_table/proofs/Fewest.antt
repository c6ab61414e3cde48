-- Marks that are among all that follow from themselves.
use Rattle.std.proofs.Common.{◌≡◌, ◌≢◌, ◌⊎◌, ◌≤◌, ◌<◌, ◌∙◌, inl, inr, ℕ, zero, suc, List, [], ◌∷◌, length, map, set, get_or, replicate, slice_get, Some, true≢false, refl, sym, ap, ap₂, subst, arith, length-append, length-set, ◌++◌}
use Rattle.std.specs.Prelude.{Bool, true, false, ◌&&◌}
use Rattle.std.specs.List.{list_all}
use Rattle.std.proofs.lemmas.List.{length-map}
use Rattle.std.proofs.lemmas.Option.{none-some}
use Rattle.smithy_model.specs.Model as model
use Rattle.smithy_model.specs.Model.{Member, Kind, Shape, Model}
use Rattle.smithy_model_table.specs.Leaving.{is_marked, has_mark, is_uncarried, AreSettled, AreAmong, IsNoFurther}
use Rattle.smithy_model_table.specs.Marking.{AreSupported, AreClosed, count_of_unmarked, Marks}

pub both : (a b c d : Bool) → (a ≡ true → c ≡ true) → (b ≡ true → d ≡ true) → (a && b) ≡ true → (c && d) ≡ true
both true b c d first second is = rw (first refl) (second is)
both false b c d first second is = cc (is)

all_among : (marks others : List Bool) (members : List Member) → AreAmong marks others → list_all (has_mark marks) members ≡ true
    → list_all (has_mark others) members ≡ true
all_among marks others [] among all = refl
all_among marks others (m ∷ members) among all =
    both (has_mark marks m) (list_all (has_mark marks) members) (has_mark others m) (list_all (has_mark others) members) (among m.number)
    (all_among marks others members among) all

-- more marks leave out no less
uncarried_among : (marks others : List Bool) (kind : Kind) → AreAmong marks others → is_uncarried marks kind ≡ true → is_uncarried others kind ≡ true
uncarried_among marks others (model.structure members) among is = cc (is)
uncarried_among marks others (model.union members) among is = all_among marks others members among is
uncarried_among marks others (model.list element) among is = among element.number is
uncarried_among marks others (model.map key value) among is = among value.number is
uncarried_among marks others (model.simple word) among is = cc (is)
uncarried_among marks others model.float among is = refl
uncarried_among marks others model.event_stream among is = refl

marked_at : {W : Type 0} (f : Shape → Bool) (v : W → Shape) (ws : List W) (i : ℕ) (d : W) → i < length ws → f (v (get_or ws i d)) ≡ true
    → is_marked (map f (map v ws)) i ≡ true
marked_at f v [] i d within is = absurd (omega (arith, within))
marked_at f v (x ∷ ws) zero d within is = is
marked_at f v (x ∷ ws) (suc i) d within is = marked_at f v ws i d (omega (arith, within)) is

next_of : (n i : ℕ) (P : Type 0) → (n ≡ i) ⊎ P → (suc n ≡ suc i) ⊎ P
next_of n i P (inl same) = inl (ap suc same)
next_of n i P (inr p) = inr p

marked_by : (marks : List Bool) (i n : ℕ) → is_marked (set marks i true) n ≡ true → (n ≡ i) ⊎ (is_marked marks n ≡ true)
marked_by [] i n is = inr is
marked_by (b ∷ marks) zero zero is = inl refl
marked_by (b ∷ marks) zero (suc n) is = inr is
marked_by (b ∷ marks) (suc i) zero is = inr is
marked_by (b ∷ marks) (suc i) (suc n) is = next_of n i (is_marked marks n ≡ true) (marked_by marks i n is)

one_of : (others : List Bool) (i n : ℕ) (P : Type 0) → (P → is_marked others n ≡ true) → is_marked others i ≡ true → (n ≡ i) ⊎ P → is_marked others n ≡ true
one_of others i n P among marked (inl same) = subst (λ (k : ℕ). is_marked others k ≡ true) (sym same) marked
one_of others i n P among marked (inr p) = among p

-- one more mark, which follows from the marks
pub mark_one : {W : Type 0} (m : Model) (before marks : List Bool) (v : W → Shape) (ws : List W) (i : ℕ) (d : W) → m.shapes ≡ map v ws → i < length ws
    → is_uncarried marks (v (get_or ws i d)).kind ≡ true → IsNoFurther m before marks → IsNoFurther m before (set marks i true)
mark_one m before marks v ws i d shapes within is so_far =
    λ others settled among number set_is.
    let within_others = so_far others settled among in
    let follows = uncarried_among marks others (v (get_or ws i d)).kind within_others is in
    let all : others ≡ map (λ (s : Shape). is_uncarried others s.kind) (map v ws) = settled ∙ ap (map (λ (s : Shape). is_uncarried others s.kind)) shapes in
    let marked = subst (λ (os : List Bool). is_marked os i ≡ true) (sym all) (marked_at (λ (s : Shape). is_uncarried others s.kind) v ws i d within follows) in
    one_of others i number (is_marked marks number ≡ true) (within_others number) marked (marked_by marks i number set_is)

among_none : (n : ℕ) (others : List Bool) (number : ℕ) → length others ≡ n → is_marked (replicate n false) number ≡ true → is_marked others number ≡ true
among_none zero [] number long is = refl
among_none zero (o ∷ others) number long is = absurd (omega (arith, long))
among_none (suc n) [] number long is = absurd (omega (arith, long))
among_none (suc n) (o ∷ others) zero long is = cc (is)
among_none (suc n) (o ∷ others) (suc number) long is = among_none n others number (omega (arith, long)) is

-- no mark at first
pub none_marked : {W : Type 0} (m : Model) (marks : List Bool) (v : W → Shape) (ws : List W) → m.shapes ≡ map v ws → marks ≡ replicate (length ws) false
    → (others : List Bool) → AreSettled m others → AreAmong marks others
none_marked m marks v ws shapes none others settled number is =
    let long : length others ≡ length ws =
    ap length (settled ∙ ap (map (λ (s : Shape). is_uncarried others s.kind)) shapes) ∙ length-map (map v ws) (λ (s : Shape). is_uncarried others s.kind)
    ∙ length-map ws v in
    among_none (length ws) others number long (subst (λ (ms : List Bool). is_marked ms number ≡ true) none is)

pub past_mark : (marks : List Bool) (i k : ℕ) → i ≢ k → is_marked (set marks i true) k ≡ is_marked marks k
past_mark [] i k other = refl
past_mark (b ∷ marks) zero zero other = absurd (other refl)
past_mark (b ∷ marks) zero (suc k) other = refl
past_mark (b ∷ marks) (suc i) zero other = refl
past_mark (b ∷ marks) (suc i) (suc k) other = past_mark marks i k (λ same. other (ap suc same))

pub at_mark : (marks : List Bool) (i : ℕ) → is_marked (set marks i true) i ≡ true
at_mark [] i = refl
at_mark (b ∷ marks) zero = refl
at_mark (b ∷ marks) (suc i) = at_mark marks i

still_marked : (marks : List Bool) (i : ℕ) → AreAmong marks (set marks i true)
still_marked [] i number is = is
still_marked (b ∷ marks) zero zero is = refl
still_marked (b ∷ marks) zero (suc number) is = is
still_marked (b ∷ marks) (suc i) zero is = is
still_marked (b ∷ marks) (suc i) (suc number) is = still_marked marks i number is

-- one more mark follows from the marks still
pub supported_more : (m : Model) (marks : List Bool) (i : ℕ) (s : Shape) → slice_get m.shapes i ≡ Some s → is_uncarried marks s.kind ≡ true
    → AreSupported m marks → AreSupported m (set marks i true)
supported_more m marks i s at follows supported = λ k x is marked. by k x is marked (marked_by marks i k marked)
  where
    by : (k : ℕ) (x : Shape) → slice_get m.shapes k ≡ Some x → is_marked (set marks i true) k ≡ true → (k ≡ i) ⊎ (is_marked marks k ≡ true)
        → is_uncarried (set marks i true) x.kind ≡ true
    by k x is marked (inl same) =
        let equal : s ≡ x = cc (at, subst (λ j. slice_get m.shapes j ≡ Some x) same is) in
        uncarried_among marks (set marks i true) x.kind (still_marked marks i) (subst (λ (y : Shape). is_uncarried marks y.kind ≡ true) equal follows)
    by k x is marked (inr before) = uncarried_among marks (set marks i true) x.kind (still_marked marks i) (supported k x is before)

pub one_unmarked : (marks : List Bool) (i : ℕ) (d : Bool) → i < length marks → get_or marks i d ≡ false
    → count_of_unmarked (set marks i true) < count_of_unmarked marks
one_unmarked [] i d within is = absurd (omega (arith, within))
one_unmarked (b ∷ marks) zero d within is = rw (is) (omega arith)
one_unmarked (b ∷ marks) (suc i) d within is = omega (arith, one_unmarked marks i d (omega (arith, within)) is)

pub marked_there : (marks : List Bool) (i : ℕ) (d : Bool) → i < length marks → get_or marks i d ≡ true → is_marked marks i ≡ true
marked_there [] i d within is = absurd (omega (arith, within))
marked_there (b ∷ marks) zero d within is = is
marked_there (b ∷ marks) (suc i) d within is = marked_there marks i d (omega (arith, within)) is

shape_here : {W : Type 0} (v : W → Shape) (ws : List W) (i : ℕ) (d : W) → i < length ws → slice_get (map v ws) i ≡ Some (v (get_or ws i d))
shape_here v [] i d within = absurd (omega (arith, within))
shape_here v (w ∷ ws) zero d within = refl
shape_here v (w ∷ ws) (suc i) d within = shape_here v ws i d (omega (arith, within))

pub shape_found : {W : Type 0} (v : W → Shape) (ws : List W) (i : ℕ) (w : W) → i < length ws → w ≡ get_or ws i w → slice_get (map v ws) i ≡ Some (v w)
shape_found v ws i w within is = shape_here v ws i w within ∙ ap (λ x. Some (v x)) (sym is)

-- no marks follow from themselves
pub none_supported : (m : Model) (n : ℕ) → length m.shapes ≤ n → AreSupported m (replicate n false)
none_supported m n far number s at marked = absurd (not_there m.shapes n number s far at marked)
  where
    not_there : (ss : List Shape) (k number : ℕ) (x : Shape) → length ss ≤ k → slice_get ss number ≡ Some x → is_marked (replicate k false) number ≡ true → ⊥
    not_there [] k number x less is marked = none-some x is
    not_there (t ∷ ss) zero number x less is marked = absurd (omega (arith, less))
    not_there (t ∷ ss) (suc k) zero x less is marked = true≢false (sym marked)
    not_there (t ∷ ss) (suc k) (suc number) x less is marked = not_there ss k number x (omega (arith, less)) is marked

same_bool : (a b : Bool) → (a ≡ true → b ≡ true) → (b ≡ true → a ≡ true) → a ≡ b
same_bool true b first next = sym (first refl)
same_bool false true first next = next refl
same_bool false false first next = refl

-- marks that follow, and from which no other follows
pub settled_both : (m : Model) (marks : List Bool) → length marks ≡ length m.shapes → AreSupported m marks → AreClosed m marks → AreSettled m marks
settled_both m marks long supported closed =
    equal (λ (s : Shape). is_uncarried marks s.kind) m.shapes marks long
    (λ k s at. same_bool (is_marked marks k) (is_uncarried marks s.kind) (supported k s at) (closed k s at))
  where
    equal : (f : Shape → Bool) (ss : List Shape) (ms : List Bool) → length ms ≡ length ss
        → ((k : ℕ) (s : Shape) → slice_get ss k ≡ Some s → is_marked ms k ≡ f s) → ms ≡ map f ss
    equal f [] [] same each = refl
    equal f [] (b ∷ ms) same each = absurd (omega (arith, same))
    equal f (s ∷ ss) [] same each = absurd (omega (arith, same))
    equal f (s ∷ ss) (b ∷ ms) same each = ap₂ (λ x xs. x ∷ xs) (each 0 s refl) (equal f ss ms (omega (arith, same)) (λ k x at. each (suc k) x at))

marked_here : (f : Shape → Bool) (ss : List Shape) (i : ℕ) (s : Shape) → slice_get ss i ≡ Some s → f s ≡ true → is_marked (map f ss) i ≡ true
marked_here f [] i s at is = refl
marked_here f (x ∷ ss) zero s at is = let same : x ≡ s = cc (at) in subst (λ y. f y ≡ true) (sym same) is
marked_here f (x ∷ ss) (suc i) s at is = marked_here f ss i s at is

-- no mark was made
pub no_mark : (m : Model) (marks : List Bool) (order : List ℕ) → Marks m marks order marks order
no_mark m marks order = record {
  further = λ others settled among. among;
  supported = λ held. held;
  long = refl;
  fit = omega arith;
}

-- one that follows was made
pub one_marked : (m : Model) (marks : List Bool) (order : List ℕ) (i : ℕ) (d : Bool) (s : Shape) → slice_get m.shapes i ≡ Some s → i < length marks
    → get_or marks i d ≡ false → is_uncarried marks s.kind ≡ true → Marks m marks order (set marks i true) (order ++ i ∷ [])
one_marked m marks order i d s at within none follows = record {
  further = λ others settled among number set_is.
      let f = λ (x : Shape). is_uncarried others x.kind in
      let here = marked_here f m.shapes i s at (uncarried_among marks others s.kind among follows) in
      one_of others i number (is_marked marks number ≡ true) (among number)
      (subst (λ (os : List Bool). is_marked os i ≡ true) (sym settled) here) (marked_by marks i number set_is);
  supported = supported_more m marks i s at follows;
  long = length-set marks i true;
  fit = omega (arith, one_unmarked marks i d within none, length-append order (i ∷ []));
}

-- marks that were made, and then others
pub marks_more : {m : Model} {before : List Bool} {order : List ℕ} {mid : List Bool} {mid_order : List ℕ} {behind : List Bool} {new_order : List ℕ}
    → Marks m before order mid mid_order → Marks m mid mid_order behind new_order → Marks m before order behind new_order
marks_more first next = record {
  further = λ others settled among. next.further others settled (first.further others settled among);
  supported = λ held. next.supported (first.supported held);
  long = next.long ∙ first.long;
  fit = omega (arith, first.fit, next.fit);
}
