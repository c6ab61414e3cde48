-- Shapes whose mixins are taken in one after the other.
use Rattle.std.proofs.Common.{◌≡◌, ◌≢◌, ◌⊎◌, ◌<◌, ◌≤◌, ◌+◌, ◌∙◌, inl, inr, ⊎_elim, ℕ, zero, suc, List, [], ◌∷◌, length, map, set, get_or, slice_get, bytes_eq, MatchBool, Option, Some, None, option_map, refl, sym, ap, subst, arith, length-set, true≢false}
use Rattle.std.specs.Prelude.{◌==◌, Bool, true, false, not, ◌||◌, ◌&&◌, unwrap_or}
use Rattle.std.specs.List.{AllZip, list_any}
use Rattle.std.proofs.lemmas.Option.{none-some, slice_get-map, slice_get-get_or, slice_get_within}
use Rattle.std.proofs.lemmas.Slice.Eq.{bytes_eq-Decides}
use Rattle.std.proofs.lemmas.Bool.Decides.{nat_tests}
use Rattle.smithy_model.specs.Model.{Shape}
use Rattle.smithy_model.specs.Mixins.{takes_mixins, IsWith, IsMixed, is_done, IsDone, ArePartlyMixed, Disagrees, IsShapeOf, LeadsOn, HasNoCircle, AreMixed, IsCircle, IsInCircle, uses_of, MissesMixin}
use Rattle.smithy_model.specs.declared.fault.ModelFault.{ModelFault}
use Rattle.smithy_model.specs.declared.fault.ModelFault.TheVariants as faults
use Rattle.smithy_model.specs.Faults.{RefusesMixins}
use Rattle.smithy_model.specs.Mixing.{IsHalfMixed, AreHalfMixed, IsWaiting, IsHeldUp, IsSettledAt, TakesIn, IsAtOdds, RefusesOne, RefusesHere, count_of_waiting}
use Rattle.smithy_model.specs.Reading.{ids_of}

some_is : {A : Type 0} (x y : A) → Some x ≡ Some y → x ≡ y
some_is x y is = cc (is)

at_set : {A : Type 0} (xs : List A) (i : ℕ) (x : A) → i < length xs → slice_get (set xs i x) i ≡ Some x
at_set [] i x within = absurd (omega (arith, within))
at_set (y ∷ xs) zero x within = refl
at_set (y ∷ xs) (suc i) x within = at_set xs i x (omega (arith, within))

past_set : {A : Type 0} (xs : List A) (i k : ℕ) (x : A) → i ≢ k → slice_get (set xs i x) k ≡ slice_get xs k
past_set [] i k x other = refl
past_set (y ∷ xs) zero zero x other = absurd (other refl)
past_set (y ∷ xs) zero (suc k) x other = refl
past_set (y ∷ xs) (suc i) zero x other = refl
past_set (y ∷ xs) (suc i) (suc k) x other = past_set xs i k x (λ same. other (ap suc same))

same_or_not : (i k : ℕ) → (i ≡ k) ⊎ (i ≢ k)
same_or_not zero zero = inl refl
same_or_not zero (suc k) = inr (λ same. omega (arith, same))
same_or_not (suc i) zero = inr (λ same. omega (arith, same))
same_or_not (suc i) (suc k) = next (same_or_not i k)
  where
    next : (i ≡ k) ⊎ (i ≢ k) → (suc i ≡ suc k) ⊎ (suc i ≢ suc k)
    next (inl same) = inl (ap suc same)
    next (inr other) = inr (λ same. other (omega (arith, same)))

at_within : {A : Type 0} (xs : List A) (k : ℕ) → k < length xs → (x : A) × (slice_get xs k ≡ Some x)
at_within [] k within = absurd (omega (arith, within))
at_within (x ∷ xs) zero within = (x, refl)
at_within (x ∷ xs) (suc k) within = at_within xs k (omega (arith, within))

zip_weaker : {A B : Type 0} (R S : A → B → Type 0) (xs : List A) (ys : List B) → ((x : A) (y : B) → R x y → S x y) → AllZip R xs ys → AllZip S xs ys
zip_weaker R S [] [] weaker zip = tt
zip_weaker R S [] (y ∷ ys) weaker zip = absurd zip
zip_weaker R S (x ∷ xs) [] weaker zip = absurd zip
zip_weaker R S (x ∷ xs) (y ∷ ys) weaker zip = (weaker x y zip.0, zip_weaker R S xs ys weaker zip.1)

mixed_weaker : (R S : List ℕ → Shape → Type 0) (own s : Shape) → ((id : List ℕ) (x : Shape) → R id x → S id x) → IsMixed R own s → IsMixed S own s
mixed_weaker R S own s weaker = by (takes_mixins own)
  where
    by : (b : Bool) → MatchBool b ((mixins : List Shape) × AllZip R own.mixins mixins × IsWith own mixins s) (s ≡ own)
        → MatchBool b ((mixins : List Shape) × AllZip S own.mixins mixins × IsWith own mixins s) (s ≡ own)
    by true (mixins, zip, is) = (mixins, zip_weaker R S own.mixins mixins weaker zip, is)
    by false is = is

mixed_id : (R : List ℕ → Shape → Type 0) (own s : Shape) → IsMixed R own s → s.id ≡ own.id
mixed_id R own s = by (takes_mixins own)
  where
    by : (b : Bool) → MatchBool b ((mixins : List Shape) × AllZip R own.mixins mixins × IsWith own mixins s) (s ≡ own) → s.id ≡ own.id
    by true (mixins, zip, is) = ap (λ (x : Shape). x.id) is.1
    by false is = ap (λ (x : Shape). x.id) is

-- where a mixin was taken in, it stays
done_still : (shapes : List Shape) (done : List Bool) (n : ℕ) (new : Shape) → is_done done n ≡ false → (id : List ℕ) (s : Shape)
    → IsDone shapes done id s → IsDone (set shapes n new) (set done n true) id s
done_still shapes done n new waits id s (p, at, is, same) =
    let other : n ≢ p = λ equal. cc (subst (λ k. is_done done k ≡ false) equal waits, is) in
    (p, past_set shapes n p new other ∙ at, ap (λ o. unwrap_or o false) (past_set done n p true other) ∙ is, same)

-- one that waits is as it was
half_waits : (shapes : List Shape) (done : List Bool) (n : ℕ) (o : Shape) → is_done done n ≡ false → IsHalfMixed shapes done n o
    → (slice_get shapes n ≡ Some o) × (takes_mixins o ≡ true)
half_waits shapes done n o waits (s, at, state) =
    let open_state = subst (λ b. MatchBool b (IsMixed (IsDone shapes done) o s) ((s ≡ o) × (takes_mixins o ≡ true))) waits state in
    (at ∙ ap Some open_state.0, open_state.1)

half_id : (shapes : List Shape) (done : List Bool) (n : ℕ) (o s : Shape) → slice_get shapes n ≡ Some s → IsHalfMixed shapes done n o → s.id ≡ o.id
half_id shapes done n o s at (found, also, state) =
    ap (λ (x : Shape). x.id) (some_is s found (sym at ∙ also)) ∙ by (is_done done n) state
  where
    by : (b : Bool) → MatchBool b (IsMixed (IsDone shapes done) o found) ((found ≡ o) × (takes_mixins o ≡ true)) → found.id ≡ o.id
    by true is = mixed_id (IsDone shapes done) o found is
    by false is = ap (λ (x : Shape). x.id) is.0

not_true : (b : Bool) → (b ≡ true → false ≡ true) → b ≡ false
not_true true never = sym (never refl)
not_true false never = refl

-- the mixins that are taken in are in no circle
ids_free : (own shapes : List Shape) (done : List Bool) (ids : List ℕ → Bool) → LeadsOn own ids → AreHalfMixed own shapes done → (id : List ℕ) (s : Shape)
    → IsDone shapes done id s → ids id ≡ false
ids_free own shapes done ids leads half id s (p, at, is, same) =
    let there = at_within own p (subst (λ n. p < n) half.long (slice_get_within shapes p s at)) in
    subst (λ name. ids name ≡ false) (sym (half_id shapes done p there.0 s at (half.each p there.0 there.1)) ∙ same) (half.free ids leads p there.0 there.1 is)

none_of : (R : List ℕ → Shape → Type 0) (ids : List ℕ → Bool) (names : List (List ℕ)) (mixins : List Shape) → ((id : List ℕ) (s : Shape) → R id s → ids id ≡ false)
    → AllZip R names mixins → list_any ids names ≡ false
none_of R ids [] [] free zip = refl
none_of R ids [] (s ∷ mixins) free zip = absurd zip
none_of R ids (id ∷ names) [] free zip = absurd zip
none_of R ids (id ∷ names) (s ∷ mixins) free zip = rw (free id s zip.0) (none_of R ids names mixins free zip.1)

-- the mixins of one more shape are taken in
pub taken_in : (own shapes : List Shape) (done : List Bool) (n : ℕ) (u new : Shape) (mixins : List Shape) → slice_get shapes n ≡ Some u → n < length done
    → is_done done n ≡ false → AllZip (IsDone shapes done) u.mixins mixins → IsWith u mixins new → AreHalfMixed own shapes done
    → AreHalfMixed own (set shapes n new) (set done n true)
taken_in own shapes done n u new mixins at within waits zip made half = record {
  long = length-set shapes n new ∙ half.long;
  marked = length-set done n true ∙ half.marked ∙ sym (length-set shapes n new);
  each = λ k o is. each_by k o is (same_or_not n k);
  free = λ ids leads k o is now. free_by ids leads k o is now (same_or_not n k);
}
  where
    now_done : is_done (set done n true) n ≡ true
    now_done = ap (λ o. unwrap_or o false) (at_set done n true within)

    was : (o : Shape) → slice_get own n ≡ Some o → (u ≡ o) × (takes_mixins o ≡ true)
    was o is = let first = half_waits shapes done n o waits (half.each n o is) in (some_is u o (sym at ∙ first.0), first.1)

    mixed_now : (o : Shape) → u ≡ o → takes_mixins o ≡ true → IsMixed (IsDone (set shapes n new) (set done n true)) o new
    mixed_now o same takes =
        subst (λ b. MatchBool b ((ms : List Shape) × AllZip (IsDone (set shapes n new) (set done n true)) o.mixins ms × IsWith o ms new) (new ≡ o)) (sym takes)
        (subst (λ (x : Shape). (ms : List Shape) × AllZip (IsDone (set shapes n new) (set done n true)) x.mixins ms × IsWith x ms new) same
        (mixins, zip_weaker (IsDone shapes done) (IsDone (set shapes n new) (set done n true)) u.mixins mixins (done_still shapes done n new waits) zip, made))

    here : (o : Shape) → slice_get own n ≡ Some o → IsHalfMixed (set shapes n new) (set done n true) n o
    here o is = (
      new,
      at_set shapes n new (slice_get_within shapes n u at),
      subst (λ b. MatchBool b (IsMixed (IsDone (set shapes n new) (set done n true)) o new) ((new ≡ o) × (takes_mixins o ≡ true))) (sym now_done)
          (mixed_now o (was o is).0 (was o is).1),
    )

    state_by : (k : ℕ) (o s : Shape) (b : Bool) → MatchBool b (IsMixed (IsDone shapes done) o s) ((s ≡ o) × (takes_mixins o ≡ true))
        → MatchBool b (IsMixed (IsDone (set shapes n new) (set done n true)) o s) ((s ≡ o) × (takes_mixins o ≡ true))
    state_by k o s true state = mixed_weaker (IsDone shapes done) (IsDone (set shapes n new) (set done n true)) o s (done_still shapes done n new waits) state
    state_by k o s false state = state

    elsewhere : (k : ℕ) (o : Shape) → n ≢ k → IsHalfMixed shapes done k o → IsHalfMixed (set shapes n new) (set done n true) k o
    elsewhere k o other (s, is, state) = (
      s,
      past_set shapes n k new other ∙ is,
      subst (λ b. MatchBool b (IsMixed (IsDone (set shapes n new) (set done n true)) o s) ((s ≡ o) × (takes_mixins o ≡ true)))
          (sym (ap (λ p. unwrap_or p false) (past_set done n k true other))) (state_by k o s (is_done done k) state),
    )

    each_by : (k : ℕ) (o : Shape) → slice_get own k ≡ Some o → (n ≡ k) ⊎ (n ≢ k) → IsHalfMixed (set shapes n new) (set done n true) k o
    each_by k o is (inl same) = subst (λ j. IsHalfMixed (set shapes n new) (set done n true) j o) same (here o (subst (λ j. slice_get own j ≡ Some o) (sym same) is))
    each_by k o is (inr other) = elsewhere k o other (half.each k o is)

    free_here : (ids : List ℕ → Bool) → LeadsOn own ids → (o : Shape) → slice_get own n ≡ Some o → ids o.id ≡ false
    free_here ids leads o is =
        not_true (ids o.id)
        (λ inside. sym (none_of (IsDone shapes done) ids o.mixins mixins (ids_free own shapes done ids leads half)
        (subst (λ (x : Shape). AllZip (IsDone shapes done) x.mixins mixins) (was o is).0 zip)) ∙ leads n o is inside)

    free_by : (ids : List ℕ → Bool) → LeadsOn own ids → (k : ℕ) (o : Shape) → slice_get own k ≡ Some o → is_done (set done n true) k ≡ true → (n ≡ k) ⊎ (n ≢ k)
        → ids o.id ≡ false
    free_by ids leads k o is now (inl same) = free_here ids leads o (subst (λ j. slice_get own j ≡ Some o) (sym same) is)
    free_by ids leads k o is now (inr other) = half.free ids leads k o is (sym (ap (λ p. unwrap_or p false) (past_set done n k true other)) ∙ now)

no_mixins : (ms : List (List ℕ)) → not (length ms == 0) ≡ false → ms ≡ []
no_mixins [] is = refl
no_mixins (m ∷ ms) is = absurd (some_there (length ms) is)
  where
    some_there : (n : ℕ) → not (suc n == 0) ≡ false → ⊥
    some_there n = grind (arith, nat_tests)

-- at first those without mixins are done
pub half_at_first : (own : List Shape) (done : List Bool) → done ≡ map (λ (s : Shape). not (takes_mixins s)) own → AreHalfMixed own own done
half_at_first own done first = record {
  long = refl;
  marked = ap length first ∙ length_map own;
  each = λ k o is. (
    o,
    is,
    subst (λ b. MatchBool b (IsMixed (IsDone own done) o o) ((o ≡ o) × (takes_mixins o ≡ true))) (sym (mark k o is)) (state o (takes_mixins o) refl),
  );
  free = λ ids leads k o is now. not_true (ids o.id) (λ inside. sym (ap (list_any ids) (no_mixins o.mixins (alone (takes_mixins o) (sym (mark k o is) ∙ now)))) ∙ leads k o is inside);
}
  where
    length_map : (ss : List Shape) → length (map (λ (s : Shape). not (takes_mixins s)) ss) ≡ length ss
    length_map [] = refl
    length_map (s ∷ ss) = ap suc (length_map ss)

    mark : (k : ℕ) (o : Shape) → slice_get own k ≡ Some o → is_done done k ≡ not (takes_mixins o)
    mark k o is = ap (λ ds. is_done ds k) first ∙ ap (λ p. unwrap_or p false) (slice_get-map (λ (s : Shape). not (takes_mixins s)) own k ∙ ap (option_map (λ (s : Shape). not (takes_mixins s))) is)

    alone : (b : Bool) → not b ≡ true → b ≡ false
    alone true is = sym is
    alone false is = refl

    state : (o : Shape) (t : Bool) → takes_mixins o ≡ t → MatchBool (not t) (IsMixed (IsDone own done) o o) ((o ≡ o) × (takes_mixins o ≡ true))
    state o true takes = (refl, takes)
    state o false takes = subst (λ b. MatchBool b ((ms : List Shape) × AllZip (IsDone own done) o.mixins ms × IsWith o ms o) (o ≡ o)) (sym takes) refl

zip_from : {A B : Type 0} (R : A → B → Type 0) (xs : List A) (ys : List B) → length ys ≡ length xs
    → ((k : ℕ) (x : A) → slice_get xs k ≡ Some x → (y : B) × (slice_get ys k ≡ Some y) × R x y) → AllZip R xs ys
zip_from R [] [] long each = tt
zip_from R [] (y ∷ ys) long each = absurd (omega (arith, long))
zip_from R (x ∷ xs) [] long each = absurd (omega (arith, long))
zip_from R (x ∷ xs) (y ∷ ys) long each =
    let first = each 0 x refl in
    (subst (R x) (sym (some_is y first.0 first.1)) first.2, zip_from R xs ys (omega (arith, long)) (λ k x is. each (suc k) x is))

-- all are done
pub all_mixed : (own whole : List Shape) (done : List Bool) → AreHalfMixed own whole done → ((k : ℕ) → k < length whole → is_done done k ≡ true) → AreMixed own whole
all_mixed own whole done half all = (zip_from (IsMixed (IsShapeOf whole)) own whole half.long each, free)
  where
    now : (k : ℕ) (o : Shape) → slice_get own k ≡ Some o → is_done done k ≡ true
    now k o is = all k (subst (λ n. k < n) (sym half.long) (slice_get_within own k o is))

    each : (k : ℕ) (o : Shape) → slice_get own k ≡ Some o → (s : Shape) × (slice_get whole k ≡ Some s) × IsMixed (IsShapeOf whole) o s
    each k o is =
        let one = half.each k o is in (
          one.0,
          one.1,
          mixed_weaker (IsDone whole done) (IsShapeOf whole) o one.0 (λ id s there. (there.0, there.1, there.3))
              (subst (λ b. MatchBool b (IsMixed (IsDone whole done) o one.0) ((one.0 ≡ o) × (takes_mixins o ≡ true))) (now k o is) one.2),
        )

    free : HasNoCircle own
    free = λ ids leads k o is. half.free ids leads k o is (now k o is)

-- a shape of this id waits
abbrev waits : List Shape → List Bool → List ℕ → Bool
waits [] done id = false
waits (s ∷ ss) [] id = bytes_eq s.id id || waits ss [] id
waits (s ∷ ss) (d ∷ done) id = (not d && bytes_eq s.id id) || waits ss done id

further : (s : Shape) (ss : List Shape) (done more : List Bool) (id : List ℕ) → ((k : ℕ) → is_done more (suc k) ≡ is_done done k) → IsWaiting ss done id
    → IsWaiting (s ∷ ss) more id
further s ss done more id same (k, w, at, waiting, is) = (suc k, w, at, same k ∙ waiting, is)

named_first : (s : Shape) (ss : List Shape) (done more : List Bool) (id : List ℕ) → is_done more 0 ≡ false → ((k : ℕ) → is_done more (suc k) ≡ is_done done k)
    → (waits ss done id ≡ true → IsWaiting ss done id) → (bytes_eq s.id id || waits ss done id) ≡ true → IsWaiting (s ∷ ss) more id
named_first s ss done more id first same behind = by (bytes_eq s.id id) refl
  where
    by : (b : Bool) → bytes_eq s.id id ≡ b → (b || waits ss done id) ≡ true → IsWaiting (s ∷ ss) more id
    by true equal is = (0, s, refl, first, (bytes_eq-Decides s.id id).0 equal)
    by false equal is = further s ss done more id same (behind is)

waits_is : (ss : List Shape) (done : List Bool) (id : List ℕ) → waits ss done id ≡ true → IsWaiting ss done id
waits_is [] done id is = absurd (true≢false (sym is))
waits_is (s ∷ ss) [] id is = named_first s ss [] [] id refl (λ k. refl) (waits_is ss [] id) is
waits_is (s ∷ ss) (true ∷ done) id is = further s ss done (true ∷ done) id (λ k. refl) (waits_is ss done id is)
waits_is (s ∷ ss) (false ∷ done) id is = named_first s ss done (false ∷ done) id refl (λ k. refl) (waits_is ss done id) is

or_first : (a b : Bool) → a ≡ true → (a || b) ≡ true
or_first true b is = refl
or_first false b is = cc (is)

or_true : (a b : Bool) → b ≡ true → (a || b) ≡ true
or_true true b is = refl
or_true false b is = is

is_waits : (ss : List Shape) (done : List Bool) (id : List ℕ) (k : ℕ) (s : Shape) → slice_get ss k ≡ Some s → is_done done k ≡ false → s.id ≡ id
    → waits ss done id ≡ true
is_waits [] done id k s at waiting is = cc (at)
is_waits (x ∷ ss) [] id zero s at waiting is =
    or_first (bytes_eq x.id id) (waits ss [] id) ((bytes_eq-Decides x.id id).1 (ap (λ (y : Shape). y.id) (some_is x s at) ∙ is))
is_waits (x ∷ ss) [] id (suc k) s at waiting is = or_true (bytes_eq x.id id) (waits ss [] id) (is_waits ss [] id k s at refl is)
is_waits (x ∷ ss) (true ∷ done) id zero s at waiting is = cc (waiting)
is_waits (x ∷ ss) (false ∷ done) id zero s at waiting is =
    or_first (bytes_eq x.id id) (waits ss done id) ((bytes_eq-Decides x.id id).1 (ap (λ (y : Shape). y.id) (some_is x s at) ∙ is))
is_waits (x ∷ ss) (d ∷ done) id (suc k) s at waiting is = or_true (not d && bytes_eq x.id id) (waits ss done id) (is_waits ss done id k s at waiting is)

any_in : (ids : List ℕ → Bool) (names : List (List ℕ)) (place : ℕ) (name : List ℕ) → slice_get names place ≡ Some name → ids name ≡ true → list_any ids names ≡ true
any_in ids [] place name at is = cc (at)
any_in ids (n ∷ names) zero name at is = or_first (ids n) (list_any ids names) (subst (λ x. ids x ≡ true) (sym (some_is n name at)) is)
any_in ids (n ∷ names) (suc place) name at is = or_true (ids n) (list_any ids names) (any_in ids names place name at is)

-- those that are left wait for one another
pub circle_left : (own shapes : List Shape) (done : List Bool) (id : List ℕ) → AreHalfMixed own shapes done → ((k : ℕ) → IsSettledAt shapes done k)
    → IsWaiting shapes done id → IsInCircle own id
circle_left own shapes done id half settled (k, s, at, waiting, is) = (waits shapes done, circle, is_waits shapes done id k s at waiting is)
  where
    circle : IsCircle own (waits shapes done)
    circle = λ name inside.
        let one = waits_is shapes done name inside in
        let there = at_within own one.0 (subst (λ n. one.0 < n) half.long (slice_get_within shapes one.0 one.1 one.2)) in
        let same = some_is one.1 there.0 (sym one.2 ∙ (half_waits shapes done one.0 there.0 one.3 (half.each one.0 there.0 there.1)).0) in
        let held = settled one.0 half.marked one.1 one.2 one.3 in (
          one.0,
          one.1,
          there.1 ∙ ap Some (sym same),
          one.4,
          any_in (waits shapes done) one.1.mixins held.0 held.1 held.2 (is_waits shapes done held.1 held.3.0 held.3.1 held.3.2 held.3.3 held.3.4),
        )

-- one more waits no more
pub one_fewer : (done : List Bool) (n : ℕ) → n < length done → is_done done n ≡ false → count_of_waiting (set done n true) < count_of_waiting done
one_fewer [] n within is = absurd (omega (arith, within))
one_fewer (d ∷ done) zero within is = rw (is) (omega arith)
one_fewer (d ∷ done) (suc n) within is = omega (arith, one_fewer done n (omega (arith, within)) is)

-- what a shape takes over changes neither its id nor its mixins
pub uses_set : (shapes : List Shape) (n : ℕ) (u new : Shape) → slice_get shapes n ≡ Some u → new.id ≡ u.id → new.mixins ≡ u.mixins
    → uses_of (set shapes n new) ≡ uses_of shapes
uses_set [] n u new at id mixins = refl
uses_set (s ∷ shapes) zero u new at id mixins =
    let same = some_is s u at in
    rw (id, mixins, sym same) refl
uses_set (s ∷ shapes) (suc n) u new at id mixins = ap (λ us. (s.id, s.mixins) ∷ us) (uses_set shapes n u new at id mixins)

pub ids_used : (shapes : List Shape) → ids_of shapes ≡ map (λ (u : List ℕ × List (List ℕ)). u.0) (uses_of shapes)
ids_used [] = refl
ids_used (s ∷ shapes) = ap (λ ids. s.id ∷ ids) (ids_used shapes)

pub map_set : {W A : Type 0} (v : W → A) (ws : List W) (n : ℕ) (w : W) → map v (set ws n w) ≡ set (map v ws) n (v w)
map_set v [] n w = refl
map_set v (x ∷ ws) zero w = refl
map_set v (x ∷ ws) (suc n) w = ap (λ xs. v x ∷ xs) (map_set v ws n w)

pub at_view : {W A : Type 0} (v : W → A) (ws : List W) (i : ℕ) (d : W) → i < length ws → slice_get (map v ws) i ≡ Some (v (get_or ws i d))
at_view v ws i d within = slice_get-map v ws i ∙ ap (option_map v) (slice_get-get_or ws i d within)

-- the shape at the place of an id
shape_there : (shapes : List Shape) (ids : List (List ℕ)) (n : ℕ) (id : List ℕ) → ids ≡ ids_of shapes → slice_get ids n ≡ Some id
    → (s : Shape) × (slice_get shapes n ≡ Some s) × (s.id ≡ id)
shape_there shapes ids n id are at = by (slice_get shapes n) refl (sym (slice_get-map (λ (s : Shape). s.id) shapes n) ∙ sym (ap (λ is. slice_get is n) are) ∙ at)
  where
    by : (o : Option Shape) → slice_get shapes n ≡ o → option_map (λ (s : Shape). s.id) o ≡ Some id → (s : Shape) × (slice_get shapes n ≡ Some s) × (s.id ≡ id)
    by None is none = absurd (none-some id none)
    by (Some s) is same = (s, is, some_is s.id id same)

pub id_there : (shapes : List Shape) (ids : List (List ℕ)) (n : ℕ) (s : Shape) (id : List ℕ) → ids ≡ ids_of shapes → slice_get ids n ≡ Some id
    → slice_get shapes n ≡ Some s → s.id ≡ id
id_there shapes ids n s id are at is =
    let one = shape_there shapes ids n id are at in
    ap (λ (x : Shape). x.id) (some_is s one.0 (sym is ∙ one.1)) ∙ one.2

pub waiting_there : (shapes : List Shape) (ids : List (List ℕ)) (done : List Bool) (n : ℕ) (id : List ℕ) → ids ≡ ids_of shapes → slice_get ids n ≡ Some id
    → (n < length shapes → is_done done n ≡ false) → IsWaiting shapes done id
waiting_there shapes ids done n id are at waits_there =
    let one = shape_there shapes ids n id are at in
    (n, one.0, one.1, waits_there (slice_get_within shapes n one.0 one.1), one.2)

any_mapped : {A B : Type 0} (p : B → Bool) (f : A → B) (xs : List A) → list_any p (map f xs) ≡ list_any (λ x. p (f x)) xs
any_mapped p f [] = refl
any_mapped p f (x ∷ xs) = ap (λ b. p (f x) || b) (any_mapped p f xs)

-- a mixin isn't there
pub misses : (shapes : List Shape) (ids : List (List ℕ)) (number place : ℕ) (s : Shape) (mixin : List ℕ) → ids ≡ ids_of shapes → slice_get shapes number ≡ Some s
    → slice_get s.mixins place ≡ Some mixin → list_any (λ other. bytes_eq other mixin) ids ≡ false → MissesMixin (uses_of shapes) s.id
misses shapes ids number place s mixin are at among unknown = (
  number,
  place,
  s.mixins,
  mixin,
  slice_get-map (λ (x : Shape). (x.id, x.mixins)) shapes number ∙ ap (option_map (λ (x : Shape). (x.id, x.mixins))) at,
  among,
  sym (any_mapped (λ other. bytes_eq other mixin) (λ (u : List ℕ × List (List ℕ)). u.0) (uses_of shapes))
      ∙ sym (ap (list_any (λ other. bytes_eq other mixin)) (are ∙ ids_used shapes)) ∙ unknown,
)

pub at_item : {W A : Type 0} (v : W → A) (ws : List W) (i : ℕ) (w : W) → i < length ws → w ≡ get_or ws i w → slice_get (map v ws) i ≡ Some (v w)
at_item v ws i w within is = at_view v ws i w within ∙ ap (λ x. Some (v x)) (sym is)

pub settled_here : (shapes : List Shape) (done : List Bool) (n : ℕ) (u : Shape) → slice_get shapes n ≡ Some u → IsHeldUp shapes done u → IsSettledAt shapes done n
settled_here shapes done n u at held = λ long s is waits. subst (IsHeldUp shapes done) (some_is u s (sym at ∙ is)) held

pub waits_at : (done : List Bool) (n : ℕ) (w : Bool) → n < length done → w ≡ get_or done n w → w ≡ false → is_done done n ≡ false
waits_at done n w within is waits = ap (λ o. unwrap_or o false) (slice_get-get_or done n w within ∙ ap Some (sym is ∙ waits))

pub ids_kept : (old new : List Shape) → uses_of new ≡ uses_of old → ids_of old ≡ ids_of new
ids_kept old new same = ids_used old ∙ sym (ap (map (λ (u : List ℕ × List (List ℕ)). u.0)) same) ∙ sym (ids_used new)

-- one that waits for no mixin, and has two members of one name with different targets
at_odds : (own shapes : List Shape) (done : List Bool) (n : ℕ) (u : Shape) (id : List ℕ) → slice_get shapes n ≡ Some u → is_done done n ≡ false
    → IsAtOdds shapes done u id → AreHalfMixed own shapes done → Disagrees own id
at_odds own shapes done n u id at waits (mixins, zip, odds, same) half =
    let there = at_within own n (subst (λ l. n < l) half.long (slice_get_within shapes n u at)) in
    let equal : there.0 ≡ u = some_is there.0 u (sym (half_waits shapes done n there.0 waits (half.each n there.0 there.1)).0 ∙ at) in
    (shapes, done, partly, n, u, mixins, there.1 ∙ ap Some equal, same, zip, odds)
  where
    partly : ArePartlyMixed own shapes done
    partly = λ k o is now.
        let one = half.each k o is in
        (one.0, one.1, subst (λ b. MatchBool b (IsMixed (IsDone shapes done) o one.0) ((one.0 ≡ o) × (takes_mixins o ≡ true))) now one.2)

pub refused_here : (shapes : List Shape) (done : List Bool) (n : ℕ) (u : Shape) (fault : ModelFault) → slice_get shapes n ≡ Some u → is_done done n ≡ false
    → RefusesOne shapes done u fault → RefusesHere shapes done fault
refused_here shapes done n u (faults.BadMixin id) at waits (inl missing) = inl missing
refused_here shapes done n u (faults.BadMixin id) at waits (inr odds) = inr (λ own half. at_odds own shapes done n u id.now at waits odds half)
refused_here shapes done n u faults.NoMemory at waits one = tt
refused_here shapes done n u faults.NotJson at waits one = absurd one
refused_here shapes done n u faults.NameTwice at waits one = absurd one
refused_here shapes done n u faults.NotAModel at waits one = absurd one
refused_here shapes done n u (faults.BadShape id) at waits one = absurd one
refused_here shapes done n u (faults.UnknownTarget id) at waits one = absurd one
refused_here shapes done n u (faults.Applied id) at waits one = absurd one

-- what refuses later shapes refuses those before
pub refused_before : (old shapes : List Shape) (before done : List Bool) (fault : ModelFault) → uses_of shapes ≡ uses_of old → TakesIn old shapes before done
    → RefusesHere shapes done fault → RefusesHere old before fault
refused_before old shapes before done (faults.BadMixin id) uses takes (inl missing) = inl (subst (λ us. MissesMixin us id.now) uses missing)
refused_before old shapes before done (faults.BadMixin id) uses takes (inr odds) = inr (λ own half. odds own (takes own half))
refused_before old shapes before done faults.NoMemory uses takes one = tt
refused_before old shapes before done faults.NotJson uses takes one = absurd one
refused_before old shapes before done faults.NameTwice uses takes one = absurd one
refused_before old shapes before done faults.NotAModel uses takes one = absurd one
refused_before old shapes before done (faults.BadShape id) uses takes one = absurd one
refused_before old shapes before done (faults.UnknownTarget id) uses takes one = absurd one
refused_before old shapes before done (faults.Applied id) uses takes one = absurd one

pub all_refused : (own : List Shape) (done : List Bool) (fault : ModelFault) → AreHalfMixed own own done → RefusesHere own done fault → RefusesMixins own fault
all_refused own done (faults.BadMixin id) half (inl missing) = inl missing
all_refused own done (faults.BadMixin id) half (inr odds) = inr (inr (odds own half))
all_refused own done faults.NoMemory half one = tt
all_refused own done faults.NotJson half one = absurd one
all_refused own done faults.NameTwice half one = absurd one
all_refused own done faults.NotAModel half one = absurd one
all_refused own done (faults.BadShape id) half one = absurd one
all_refused own done (faults.UnknownTarget id) half one = absurd one
all_refused own done (faults.Applied id) half one = absurd one

far_settled : (shapes : List Shape) (done : List Bool) (k : ℕ) → length shapes ≤ k → IsSettledAt shapes done k
far_settled shapes done k far = λ long s is waits. absurd (omega (arith, far, slice_get_within shapes k s is))

pub all_settled : (shapes : List Shape) (done : List Bool) (n k : ℕ) → length shapes ≤ n → ((j : ℕ) → j < n → IsSettledAt shapes done j) → IsSettledAt shapes done k
all_settled shapes done n k far so_far = by (le_or_lt n k)
  where
    le_or_lt : (a b : ℕ) → (a ≤ b) ⊎ (b < a)
    le_or_lt zero b = inl (omega arith)
    le_or_lt (suc a) zero = inr (omega arith)
    le_or_lt (suc a) (suc b) = ⊎_elim (λ less. inl (omega (arith, less))) (λ more. inr (omega (arith, more))) (le_or_lt a b)

    by : (n ≤ k) ⊎ (k < n) → IsSettledAt shapes done k
    by (inl past) = far_settled shapes done k (omega (arith, far, past))
    by (inr within) = so_far k within

-- one more of those before which all hold
pub one_past : (P : ℕ → Type 0) (n k : ℕ) → ((j : ℕ) → j < n → P j) → P n → k < n + 1 → P k
one_past P n k so_far one within = ⊎_elim (λ same. subst P (sym same) one) (λ less. so_far k less) (split n k within)
  where
    split : (a b : ℕ) → b < a + 1 → (b ≡ a) ⊎ (b < a)
    split zero zero less = inl refl
    split zero (suc b) less = absurd (omega (arith, less))
    split (suc a) zero less = inr (omega arith)
    split (suc a) (suc b) less = ⊎_elim (λ same. inl (ap suc same)) (λ more. inr (omega (arith, more))) (split a b (omega (arith, less)))
