-- Names in byte order: a search by halves, equal names, and what a sort gives.
use Rattle.std.proofs.Common.{◌≡◌, ℕ, ◌<◌, ◌≤◌, ◌==◌, List, [], ◌∷◌, map, length, get_or, Bool, true, false, not, ◌||◌, Option, Some, None, refl, sym, ap, ◌∙◌, arith, Bor, subst, suc, zero, eqb-true, eq-eqb, ◌⊎◌, inl, inr, Result, Ok, Err, Vec, Global}
use Rattle.std.specs.Str.{bytes_eq}
use Rattle.std.specs.Option.{option_eq}
use Rattle.std.specs.Result.{IfOk}
use lib.Dec.{eqb}
use Rattle.std.specs.List.{list_any, position, position_or_len}
use Rattle.std.specs.List.Sorted.{IsPermutation, IsSorted}
use Rattle.std.specs.Ordering.{is_lt, is_eq, nat_cmp, ordering_then, ordering_reverse}
use Rattle.std.specs.declared.cmp.Ordering.{Ordering}
use Rattle.std.specs.declared.cmp.Ordering.TheVariants.{Less, Equal, Greater}
use Rattle.std.specs.Cmp.{IsStrictWeakOrder, IsTotalOrder, on_total, then_total}
use Rattle.std.specs.Cmp.Lexicographic.{slice_cmp}
use Rattle.std.proofs.lemmas.Bool.{true≢false, cases_order}
use Rattle.std.proofs.lemmas.Cmp.{nat_list_cmp_total, nat_cmp_total}
use Rattle.std.proofs.lemmas.List.{get_or_default, get_or-map, length-map}
use Rattle.std.proofs.lemmas.List.Folds.{list_any_at, list_any_none, Any-from_list_any}
use Rattle.std.proofs.lemmas.List.Sums.{fails_before_first, passes_at_first}
use Rattle.std.proofs.lemmas.List.Sorted.{ranks_by, sorted_far, All-permutation, Contains-permutation}
use Rattle.std.proofs.lemmas.Map.Keys.{ge_from_not_lt}
use Rattle.std.proofs.lemmas.Map.Text.{is_eq-slice_cmp}
use Rattle.std.proofs.lemmas.Slice.Eq.{bytes_eq-Decides}
use Rattle.smithy_declarations.specs.Names.{has_equal_texts}
use Rattle.smithy_declarations.specs.Private.Order.{is_before, name_in, IsOrderOf}
use Rattle.smithy_declarations.proofs.Positions.{position_found, position_missing}

true_if : (b : Bool) → (b ≡ false → ⊥) → b ≡ true
true_if true h = refl
true_if false h = absurd (h refl)

pub false_if : (b : Bool) → (b ≡ true → ⊥) → b ≡ false
false_if true h = absurd (h refl)
false_if false h = refl

pub not_both : (b : Bool) → b ≡ true → b ≡ false → ⊥
not_both b t f = true≢false (sym t ∙ f)

pub le_or_lt : (a b : ℕ) → (a ≤ b) ⊎ (b < a)
le_or_lt a b = elim (cases_order a b) [
  | inl e ↦ inl (omega arith)
  | inr other ↦ elim other [ inl h ↦ inl (omega arith) | inr h ↦ inr h ]
]

or_true : (b : Bool) → b || true ≡ true
or_true true = refl
or_true false = refl

-- ---- byte order

byte_order : IsStrictWeakOrder is_before
byte_order = ranks_by nat_list_cmp_total (λ x. x)

-- what stands no later than a name before the key stands before the key
pub before_too : (a b key : List ℕ) → is_before b a ≡ false → is_before b key ≡ true → is_before a key ≡ true
before_too a b key rises before =
    true_if (is_before a key) (λ h. not_both (is_before b key) before (byte_order.chain b a key rises h))

-- what stands no earlier than a name that isn't before the key isn't before the key
pub not_before_too : (a b key : List ℕ) → is_before b a ≡ false → is_before a key ≡ false → is_before b key ≡ false
not_before_too a b key rises not_before = byte_order.chain b a key rises not_before

lt_is_no_tie : (o : Ordering) → is_lt o ≡ true → is_eq o ≡ false
lt_is_no_tie Less h = refl
lt_is_no_tie Equal h = absurd (true≢false (sym h))
lt_is_no_tie Greater h = refl

before_differs : (a key : List ℕ) → is_before a key ≡ true → bytes_eq a key ≡ false
before_differs a key before = sym (is_eq-slice_cmp a key) ∙ lt_is_no_tie (slice_cmp nat_cmp a key) before

tie_if_neither : (o : Ordering) → is_lt o ≡ false → is_lt (ordering_reverse o) ≡ false → is_eq o ≡ true
tie_if_neither Less h k = absurd (true≢false h)
tie_if_neither Equal h k = refl
tie_if_neither Greater h k = absurd (true≢false k)

equal_if_neither : (a b : List ℕ) → is_before a b ≡ false → is_before b a ≡ false → bytes_eq a b ≡ true
equal_if_neither a b h k =
    sym (is_eq-slice_cmp a b)
    ∙ tie_if_neither (slice_cmp nat_cmp a b) h (sym (ap is_lt (nat_list_cmp_total.antisymm b a)) ∙ k)

-- ---- the first position

pub first_of : {X : Type 0} (p : X → Bool) (xs : List X) (k : ℕ) (d : X) → k < length xs → p (get_or xs k d) ≡ true
    → (m : ℕ) × (m ≤ k) × (position p xs ≡ Some m) × (p (get_or xs m d) ≡ true) × ((i : ℕ) → i < m → p (get_or xs i d) ≡ false)
first_of p xs k d within here =
    let no_later : position_or_len p xs ≤ k = elim (le_or_lt (position_or_len p xs) k) [ inl h ↦ h | inr h ↦ absurd (not_both (p (get_or xs k d)) here (fails_before_first p xs k d h)) ] in
    let passes : p (get_or xs (position_or_len p xs) d) ≡ true = passes_at_first p xs d (omega arith) in
    (position_or_len p xs, no_later, position_found p xs (position_or_len p xs) d (omega arith) (λ i h. fails_before_first p xs i d h) passes, passes, λ i h. fails_before_first p xs i d h)

-- ---- a search by halves

-- where a position stands in the order
stands_at : (order : List ℕ) (k : ℕ) → list_any (λ position. position == k) order ≡ true → (i : ℕ) × (i < length order) × (get_or order i 0 ≡ k)
stands_at order k stands =
    let any = Any-from_list_any (λ position. position == k) order stands in
    (any.0, any.2, get_or_default order any.0 0 any.1 any.2 ∙ any.3 ∙ eqb-true any.1 k any.4)

-- the first of the names that don't stand before the key, if it is the key
pub found_in_order : (names : List (List ℕ)) (order : List ℕ) (key : List ℕ) (low : ℕ) → IsOrderOf names order → low < length order
    → ((i : ℕ) → i < low → is_before (name_in names order i) key ≡ true) → bytes_eq (name_in names order low) key ≡ true
    → position (λ n. bytes_eq n key) names ≡ Some (get_or order low 0)
found_in_order names order key low in_order within before here =
    let name_is : (i k : ℕ) → get_or order i 0 ≡ k → name_in names order i ≡ get_or names k [] = λ i k e. ap (λ k. get_or names k []) e in
    position_found (λ n. bytes_eq n key) names (get_or order low 0) [] (in_order.within low within)
    (λ k h.
    let at = stands_at order k (in_order.complete k (omega (arith, in_order.within low within))) in
    false_if (bytes_eq (get_or names k []) key) (λ equal.
    let same : get_or names k [] ≡ key = (bytes_eq-Decides (get_or names k []) key).0 equal in
    let low_is : name_in names order low ≡ key = (bytes_eq-Decides (name_in names order low) key).0 here in
    elim (le_or_lt low at.0) [
      | inl up ↦ let tie = in_order.ties low at.0 up at.1 (low_is ∙ sym same ∙ sym (name_is at.0 k at.2)) in absurd (omega (arith, at.2))
      | inr down ↦ not_both (bytes_eq (get_or names k []) key) equal (ap (λ n. bytes_eq n key) (sym (name_is at.0 k at.2)) ∙ before_differs (name_in names order at.0) key (before at.0 down))
    ]))
    here

-- none of the names is the key
pub missing_in_order : (names : List (List ℕ)) (order : List ℕ) (key : List ℕ) (low : ℕ) → IsOrderOf names order
    → ((i : ℕ) → i < low → is_before (name_in names order i) key ≡ true) → ((i : ℕ) → low ≤ i → i < length order → is_before (name_in names order i) key ≡ false)
    → (low < length order → bytes_eq (name_in names order low) key ≡ false) → position (λ n. bytes_eq n key) names ≡ None
missing_in_order names order key low in_order before after here =
    let name_is : (i k : ℕ) → get_or order i 0 ≡ k → name_in names order i ≡ get_or names k [] = λ i k e. ap (λ k. get_or names k []) e in
    position_missing (λ n. bytes_eq n key) names [] (λ k h.
    let at = stands_at order k (in_order.complete k h) in
    false_if (bytes_eq (get_or names k []) key) (λ equal.
    let same : name_in names order at.0 ≡ key = name_is at.0 k at.2 ∙ (bytes_eq-Decides (get_or names k []) key).0 equal in
    elim (le_or_lt low at.0) [
      | inl up ↦
          let rises : is_before key (name_in names order low) ≡ false = ap (λ n. is_before n (name_in names order low)) (sym same) ∙ in_order.rising low at.0 up at.1 in
          not_both (bytes_eq (name_in names order low) key) (equal_if_neither (name_in names order low) key (after low (omega arith) (omega (arith, at.1))) rises) (here (omega (arith, at.1)))
      | inr down ↦ not_both (bytes_eq (get_or names k []) key) equal (ap (λ n. bytes_eq n key) (sym (name_is at.0 k at.2)) ∙ before_differs (name_in names order at.0) key (before at.0 down))
    ]))

-- ---- equal names

pub equal_texts_at : (names : List (List ℕ)) (i j : ℕ) → i < j → j < length names → bytes_eq (get_or names i []) (get_or names j []) ≡ true → has_equal_texts names ≡ true
equal_texts_at [] i j up within same = absurd (omega arith)
equal_texts_at (t ∷ ts) zero zero up within same = absurd (omega arith)
equal_texts_at (t ∷ ts) zero (suc j) up within same = ap (λ b. b || has_equal_texts ts) (list_any_at (bytes_eq t) ts j [] (omega arith) same)
equal_texts_at (t ∷ ts) (suc i) zero up within same = absurd (omega arith)
equal_texts_at (t ∷ ts) (suc i) (suc j) up within same =
    ap (λ b. list_any (bytes_eq t) ts || b) (equal_texts_at ts i j (omega arith) (omega arith) same) ∙ or_true (list_any (bytes_eq t) ts)

pub no_equal_texts : (names : List (List ℕ)) → ((i j : ℕ) → i < j → j < length names → bytes_eq (get_or names i []) (get_or names j []) ≡ false) → has_equal_texts names ≡ false
no_equal_texts [] differ = refl
no_equal_texts (t ∷ ts) differ =
    ap (λ b. b || has_equal_texts ts) (list_any_none (bytes_eq t) ts (λ k d h. ap (bytes_eq t) (get_or_default ts k d [] h) ∙ differ 0 (suc k) (omega arith) (omega arith)))
    ∙ no_equal_texts ts (λ i j up within. differ (suc i) (suc j) (omega arith) (omega arith))

pub some_same : (m k : ℕ) → Some m ≡ Some k → m ≡ k
some_same m k e = cc

-- a name that stands earlier too
pub equal_if_earlier : (names : List (List ℕ)) (k : ℕ) → k < length names → (position (λ n. bytes_eq n (get_or names k [])) names ≡ Some k → ⊥) → has_equal_texts names ≡ true
equal_if_earlier names k within later =
    let first = first_of (λ n. bytes_eq n (get_or names k [])) names k [] within ((bytes_eq-Decides (get_or names k []) (get_or names k [])).1 refl) in
    elim (le_or_lt k first.0) [
      | inl up ↦ let same : first.0 ≡ k = omega (arith, first.1) in absurd (later (first.2 ∙ ap Some same))
      | inr down ↦ equal_texts_at names first.0 k down within first.3
    ]

-- each name stands at its own position first
pub distinct_if_first : (names : List (List ℕ)) → ((k : ℕ) → k < length names → position (λ n. bytes_eq n (get_or names k [])) names ≡ Some k) → has_equal_texts names ≡ false
distinct_if_first names firsts =
    no_equal_texts names (λ i j up within. false_if (bytes_eq (get_or names i []) (get_or names j [])) (λ equal.
    let first = first_of (λ n. bytes_eq n (get_or names j [])) names i [] (omega arith) equal in
    let same = some_same first.0 j (sym first.2 ∙ firsts j within) in
    absurd (omega (arith, first.1, same))))

not_true : (b : Bool) → true ≡ not b → b ≡ false
not_true true e = absurd (true≢false e)
not_true false e = refl

not_false : (b : Bool) → false ≡ not b → b ≡ true
not_false true e = refl
not_false false e = absurd (true≢false (sym e))

pub differs_if : (o : Option ℕ) (k : ℕ) → true ≡ not (option_eq eqb o (Some k)) → o ≡ Some k → ⊥
differs_if None k e same = cc
differs_if (Some m) k e same = not_both (eqb m k) (eq-eqb m k (some_same m k same)) (not_true (eqb m k) e)

pub same_if : (o : Option ℕ) (k : ℕ) → false ≡ not (option_eq eqb o (Some k)) → o ≡ Some k
same_if None k e = absurd (true≢false (sym e))
same_if (Some m) k e = ap Some (eqb-true m k (not_false (eqb m k) e))

-- ---- what a sort gives

abbrev entry_cmp : Bor (List ℕ) × ℕ → Bor (List ℕ) × ℕ → Ordering
entry_cmp x y = ordering_then (slice_cmp nat_cmp x.0.now y.0.now) (nat_cmp x.1 y.1)

entry_cmp_total : IsTotalOrder entry_cmp
entry_cmp_total = then_total (on_total (λ (e : Bor (List ℕ) × ℕ). e.0.now) nat_list_cmp_total) (on_total (λ (e : Bor (List ℕ) × ℕ). e.1) nat_cmp_total)

first_not_less : (a b : Ordering) → is_lt (ordering_then a b) ≡ false → is_lt a ≡ false
first_not_less Less b h = h
first_not_less Equal b h = refl
first_not_less Greater b h = refl

second_not_less : (a b : Ordering) → is_eq a ≡ true → is_lt (ordering_then a b) ≡ false → is_lt b ≡ false
second_not_less Less b e h = absurd (true≢false (sym e))
second_not_less Equal b e h = h
second_not_less Greater b e h = absurd (true≢false (sym e))

pub order_from_sort : (names : List (List ℕ)) (old new : List (Bor (List ℕ) × ℕ)) → length old ≡ length names
    → ((k : ℕ) (d : Bor (List ℕ) × ℕ) → k < length names → ((get_or old k d).0.now ≡ get_or names k []) × ((get_or old k d).1 ≡ k))
    → IsPermutation old new → IsSorted entry_cmp new → IsOrderOf names (map (λ e. e.1) new)
order_from_sort names old new all seen permuted sorted =
    let none : Bor (List ℕ) × ℕ = (record { ref_ptr = (0, 0); now = [] }, 0) in
    let position_in : (i : ℕ) → i < length new → get_or (map (λ e. e.1) new) i 0 ≡ (get_or new i none).1 = λ i h. get_or-map (λ e. e.1) new i none 0 h in
    let kept = All-permutation (λ (e : Bor (List ℕ) × ℕ). (e.1 < length names) × (e.0.now ≡ get_or names e.1 [])) old new permuted
    (λ k d h. let s = seen k d (omega arith) in (omega (arith, s.1), s.0 ∙ ap (λ n. get_or names n []) (sym s.1))) in
    let name_is : (i : ℕ) → i < length new → name_in names (map (λ e. e.1) new) i ≡ (get_or new i none).0.now =
    λ i h. ap (λ n. get_or names n []) (position_in i h) ∙ sym (kept i none h).1 in
    let count : length (map (λ (e : Bor (List ℕ) × ℕ). e.1) new) ≡ length new = length-map new (λ (e : Bor (List ℕ) × ℕ). e.1) in
    let rises : (i j : ℕ) → i ≤ j → j < length new → is_lt (entry_cmp (get_or new j none) (get_or new i none)) ≡ false =
    λ i j up h. sorted_far (λ x y. is_lt (entry_cmp x y)) (ranks_by entry_cmp_total (λ x. x)) new sorted i j none up h in
    record {
      within = λ i h. let k = (kept i none (omega arith)).0 in omega (arith, position_in i (omega arith));
      complete = λ k h.
          let e = get_or old k none in
          let at = Contains-permutation old new e permuted (k, omega arith, get_or_default old k e none (omega arith)) in
          list_any_at (λ position. position == k) (map (λ e. e.1) new) at.0 0 (omega (arith, at.1))
          (eq-eqb (get_or (map (λ e. e.1) new) at.0 0) k (position_in at.0 at.1 ∙ ap (λ (e : Bor (List ℕ) × ℕ). e.1) (get_or_default new at.0 none e at.1 ∙ at.2) ∙ (seen k none h).1));
      rising = λ i j up h.
          ap (λ n. is_before n (name_in names (map (λ e. e.1) new) i)) (name_is j (omega arith)) ∙ ap (λ n. is_before (get_or new j none).0.now n) (name_is i (omega arith))
          ∙ first_not_less (slice_cmp nat_cmp (get_or new j none).0.now (get_or new i none).0.now) (nat_cmp (get_or new j none).1 (get_or new i none).1) (rises i j up (omega arith));
      ties = λ i j up h same.
          let names_same = sym (name_is j (omega arith)) ∙ sym same ∙ name_is i (omega arith) in
          let tie = is_eq-slice_cmp (get_or new j none).0.now (get_or new i none).0.now ∙ (bytes_eq-Decides (get_or new j none).0.now (get_or new i none).0.now).1 names_same in
          let up_too = ge_from_not_lt (get_or new j none).1 (get_or new i none).1
          (second_not_less (slice_cmp nat_cmp (get_or new j none).0.now (get_or new i none).0.now) (nat_cmp (get_or new j none).1 (get_or new i none).1) tie (rises i j up (omega arith))) in
          omega (arith, position_in i (omega arith), position_in j (omega arith), up_too);
    }

pub order_if_ok : {E : Type 0} (r : Result (Vec ℕ Global) E) (all : List ℕ) (names : List (List ℕ)) → IfOk r (λ w. w.items ≡ all) → IsOrderOf names all → IfOk r (λ w. IsOrderOf names w.items)
order_if_ok (Ok w) all names is in_order = let P : List ℕ → Type 0 = IsOrderOf names in subst P (sym is) in_order
order_if_ok (Err e) all names is in_order = tt
