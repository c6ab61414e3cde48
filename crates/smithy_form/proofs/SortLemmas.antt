-- Sorted pairs: which numbers are told, and that the names that differ are found as before.
use Rattle.std.proofs.Common.{◌≡◌, ◌≢◌, ◌<◌, ◌≤◌, ◌-◌, ℕ, suc, nat_lt, List, [], ◌∷◌, length, drop, map as mapped, Bool, true, false, Option, Some, None, refl, sym, ◌∙◌, ap, subst, ◌⊎◌, inl, inr, arith}
use Rattle.std.specs.Prelude.{bytes_eq}
use Rattle.std.specs.declared.cmp.Ordering.{Ordering}
use Rattle.std.specs.declared.cmp.Ordering.TheVariants.{Less, Equal, Greater}
use Rattle.std.specs.Cmp.{IsTotalOrder}
use Rattle.std.specs.List.{AllPairs, IsDistinct, slice_split, join_with_byte}
use Rattle.std.specs.List.Sorted.{IsPermutation, IsSortedBy}
use Rattle.std.specs.Ordering.{nat_cmp, ordering_then, ordering_reverse, is_lt}
use Rattle.std.proofs.lemmas.Bool.{cases_order}
use Rattle.std.proofs.lemmas.Bool.Decides.{nat_tests}
use Rattle.std.proofs.lemmas.Cmp.{on_total, then_total, nat_cmp_total, tied_itself}
use Rattle.std.proofs.lemmas.List.Elements.{recursion_from_All}
use Rattle.std.proofs.lemmas.List.Sorted.{ranks_by, sorted_far, IsPermutation-sym}
use Rattle.std.proofs.lemmas.List.Splits.{join_with_byte-slice_split}
use Rattle.std.proofs.lemmas.Map.Keys.{IsDistinct-IsPermutation}
use Rattle.std.proofs.lemmas.Slice.Eq.{bytes_eq-Decides}
use Rattle.smithy_declarations.specs.Names.{named}
use Rattle.smithy_query_codec.specs.Leaves.{Path}
use Rattle.smithy_query_codec.proofs.PairLemmas.{Pairwise, each_weaker, pairwise_map}
use Rattle.smithy_query_codec.proofs.PathTexts.{is_point}
use Rattle.smithy_form.specs.declared.pairs.Pair.{Pair}
use Rattle.smithy_form.specs.Forms.{first_repeated}
use Rattle.smithy_form.specs.Pairs.{NamedText}
use Rattle.smithy_form.specs.Private.Names.{segment_cmp, rest_path, leaves_from}
use Rattle.smithy_form.specs.Private.Kept.{named_text}
use Rattle.smithy_form.specs.Private.Order.{path_cmp, name_cmp, pair_cmp, lesser, with_repeat, least_repeated, IsBefore, LeavesAscend, AreNumbered}
use Rattle.smithy_form.proofs.Segments.{same_segment}
use Rattle.smithy_form.proofs.OrderLemmas.{path_total}
use Rattle.smithy_form.proofs.RepeatLemmas.{Among, at_among, among_moved, name_of, Repeats, IsLeastRepeat, least_is_one, least_moved, one_of_number, same_number, numbers_distinct, first_is_least}

-- ---- the order of pairs

name_total : IsTotalOrder name_cmp
name_total = on_total (slice_split is_point) path_total

pub pair_total : IsTotalOrder pair_cmp
pair_total = then_total (on_total name_of name_total) (on_total (λ (p : Pair). p.number) nat_cmp_total)

pairwise_of : {X : Type 0} (R : X → X → Type 0) (xs : List X) → AllPairs R xs → Pairwise R xs
pairwise_of R [] h = tt
pairwise_of R (x ∷ xs) h =
    (recursion_from_All (R x) xs (λ k d within. h 0 (suc k) d (omega arith) (omega (arith, within))), pairwise_of R xs (λ i j d less within. h (suc i) (suc j) d (omega (arith, less)) (omega (arith, within))))

-- the second isn't before the first
abbrev pub NotBehind : Pair → Pair → Type 0
NotBehind p q = is_lt (pair_cmp q p) ≡ false

pub sorted_pairs : (ps : List Pair) → IsSortedBy (λ p q. is_lt (pair_cmp p q)) ps → Pairwise NotBehind ps
sorted_pairs ps up =
    pairwise_of NotBehind ps (λ i j d less within. sorted_far (λ p q. is_lt (pair_cmp p q)) (ranks_by pair_total (λ (p : Pair). p)) ps up i j d (omega (arith, less)) within)

-- ---- equal names

same_paths : (p q : Path) → path_cmp p q ≡ Equal → p ≡ q
same_paths [] [] h = refl
same_paths [] (t ∷ q) h = cc
same_paths (s ∷ p) [] h = cc
same_paths (s ∷ p) (t ∷ q) h = by (segment_cmp s t) refl h (λ k. same_paths p q k)
  where
    by : (o : Ordering) → segment_cmp s t ≡ o → ordering_then o (path_cmp p q) ≡ Equal → (path_cmp p q ≡ Equal → p ≡ q) → s ∷ p ≡ t ∷ q
    by Less is h again = cc
    by Equal is h again = rw (same_segment s t is, again h) refl
    by Greater is h again = cc

pub same_names : (a b : List ℕ) → slice_split is_point a ≡ slice_split is_point b → a ≡ b
same_names a b same = sym (join_with_byte-slice_split 46 a) ∙ ap (join_with_byte 46) same ∙ join_with_byte-slice_split 46 b

-- the order of the names of two pairs in turn
module _ (p q : Pair) where
  pub name_order : NotBehind p q → is_lt (name_cmp (name_of q) (name_of p)) ≡ false
  name_order h = by (name_cmp (name_of q) (name_of p)) (nat_cmp q.number p.number) h
    where
      by : (a b : Ordering) → is_lt (ordering_then a b) ≡ false → is_lt a ≡ false
      by Less b h = h
      by Equal b h = refl
      by Greater b h = refl

  -- of two pairs of one name, the second hasn't the lesser number
  pub number_order : NotBehind p q → name_of p ≡ name_of q → p.number ≤ q.number
  number_order h same =
      let tie : name_cmp (name_of q) (name_of p) ≡ Equal = ap (name_cmp (name_of q)) same ∙ tied_itself name_total (name_of q) in
      let less : is_lt (nat_cmp q.number p.number) ≡ false = sym (ap (λ o. is_lt (ordering_then o (nat_cmp q.number p.number))) tie) ∙ h in
      by (nat_lt q.number p.number) refl less
    where
      by : (b : Bool) → nat_lt q.number p.number ≡ b → is_lt (nat_cmp q.number p.number) ≡ false → p.number ≤ q.number
      by true is h = absurd (let no : true ≡ false = sym (rw is refl) ∙ h in cc)
      by false is h = grind (arith, nat_tests)

-- names of which neither is before the other
level : (a b : List ℕ) → is_lt (name_cmp a b) ≡ false → is_lt (name_cmp b a) ≡ false → a ≡ b
level a b h k = same_names a b (same_paths (slice_split is_point a) (slice_split is_point b) (by (name_cmp a b) refl h))
  where
    by : (o : Ordering) → name_cmp a b ≡ o → is_lt o ≡ false → name_cmp a b ≡ Equal
    by Less is h = cc
    by Equal is h = is
    by Greater is h = absurd (let no : false ≡ true = sym k ∙ ap is_lt (name_total.antisymm b a ∙ ap ordering_reverse is) in cc)

-- ---- the least number, among sorted pairs

pub none_at_end : (ps : List Pair) → None ≡ least_repeated (drop (length ps - 1) ps)
none_at_end [] = refl
none_at_end (p ∷ []) = refl
none_at_end (p ∷ q ∷ ps) =
    let one : suc (length ps) - 1 ≡ length ps = omega arith in
    let two : suc (suc (length ps)) - 1 ≡ suc (length ps) = omega arith in
    none_at_end (q ∷ ps) ∙ ap (λ n. least_repeated (drop n (q ∷ ps))) one ∙ sym (ap (λ n. least_repeated (drop n (p ∷ q ∷ ps))) two)

lesser_is : (least : Option ℕ) (n : ℕ) → (lesser least n ≤ n) × (((m : ℕ) → least ≡ Some m → lesser least n ≤ m) × ((lesser least n ≡ n) ⊎ (least ≡ Some (lesser least n))))
lesser_is None n = (omega arith, ((λ m is. let no : None ≡ Some m = is in cc), inl refl))
lesser_is (Some k) n = by (nat_lt k n) refl
  where
    by : (b : Bool) → nat_lt k n ≡ b → (lesser (Some k) n ≤ n) × (((m : ℕ) → Some k ≡ Some m → lesser (Some k) n ≤ m) × ((lesser (Some k) n ≡ n) ⊎ (Some k ≡ Some (lesser (Some k) n))))
    by true is =
        let below : k < n = grind (arith, nat_tests) in
        rw is (omega (arith, below), ((λ m same. let at : k ≡ m = cc in omega (arith, at)), inr refl))
    by false is =
        let above : n ≤ k = grind (arith, nat_tests) in
        rw is (omega arith, ((λ m same. let at : k ≡ m = cc in omega (arith, at, above)), inl refl))

-- a pair that repeats another does so behind the first, or it has the name of the first two
repeat_behind : (p q : Pair) (ps : List Pair) → Pairwise NotBehind (p ∷ q ∷ ps) → (x y : Pair) → Among x (p ∷ q ∷ ps) → Among y (p ∷ q ∷ ps) → Repeats x y
    → (Among x (q ∷ ps) × Among y (q ∷ ps)) ⊎ ((name_of p ≡ name_of q) × (q.number ≤ y.number))
repeat_behind p q ps ascend x y (inl hx) (inl hy) rep = absurd (omega (arith, rep.later, ap (λ (z : Pair). z.number) hx, ap (λ (z : Pair). z.number) hy))
repeat_behind p q ps ascend x y (inr hx) (inl hy) rep =
    let behind : NotBehind p x = at_among (NotBehind p) (q ∷ ps) x ascend.0 hx in
    absurd (omega (arith, number_order p x behind (sym (rep.same ∙ ap name_of hy)), rep.later, ap (λ (z : Pair). z.number) hy))
repeat_behind p q ps ascend x y (inl hx) (inr (inl hy)) rep =
    inr (sym (ap name_of hx) ∙ rep.same ∙ ap name_of hy, omega (arith, ap (λ (z : Pair). z.number) hy))
repeat_behind p q ps ascend x y (inl hx) (inr (inr hy)) rep =
    let behind : NotBehind q y = at_among (NotBehind q) ps y ascend.1.0 hy in
    let one : name_of p ≡ name_of y = sym (ap name_of hx) ∙ rep.same in
    let upper : is_lt (name_cmp (name_of p) (name_of q)) ≡ false = ap (λ n. is_lt (name_cmp n (name_of q))) one ∙ name_order q y behind in
    let same : name_of p ≡ name_of q = level (name_of p) (name_of q) upper (name_order p q ascend.0.0) in
    inr (same, number_order q y behind (sym same ∙ one))
repeat_behind p q ps ascend x y (inr hx) (inr hy) rep = inl (hx, hy)

with_first : (p q : Pair) (ps : List Pair) → Pairwise NotBehind (p ∷ q ∷ ps) → same_number p q ≡ false → (r : Option ℕ) → IsLeastRepeat (q ∷ ps) r → IsLeastRepeat (p ∷ q ∷ ps) (with_repeat p q r)
with_first p q ps ascend apart r again = by (bytes_eq (name_of p) (name_of q)) refl
  where
    lifted : (s : Option ℕ) (n : ℕ) → s ≡ Some n → IsLeastRepeat (q ∷ ps) s
        → (x : Pair) × (y : Pair) × Among x (p ∷ q ∷ ps) × Among y (p ∷ q ∷ ps) × Repeats x y × (y.number ≡ n)
    lifted None n is h = absurd (let no : None ≡ Some n = is in cc)
    lifted (Some m) n is h = let one = h.0 in let at : m ≡ n = cc in (one.0, one.1, inr one.2, inr one.3, one.4, one.5 ∙ at)

    bounded : (s : Option ℕ) → IsLeastRepeat (q ∷ ps) s → (x y : Pair) → Among x (q ∷ ps) → Among y (q ∷ ps) → Repeats x y → lesser s q.number ≤ y.number
    bounded None h x y hx hy rep = absurd (h x y hx hy rep)
    bounded (Some m) h x y hx hy rep = omega (arith, (lesser_is (Some m) q.number).1.0 m refl, h.1 x y hx hy rep)

    apart_only : (s : Option ℕ) → (name_of p ≡ name_of q → ⊥) → IsLeastRepeat (q ∷ ps) s
        → ((x y : Pair) → Among x (p ∷ q ∷ ps) → Among y (p ∷ q ∷ ps) → Repeats x y → (Among x (q ∷ ps) × Among y (q ∷ ps)) ⊎ ((name_of p ≡ name_of q) × (q.number ≤ y.number)))
        → IsLeastRepeat (p ∷ q ∷ ps) s
    apart_only None other h split = λ x y hx hy rep. elim (split x y hx hy rep) [ inl both ↦ h x y both.0 both.1 rep | inr same ↦ other same.0 ]
    apart_only (Some m) other h split =
        let one = h.0 in
        ((one.0, one.1, inr one.2, inr one.3, one.4, one.5), λ x y hx hy rep. elim (split x y hx hy rep) [ inl both ↦ h.1 x y both.0 both.1 rep | inr same ↦ absurd (other same.0) ])

    by : (b : Bool) → bytes_eq (name_of p) (name_of q) ≡ b → IsLeastRepeat (p ∷ q ∷ ps) (with_repeat p q r)
    by true is =
        let same = (bytes_eq-Decides (name_of p) (name_of q)).0 is in
        let least = lesser_is r q.number in
        rw is (some same least.1.1, λ x y hx hy rep. bound x y (repeat_behind p q ps ascend x y hx hy rep) rep)
      where
        some : name_of p ≡ name_of q → (lesser r q.number ≡ q.number) ⊎ (r ≡ Some (lesser r q.number))
            → (x : Pair) × (y : Pair) × Among x (p ∷ q ∷ ps) × Among y (p ∷ q ∷ ps) × Repeats x y × (y.number ≡ lesser r q.number)
        some same (inl at) =
            let upto = number_order p q ascend.0.0 same in
            let less : p.number < q.number = grind (arith, nat_tests) in
            (p, q, inl refl, inr (inl refl), record { same = same; later = less }, sym at)
        some same (inr at) = lifted r (lesser r q.number) at again

        bound : (x y : Pair) → (Among x (q ∷ ps) × Among y (q ∷ ps)) ⊎ ((name_of p ≡ name_of q) × (q.number ≤ y.number)) → Repeats x y → lesser r q.number ≤ y.number
        bound x y (inl both) rep = bounded r again x y both.0 both.1 rep
        bound x y (inr same) rep = omega (arith, (lesser_is r q.number).0, same.1)
    by false is =
        rw is (apart_only r (λ same. let no : true ≡ false = sym ((bytes_eq-Decides (name_of p) (name_of q)).1 same) ∙ is in cc) again (λ x y hx hy rep. repeat_behind p q ps ascend x y hx hy rep))

sorted_is_least : (ps : List Pair) → Pairwise NotBehind ps → IsDistinct same_number ps → IsLeastRepeat ps (least_repeated ps)
unfolding IsDistinct
sorted_is_least [] ascend apart = λ x y hx hy rep. hx
sorted_is_least (p ∷ []) ascend apart = λ x y hx hy rep. one x y hx hy rep
  where
    one : (x y : Pair) → Among x (p ∷ []) → Among y (p ∷ []) → Repeats x y → ⊥
    one x y (inl hx) (inl hy) rep = omega (arith, rep.later, ap (λ (z : Pair). z.number) hx, ap (λ (z : Pair). z.number) hy)
    one x y (inl hx) (inr hy) rep = hy
    one x y (inr hx) hy rep = hx
sorted_is_least (p ∷ q ∷ ps) ascend apart = with_first p q ps ascend apart.0.0 (least_repeated (q ∷ ps)) (sorted_is_least (q ∷ ps) ascend.1 apart.1)

flips : (p q : Pair) → same_number p q ≡ same_number q p
flips p q = grind (arith, nat_tests)

-- sorting tells the number of the first pair whose name came before
pub sorting_tells : (old new : List Pair) → AreNumbered 3 old → IsPermutation old new → Pairwise NotBehind new
    → first_repeated [] 3 (mapped named_text old) ≡ least_repeated new
sorting_tells old new numbered moved ascend =
    least_is_one old (first_repeated [] 3 (mapped named_text old)) (least_repeated new) (first_is_least 3 old numbered)
    (least_moved old new moved (least_repeated new)
    (sorted_is_least new ascend (IsDistinct-IsPermutation same_number flips old new moved (numbers_distinct 3 old numbered))))

-- ---- where no name is repeated

abbrev NamesBefore : Pair → Pair → Type 0
NamesBefore p q = name_cmp (name_of p) (name_of q) ≡ Less

pub names_ascend : (ps : List Pair) → Pairwise NotBehind ps → least_repeated ps ≡ None → Pairwise NamesBefore ps
names_ascend [] ascend none = tt
names_ascend (p ∷ []) ascend none = (tt, tt)
names_ascend (p ∷ q ∷ ps) ascend none = by (bytes_eq (name_of p) (name_of q)) refl none (λ h. names_ascend (q ∷ ps) ascend.1 h)
  where
    below : name_of p ≢ name_of q → (o : Ordering) → name_cmp (name_of p) (name_of q) ≡ o → NamesBefore p q
    below other Less is = is
    below other Equal is = absurd (other (same_names (name_of p) (name_of q) (same_paths (slice_split is_point (name_of p)) (slice_split is_point (name_of q)) is)))
    below other Greater is =
        absurd (let no : false ≡ true = sym (name_order p q ascend.0.0) ∙ ap is_lt (name_total.antisymm (name_of q) (name_of p) ∙ ap ordering_reverse is) in cc)

    by : (b : Bool) → bytes_eq (name_of p) (name_of q) ≡ b → with_repeat p q (least_repeated (q ∷ ps)) ≡ None → (least_repeated (q ∷ ps) ≡ None → Pairwise NamesBefore (q ∷ ps)) → Pairwise NamesBefore (p ∷ q ∷ ps)
    by true is none again = absurd (let no : Some (lesser (least_repeated (q ∷ ps)) q.number) ≡ None = sym (rw is refl) ∙ none in cc)
    by false is none again =
        let more = again (sym (rw is refl) ∙ none) in
        let first = below (λ same. let no : true ≡ false = sym ((bytes_eq-Decides (name_of p) (name_of q)).1 same) ∙ is in cc) (name_cmp (name_of p) (name_of q)) refl in
        ((first, each_weaker (NamesBefore q) (NamesBefore p) (λ x h. name_total.trans (name_of p) (name_of q) (name_of x) first h) ps more.0), more)

whole_path : (name : List ℕ) → rest_path 0 name ≡ slice_split is_point name
whole_path name = let lt : nat_lt (length name) 0 ≡ false = grind (arith, nat_tests) in rw lt refl

pub pairs_ascend : (ps : List Pair) → Pairwise NamesBefore ps → LeavesAscend (leaves_from 0 (mapped named_text ps))
pairs_ascend ps ascend =
    pairwise_map Texts IsBefore (λ (p : NamedText). record { path = rest_path 0 p.0; text = p.1 }) (λ p q h. rw (whole_path p.0, whole_path q.0) h) (mapped named_text ps)
    (pairwise_map NamesBefore Texts named_text (λ p q h. h) ps ascend)
  where
    Texts : NamedText → NamedText → Type 0
    Texts p q = name_cmp p.0 q.0 ≡ Less

-- what a name means among pairs: nothing, or the text of a pair of this name
abbrev Finds : List Pair → List ℕ → Type 0
Finds ps name =
    ((named (mapped named_text ps) name ≡ None) × ((p : Pair) → Among p ps → name ≢ name_of p))
    ⊎ ((p : Pair) × Among p ps × (name ≡ name_of p) × (named (mapped named_text ps) name ≡ Some (named_text p).1))

finds : (ps : List Pair) (name : List ℕ) → Finds ps name
finds [] name = inl (refl, λ p h same. h)
finds (x ∷ ps) name = by (bytes_eq name (name_of x)) refl (finds ps name)
  where
    by : (b : Bool) → bytes_eq name (name_of x) ≡ b → Finds ps name → Finds (x ∷ ps) name
    by true is again = inr (x, inl refl, (bytes_eq-Decides name (name_of x)).0 is, rw is refl)
    by false is (inr some) = inr (some.0, inr some.1, some.2, rw is some.3)
    by false is (inl none) = inl (rw is none.0, λ p h same. other p h same)
      where
        other : (p : Pair) → (p ≡ x) ⊎ Among p ps → name ≡ name_of p → ⊥
        other p (inl at) same = let no : true ≡ false = sym ((bytes_eq-Decides name (name_of x)).1 (same ∙ ap name_of at)) ∙ is in cc
        other p (inr more) same = none.1 p more same

-- where no name comes twice, each finds what it found before
pub names_kept : (old new : List Pair) → AreNumbered 3 old → IsPermutation old new → first_repeated [] 3 (mapped named_text old) ≡ None
    → (name : List ℕ) → named (mapped named_text new) name ≡ named (mapped named_text old) name
names_kept old new numbered moved none name = by (finds new name) (finds old name)
  where
    back : (p : Pair) → Among p new → Among p old
    back p h = among_moved new old (IsPermutation-sym old new moved) p h

    one : (p q : Pair) → Among p old → Among q old → name_of p ≡ name_of q → p ≡ q
    one p q hp hq same =
        let apart : IsLeastRepeat old None = subst (IsLeastRepeat old) none (first_is_least 3 old numbered) in
        let upper : p.number < q.number → ⊥ = λ less. apart p q hp hq (record { same = same; later = less }) in
        let lower : q.number < p.number → ⊥ = λ less. apart q p hq hp (record { same = sym same; later = less }) in
        one_of_number 3 old numbered p q hp hq (by_order (cases_order p.number q.number) upper lower)
      where
        by_order : {m n : ℕ} → (m ≡ n) ⊎ ((m < n) ⊎ (n < m)) → (m < n → ⊥) → (n < m → ⊥) → m ≡ n
        by_order (inl same) upper lower = same
        by_order (inr (inl less)) upper lower = absurd (upper less)
        by_order (inr (inr more)) upper lower = absurd (lower more)

    by : Finds new name → Finds old name → named (mapped named_text new) name ≡ named (mapped named_text old) name
    by (inl left) (inl right) = left.0 ∙ sym right.0
    by (inl left) (inr right) = absurd (left.1 right.0 (among_moved old new moved right.0 right.1) right.2)
    by (inr left) (inl right) = absurd (right.1 left.0 (back left.0 left.1) left.2)
    by (inr left) (inr right) =
        let same = one left.0 right.0 (back left.0 left.1) right.1 (sym left.2 ∙ right.2) in
        left.3 ∙ ap (λ (p : Pair). Some (named_text p).1) same ∙ sym right.3
