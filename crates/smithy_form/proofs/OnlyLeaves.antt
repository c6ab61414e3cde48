-- Leaves of which no two have one path.
use Rattle.std.proofs.Common.{◌≡◌, ◌≢◌, ℕ, List, [], ◌∷◌, Bool, true, false, Some, None, refl, sym, ◌∙◌, ap, subst}
use Rattle.std.specs.Prelude.{bytes_eq}
use Rattle.std.specs.List.{AllByRecursion}
use Rattle.std.proofs.lemmas.Slice.Eq.{bytes_eq-Decides}
use Rattle.smithy_query_codec.specs.Leaves.{Path, Leaf, leaf}
use Rattle.smithy_query_codec.proofs.DistinctLemmas.{Differ}
use Rattle.smithy_query_codec.proofs.PairLemmas.{Pairwise}
use Rattle.smithy_form.specs.Lookup.{inside, text_at, AreSame}
use Rattle.smithy_form.proofs.LookupLemmas.{nothing_at}
use Rattle.smithy_form.proofs.JoinedPaths.{first_found}

-- where a list of leaves is one text without a path, it has no other leaf
pub only_one : (ls : List Leaf) (t : List ℕ) → Pairwise Differ ls → AreSame ls (leaf t ∷ []) → ls ≡ leaf t ∷ []
only_one [] t apart same = absurd (let e : None ≡ Some t = same [] in cc)
only_one (l ∷ ls) t apart same = by l.path refl ls refl
  where
    no_path : (s : List ℕ) (p : Path) (u : List ℕ) (more : List Leaf) → text_at (s ∷ p) (record { path = s ∷ p; text = u } ∷ more) ≡ text_at (s ∷ p) (leaf t ∷ []) → ⊥
    no_path s p u more h = let e : Some u ≡ None = sym (first_found (s ∷ p) u more) ∙ h ∙ nothing_at p in cc

    by : (p : Path) → l.path ≡ p → (more : List Leaf) → ls ≡ more → l ∷ ls ≡ leaf t ∷ []
    by (s ∷ p) is more rest =
        absurd (no_path s p l.text ls (subst (λ (q : Path). text_at (s ∷ p) (record { path = q; text = l.text } ∷ ls) ≡ text_at (s ∷ p) (leaf t ∷ [])) is (same (s ∷ p))))
    by [] is [] rest =
        let here : Some l.text ≡ Some t = subst (λ (q : Path). text_at [] (record { path = q; text = l.text } ∷ ls) ≡ Some t) is (same []) in
        let text : l.text ≡ t = cc in
        let first : l ≡ leaf t = ap {B = Leaf} (λ (q : Path). record { path = q; text = l.text }) is ∙ ap {B = Leaf} leaf text in rw (rest, first) refl
    by [] is (m ∷ more) rest = absurd (second m.path refl)
      where
        second : (p : Path) → m.path ≡ p → ⊥
        second [] at =
            let first : AllByRecursion (Differ l) (m ∷ more) = subst (AllByRecursion (Differ l)) rest apart.0 in
            first.0 (is ∙ sym at)
        second (s ∷ p) at =
            let whole : text_at (s ∷ p) (record { path = []; text = l.text } ∷ record { path = s ∷ p; text = m.text } ∷ more) ≡ text_at (s ∷ p) (leaf t ∷ []) =
            subst (λ (q : Path). text_at (s ∷ p) (record { path = []; text = l.text } ∷ record { path = q; text = m.text } ∷ more) ≡ text_at (s ∷ p) (leaf t ∷ [])) at
            (subst (λ (q : Path). text_at (s ∷ p) (record { path = q; text = l.text } ∷ m ∷ more) ≡ text_at (s ∷ p) (leaf t ∷ [])) is
            (subst (λ (xs : List Leaf). text_at (s ∷ p) (l ∷ xs) ≡ text_at (s ∷ p) (leaf t ∷ [])) rest (same (s ∷ p)))) in
            no_path s p m.text more whole

-- the leaves inside of a segment differ too
pub inside_distinct : (s : List ℕ) (ls : List Leaf) → Pairwise Differ ls → Pairwise Differ (inside s ls)
inside_distinct s [] apart = tt
inside_distinct s (l ∷ ls) apart = by l.path refl (inside_distinct s ls apart.1)
  where
    against : (p : Path) (xs : List Leaf) → AllByRecursion (λ (m : Leaf). s ∷ p ≢ m.path) xs → AllByRecursion (λ (m : Leaf). p ≢ m.path) (inside s xs)
    against p [] h = tt
    against p (x ∷ xs) h = one x.path refl (against p xs h.1)
      where
        one : (q : Path) → x.path ≡ q → AllByRecursion (λ (m : Leaf). p ≢ m.path) (inside s xs) → AllByRecursion (λ (m : Leaf). p ≢ m.path) (inside s (record { path = q; text = x.text } ∷ xs))
        one [] is again = again
        one (u ∷ q) is again = either (bytes_eq s u) refl
          where
            either : (b : Bool) → bytes_eq s u ≡ b → AllByRecursion (λ (m : Leaf). p ≢ m.path) (inside s (record { path = u ∷ q; text = x.text } ∷ xs))
            either true same = let at = (bytes_eq-Decides s u).0 same in rw same ((λ e. h.0 (rw (at, e) (sym is))), again)
            either false same = rw same again

    by : (p : Path) → l.path ≡ p → Pairwise Differ (inside s ls) → Pairwise Differ (inside s (record { path = p; text = l.text } ∷ ls))
    by [] is again = again
    by (u ∷ p) is again = either (bytes_eq s u) refl
      where
        either : (b : Bool) → bytes_eq s u ≡ b → Pairwise Differ (inside s (record { path = u ∷ p; text = l.text } ∷ ls))
        either true same =
            let at = (bytes_eq-Decides s u).0 same in
            rw same (against p ls (subst (λ (q : Path). AllByRecursion (λ (m : Leaf). q ≢ m.path) ls) (is ∙ ap (λ x. x ∷ p) (sym at)) apart.0), again)
        either false same = rw same again
