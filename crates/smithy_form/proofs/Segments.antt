-- The pairs with a segment, among pairs whose names are sorted: what stands before, in the middle and behind.
use Rattle.std.proofs.Common.{◌≡◌, ◌≢◌, ◌<◌, ◌≤◌, ◌+◌, ◌==◌, ℕ, suc, List, [], ◌∷◌, ◌++◌, length, drop, Bool, true, false, nat_lt, refl, sym, ◌∙◌, ap, arith, ◌⊎◌, inl, inr}
use Rattle.std.specs.declared.cmp.Ordering.{Ordering}
use Rattle.std.specs.declared.cmp.Ordering.TheVariants.{Less, Equal, Greater}
use Rattle.std.specs.Ordering.{nat_cmp, ordering_then, is_eq}
use Rattle.std.specs.Cmp.Lexicographic.{slice_cmp}
use Rattle.std.specs.List.{AllByRecursion, slice_split}
use Rattle.std.proofs.lemmas.Bool.Decides.{nat_tests}
use Rattle.std.proofs.lemmas.List.{drop-drop, length-drop, length-append}
use Rattle.std.proofs.Math.Seq.{drop-append-add}
use Rattle.std.proofs.lemmas.Map.Text.{is_eq-slice_cmp}
use Rattle.std.proofs.lemmas.Slice.Eq.{bytes_eq-Decides}
use Rattle.smithy_query_codec.specs.Leaves.{Path}
use Rattle.smithy_query_codec.proofs.PathTexts.{is_point}
use Rattle.smithy_form.specs.Lookup.{inside}
use Rattle.smithy_form.specs.Pairs.{NamedText}
use Rattle.smithy_form.specs.Private.Names.{segment_cmp, rest_path, leaves_from}
use Rattle.smithy_form.proofs.LookupLemmas.{same_text, other_text}

-- ---- a text, cut at its first point

pub record IsCutAt (xs s : List ℕ) (more : Path) : Type 0 where
  pub is : slice_split is_point xs ≡ s ∷ more
  pub rest : ((xs ≡ s) × (more ≡ [])) ⊎ ((ys : List ℕ) × (xs ≡ s ++ 46 ∷ ys) × (more ≡ slice_split is_point ys))

pub first_cut : (xs : List ℕ) → (s : List ℕ) × (more : Path) × IsCutAt xs s more
first_cut [] = ([], [], record { is = refl; rest = inl (refl, refl) })
first_cut (x ∷ xs) = by (x == 46) refl (first_cut xs)
  where
    by : (b : Bool) → (x == 46) ≡ b → (s : List ℕ) × (more : Path) × IsCutAt xs s more → (s : List ℕ) × (more : Path) × IsCutAt (x ∷ xs) s more
    by true at cut =
        let point : x ≡ 46 = grind (arith, nat_tests) in
        ([], slice_split is_point xs, record { is = rw at refl; rest = inr (xs, ap (λ b. b ∷ xs) point, refl) })
    by false at cut = (x ∷ cut.0, cut.1, record { is = rw (at, cut.2.is) refl; rest = longer cut.2.rest })
      where
        longer : ((xs ≡ cut.0) × (cut.1 ≡ [])) ⊎ ((ys : List ℕ) × (xs ≡ cut.0 ++ 46 ∷ ys) × (cut.1 ≡ slice_split is_point ys))
            → ((x ∷ xs ≡ x ∷ cut.0) × (cut.1 ≡ [])) ⊎ ((ys : List ℕ) × (x ∷ xs ≡ (x ∷ cut.0) ++ 46 ∷ ys) × (cut.1 ≡ slice_split is_point ys))
        longer (inl whole) = inl (ap (λ r. x ∷ r) whole.0, whole.1)
        longer (inr part) = inr (part.0, ap (λ r. x ∷ r) part.1, part.2)

-- ---- equal segments

pub same_segment : (s t : List ℕ) → segment_cmp s t ≡ Equal → s ≡ t
same_segment s t h = (bytes_eq-Decides s t).0 (sym (is_eq-slice_cmp s t) ∙ ap is_eq (last (nat_cmp (length s) (length t)) (slice_cmp nat_cmp s t) h))
  where
    last : (a b : Ordering) → ordering_then a b ≡ Equal → b ≡ Equal
    last Equal b h = h
    last Less b h = cc
    last Greater b h = cc

-- ---- parts of a list

-- none of them begins with the segment
pub none_with : (at : ℕ) (s : List ℕ) (pairs : List NamedText) → AllByRecursion (λ (p : NamedText). (more : Path) → rest_path at p.0 ≢ s ∷ more) pairs → inside s (leaves_from at pairs) ≡ []
none_with at s [] h = refl
none_with at s (p ∷ pairs) h = by (rest_path at p.0) refl (none_with at s pairs h.1)
  where
    by : (path : Path) → rest_path at p.0 ≡ path → inside s (leaves_from at pairs) ≡ [] → inside s (record { path = path; text = p.1 } ∷ leaves_from at pairs) ≡ []
    by [] is again = again
    by (t ∷ path) is again = rw (other_text s t (λ e. h.0 path (is ∙ ap (λ x. x ∷ path) (sym e)))) again

-- each begins with it, and goes on so
pub all_with : (at next : ℕ) (s : List ℕ) (pairs : List NamedText) → AllByRecursion (λ (p : NamedText). rest_path at p.0 ≡ s ∷ rest_path next p.0) pairs
    → inside s (leaves_from at pairs) ≡ leaves_from next pairs
all_with at next s [] h = refl
all_with at next s (p ∷ pairs) h = rw (h.0, same_text s, all_with at next s pairs h.1) refl

-- ---- what follows a segment

pub goes_on : (at : ℕ) (name s : List ℕ) (more : Path) → rest_path at name ≡ s ∷ more → more ≡ rest_path (at + suc (length s)) name
goes_on at name s more is = by (nat_lt (length name) at) refl is
  where
    next : ℕ
    next = at + suc (length s)

    ended : length name < next → rest_path next name ≡ []
    ended short = let lt : nat_lt (length name) next ≡ true = grind (arith, nat_tests) in rw lt refl

    going : next ≤ length name → rest_path next name ≡ slice_split is_point (drop next name)
    going long = let lt : nat_lt (length name) next ≡ false = grind (arith, nat_tests) in rw lt refl

    by : (b : Bool) → nat_lt (length name) at ≡ b → rest_path at name ≡ s ∷ more → more ≡ rest_path next name
    by true lt h = absurd (let e : [] ≡ s ∷ more = sym (rw lt refl) ∙ h in cc)
    by false lt h =
        let within : at ≤ length name = grind (arith, nat_tests) in
        let cut = first_cut (drop at name) in
        let split : slice_split is_point (drop at name) ≡ s ∷ more = sym (rw lt refl) ∙ h in
        let both : cut.0 ∷ cut.1 ≡ s ∷ more = sym cut.2.is ∙ split in
        let first : cut.0 ≡ s = cc in
        let rest : cut.1 ≡ more = cc in
        sym rest ∙ either within cut.0 cut.1 first cut.2.rest
      where
        either : at ≤ length name → (t : List ℕ) (path : Path) → t ≡ s
            → ((drop at name ≡ t) × (path ≡ [])) ⊎ ((ys : List ℕ) × (drop at name ≡ t ++ 46 ∷ ys) × (path ≡ slice_split is_point ys)) → path ≡ rest_path next name
        either within t path same (inl whole) =
            let long = ap length whole.0 in
            let size = length-drop at name in
            let same_length = ap length same in
            whole.1 ∙ sym (ended (omega (arith, within, long, size, same_length)))
        either within t path same (inr part) =
            let long = ap length part.1 in
            let size = length-drop at name in
            let same_length = ap length same in
            let joined = length-append t (46 ∷ part.0) in
            let left : drop next name ≡ part.0 =
            sym (drop-drop (suc (length s)) at name) ∙ ap (drop (suc (length s))) (part.1 ∙ ap (λ x. x ++ 46 ∷ part.0) same)
            ∙ (let one : suc (length s) ≡ length s + 1 = omega arith in ap (λ n. drop n (s ++ 46 ∷ part.0)) one)
            ∙ drop-append-add s (46 ∷ part.0) 1 in
            part.2 ∙ ap (slice_split is_point) (sym left) ∙ sym (going (omega (arith, within, long, size, same_length, joined)))
