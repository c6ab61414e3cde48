-- Leaves as a finite map: of parts under segments, and of parts in turn.
use Rattle.std.proofs.Common.{◌≡◌, ◌≢◌, ℕ, List, [], ◌∷◌, ◌++◌, Bool, true, false, Some, None, refl, sym, ◌∙◌, ap, append_assoc}
use Rattle.std.specs.Prelude.{bytes_eq}
use Rattle.std.proofs.lemmas.Slice.Eq.{bytes_eq-Decides}
use Rattle.smithy_query_codec.specs.Leaves.{Path, Leaf, under}
use Rattle.smithy_form.specs.Lookup.{behind, inside, text_here, text_at, AreSame}

pub same_text : (s : List ℕ) → bytes_eq s s ≡ true
same_text s = (bytes_eq-Decides s s).1 refl

pub other_text : (s t : List ℕ) → s ≢ t → bytes_eq s t ≡ false
other_text s t apart = by (bytes_eq s t) refl
  where
    by : (b : Bool) → bytes_eq s t ≡ b → bytes_eq s t ≡ false
    by true is = absurd (apart ((bytes_eq-Decides s t).0 is))
    by false is = is

-- ---- parts in turn

pub inside-append : (s : List ℕ) (xs ys : List Leaf) → inside s (xs ++ ys) ≡ inside s xs ++ inside s ys
inside-append s [] ys = refl
inside-append s (x ∷ xs) ys =
    ap (λ r. behind s x.path x.text ++ r) (inside-append s xs ys)
    ∙ sym (append_assoc (behind s x.path x.text) (inside s xs) (inside s ys))

-- ---- parts under a segment

pub inside_same : (s : List ℕ) (p : Path) (ls : List Leaf) → inside s (under (s ∷ p) ls) ≡ under p ls
inside_same s p [] = refl
inside_same s p (l ∷ ls) = rw (same_text s, inside_same s p ls) refl

pub inside_other : (s t : List ℕ) (p : Path) (ls : List Leaf) → s ≢ t → inside s (under (t ∷ p) ls) ≡ []
inside_other s t p [] apart = refl
inside_other s t p (l ∷ ls) apart = rw (other_text s t apart, inside_other s t p ls apart) refl

pub none_here : (t : List ℕ) (p : Path) (ls : List Leaf) → text_here (under (t ∷ p) ls) ≡ None
none_here t p [] = refl
none_here t p (l ∷ ls) = none_here t p ls

pub here_behind : (t : List ℕ) (p : Path) (ls ms : List Leaf) → text_here (under (t ∷ p) ls ++ ms) ≡ text_here ms
here_behind t p [] ms = refl
here_behind t p (l ∷ ls) ms = here_behind t p ls ms

-- ---- the same finite map

pub nothing_at : (p : Path) → text_at p [] ≡ None
nothing_at [] = refl
nothing_at (s ∷ p) = nothing_at p

-- leaves have some text
pub some_text : (ls : List Leaf) → ls ≢ [] → (p : Path) × (t : List ℕ) × (text_at p ls ≡ Some t)
some_text [] full = absurd (full refl)
some_text (l ∷ ls) full = let one = first l.path l.text ls in (l.path, one.0, one.1)
  where
    first : (p : Path) (t : List ℕ) (more : List Leaf) → (u : List ℕ) × (text_at p (record { path = p; text = t } ∷ more) ≡ Some u)
    first [] t more = (t, refl)
    first (s ∷ p) t more =
        let rest = first p t (inside s more) in
        (rest.0, rw (same_text s) rest.1)

pub none_is : (ls : List Leaf) → AreSame [] ls → ls ≡ []
none_is [] h = refl
none_is (l ∷ ls) h =
    let one = some_text (l ∷ ls) (λ e. cc) in
    absurd (let no : None ≡ Some one.1 = sym (nothing_at one.0) ∙ h one.0 ∙ one.2 in cc)

pub is_none : (ls : List Leaf) → AreSame ls [] → ls ≡ []
is_none ls h = none_is ls (λ p. sym (h p))

pub same_inside : (s : List ℕ) (ls ms : List Leaf) → AreSame ls ms → AreSame (inside s ls) (inside s ms)
same_inside s ls ms h = λ p. h (s ∷ p)

pub same_by_parts : (ls ms : List Leaf) → text_here ls ≡ text_here ms → ((s : List ℕ) → AreSame (inside s ls) (inside s ms)) → AreSame ls ms
same_by_parts ls ms here parts = by
  where
    by : AreSame ls ms
    by [] = here
    by (s ∷ p) = parts s p
