-- Leaves, split by whether they begin with a segment.
use Rattle.std.proofs.Common.{◌≡◌, ◌≢◌, ◌+◌, ℕ, List, [], ◌∷◌, ◌++◌, length, Bool, true, false, refl, sym, ◌∙◌, ap, subst, arith}
use Rattle.std.specs.Prelude.{bytes_eq}
use Rattle.std.proofs.lemmas.Slice.Eq.{bytes_eq-Decides}
use Rattle.smithy_query_codec.specs.Leaves.{Path, Leaf, under}
use Rattle.smithy_form.specs.Lookup.{inside, outside, text_or, text_here, text_at, AreSame}
use Rattle.smithy_form.proofs.LookupLemmas.{other_text, inside-append, here_behind, same_by_parts}
use Rattle.smithy_form.proofs.PartLemmas.{inside_first, inside_more}

pub length_split : (s : List ℕ) (ls : List Leaf) → length ls ≡ length (inside s ls) + length (outside s ls)
length_split s [] = refl
length_split s (l ∷ ls) = by l.path (length_split s ls)
  where
    by : (p : Path) → length ls ≡ length (inside s ls) + length (outside s ls) → length (record { path = p; text = l.text } ∷ ls) ≡ length (inside s (record { path = p; text = l.text } ∷ ls)) + length (outside s (record { path = p; text = l.text } ∷ ls))
    by [] again = omega (arith, again)
    by (t ∷ p) again = either (bytes_eq s t) refl
      where
        either : (b : Bool) → bytes_eq s t ≡ b → length (record { path = t ∷ p; text = l.text } ∷ ls) ≡ length (inside s (record { path = t ∷ p; text = l.text } ∷ ls)) + length (outside s (record { path = t ∷ p; text = l.text } ∷ ls))
        either true is = rw is (omega (arith, again))
        either false is = rw is (omega (arith, again))

-- none of those outside begins with the segment
pub none_inside : (s : List ℕ) (ls : List Leaf) → inside s (outside s ls) ≡ []
none_inside s [] = refl
none_inside s (l ∷ ls) = by l.path (none_inside s ls)
  where
    by : (p : Path) → inside s (outside s ls) ≡ [] → inside s (outside s (record { path = p; text = l.text } ∷ ls)) ≡ []
    by [] again = again
    by (t ∷ p) again = either (bytes_eq s t) refl
      where
        either : (b : Bool) → bytes_eq s t ≡ b → inside s (outside s (record { path = t ∷ p; text = l.text } ∷ ls)) ≡ []
        either true is = rw is again
        either false is = rw (is, is) again

-- what begins with another segment stays
pub others_stay : (s t : List ℕ) (ls : List Leaf) → t ≢ s → inside t (outside s ls) ≡ inside t ls
others_stay s t [] apart = refl
others_stay s t (l ∷ ls) apart = by l.path (others_stay s t ls apart)
  where
    by : (p : Path) → inside t (outside s ls) ≡ inside t ls → inside t (outside s (record { path = p; text = l.text } ∷ ls)) ≡ inside t (record { path = p; text = l.text } ∷ ls)
    by [] again = again
    by (u ∷ p) again = either (bytes_eq s u) refl
      where
        either : (b : Bool) → bytes_eq s u ≡ b → inside t (outside s (record { path = u ∷ p; text = l.text } ∷ ls)) ≡ inside t (record { path = u ∷ p; text = l.text } ∷ ls)
        either true is =
            let at = (bytes_eq-Decides s u).0 is in
            rw (is, other_text t u (λ e. apart (e ∙ sym at))) again
        either false is = rw (is, again) refl

pub here_stays : (s : List ℕ) (ls : List Leaf) → text_here (outside s ls) ≡ text_here ls
here_stays s [] = refl
here_stays s (l ∷ ls) = by l.path (here_stays s ls)
  where
    by : (p : Path) → text_here (outside s ls) ≡ text_here ls → text_here (outside s (record { path = p; text = l.text } ∷ ls)) ≡ text_here (record { path = p; text = l.text } ∷ ls)
    by [] again = refl
    by (t ∷ p) again = either (bytes_eq s t) refl
      where
        either : (b : Bool) → bytes_eq s t ≡ b → text_here (outside s (record { path = t ∷ p; text = l.text } ∷ ls)) ≡ text_here (record { path = t ∷ p; text = l.text } ∷ ls)
        either true is = rw is again
        either false is = rw is again

-- a part under the segment, with the leaves of something that is the same, and those outside, are the leaves
pub part_again : (s : List ℕ) (ls ms : List Leaf) → AreSame (inside s ls) ms → AreSame ls (under (s ∷ []) ms ++ outside s ls)
part_again s ls ms same =
    same_by_parts ls (under (s ∷ []) ms ++ outside s ls) (sym (here_behind s [] ms (outside s ls) ∙ here_stays s ls)) (λ t. by t (bytes_eq t s) refl)
  where
    by : (t : List ℕ) (b : Bool) → bytes_eq t s ≡ b → AreSame (inside t ls) (inside t (under (s ∷ []) ms ++ outside s ls))
    by t true is =
        let at = (bytes_eq-Decides t s).0 is in
        subst (λ u. AreSame (inside u ls) (inside u (under (s ∷ []) ms ++ outside s ls))) (sym at)
        (subst (λ a. AreSame (inside s ls) a) (sym (inside_first s ms (outside s ls) (none_inside s ls))) same)
    by t false is =
        let apart : t ≢ s = λ e. let no : true ≡ false = sym ((bytes_eq-Decides t s).1 e) ∙ is in cc in
        subst (λ a. AreSame (inside t ls) a) (sym (inside_more t s ms (outside s ls) apart ∙ others_stay s t ls apart)) (λ p. refl)

-- ---- the same leaves, split in the same way

pub outside_same : (s : List ℕ) (ls ms : List Leaf) → AreSame ls ms → AreSame (outside s ls) (outside s ms)
outside_same s ls ms same = same_by_parts (outside s ls) (outside s ms) (here_stays s ls ∙ same [] ∙ sym (here_stays s ms)) (λ t. by t (bytes_eq t s) refl)
  where
    by : (t : List ℕ) (b : Bool) → bytes_eq t s ≡ b → AreSame (inside t (outside s ls)) (inside t (outside s ms))
    by t true is =
        let at = (bytes_eq-Decides t s).0 is in
        subst (λ u. AreSame (inside u (outside s ls)) (inside u (outside s ms))) (sym at) (λ p. rw (none_inside s ls, none_inside s ms) refl)
    by t false is =
        let apart : t ≢ s = λ e. let no : true ≡ false = sym ((bytes_eq-Decides t s).1 e) ∙ is in cc in
        λ p. rw (others_stay s t ls apart, others_stay s t ms apart) (same (t ∷ p))

-- behind a part under the segment, of others that don't begin with it, they are left
pub rest_again : (s : List ℕ) (ls xs : List Leaf) → inside s xs ≡ [] → AreSame (outside s (under (s ∷ []) ls ++ xs)) xs
rest_again s ls xs none =
    same_by_parts (outside s (under (s ∷ []) ls ++ xs)) xs (here_stays s (under (s ∷ []) ls ++ xs) ∙ here_behind s [] ls xs) (λ t. by t (bytes_eq t s) refl)
  where
    by : (t : List ℕ) (b : Bool) → bytes_eq t s ≡ b → AreSame (inside t (outside s (under (s ∷ []) ls ++ xs))) (inside t xs)
    by t true is =
        let at = (bytes_eq-Decides t s).0 is in
        subst (λ u. AreSame (inside u (outside s (under (s ∷ []) ls ++ xs))) (inside u xs)) (sym at) (λ p. rw (none_inside s (under (s ∷ []) ls ++ xs), none) refl)
    by t false is =
        let apart : t ≢ s = λ e. let no : true ≡ false = sym ((bytes_eq-Decides t s).1 e) ∙ is in cc in
        λ p. rw (others_stay s t (under (s ∷ []) ls ++ xs) apart, inside_more t s ls xs apart) refl

here-append : (xs ys zs : List Leaf) → text_here ys ≡ text_here zs → text_here (xs ++ ys) ≡ text_here (xs ++ zs)
here-append [] ys zs h = h
here-append (x ∷ xs) ys zs h = ap (text_or x.path x.text) (here-append xs ys zs h)

-- the same leaves behind others
pub same_behind : (xs ys zs : List Leaf) → AreSame ys zs → AreSame (xs ++ ys) (xs ++ zs)
same_behind xs ys zs same = λ p. by p xs ys zs same
  where
    by : (p : Path) (xs ys zs : List Leaf) → AreSame ys zs → text_at p (xs ++ ys) ≡ text_at p (xs ++ zs)
    by [] xs ys zs same = here-append xs ys zs (same [])
    by (s ∷ p) xs ys zs same =
        ap (text_at p) (inside-append s xs ys) ∙ by p (inside s xs) (inside s ys) (inside s zs) (λ q. same (s ∷ q)) ∙ ap (text_at p) (sym (inside-append s xs zs))
