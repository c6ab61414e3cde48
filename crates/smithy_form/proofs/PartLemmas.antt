-- Two lists of leaves that are the same finite map have the same parts.
use Rattle.std.proofs.Common.{◌≡◌, ◌≢◌, ◌<◌, ◌≤◌, ◌+◌, ℕ, suc, List, [], ◌∷◌, ◌++◌, length, Bool, true, false, Some, None, decimal, refl, sym, ◌∙◌, ap, subst, arith}
use Rattle.std.specs.Prelude.{bytes_eq}
use Rattle.std.proofs.lemmas.Fmt.{decimal_injective}
use Rattle.std.proofs.lemmas.List.{append-nil}
use Rattle.std.proofs.lemmas.Slice.Eq.{bytes_eq-Decides}
use Rattle.smithy_query_codec.specs.Leaves.{Path, Leaf, under, leaf, numbered, MemberRole, flat_member, member, neither, inner_path, or_empty, entry_part}
use Rattle.smithy_form.specs.Lookup.{inside, text_here, AreSame}
use Rattle.smithy_form.proofs.LookupLemmas.{inside-append, inside_same, inside_other, none_here, here_behind, same_inside, same_by_parts, is_none}

pub under-nil : (ls : List Leaf) → under [] ls ≡ ls
under-nil [] = refl
under-nil (l ∷ ls) = rw (under-nil ls) refl

-- ---- a part under a segment, and further parts that don't begin with it

pub inside_first : (s : List ℕ) (ls xs : List Leaf) → inside s xs ≡ [] → inside s (under (s ∷ []) ls ++ xs) ≡ ls
inside_first s ls xs none = rw (inside-append s (under (s ∷ []) ls) xs, inside_same s [] ls, none) (append-nil (under [] ls) ∙ under-nil ls)

pub inside_more : (s t : List ℕ) (ls xs : List Leaf) → s ≢ t → inside s (under (t ∷ []) ls ++ xs) ≡ inside s xs
inside_more s t ls xs apart = rw (inside-append s (under (t ∷ []) ls) xs, inside_other s t [] ls apart) refl

pub first_same : (s : List ℕ) (ls ms xs ys : List Leaf) → inside s xs ≡ [] → inside s ys ≡ []
    → AreSame (under (s ∷ []) ls ++ xs) (under (s ∷ []) ms ++ ys) → AreSame ls ms
first_same s ls ms xs ys none_x none_y same =
    subst (λ a. AreSame a ms) (inside_first s ls xs none_x)
    (subst (λ b. AreSame (inside s (under (s ∷ []) ls ++ xs)) b) (inside_first s ms ys none_y) (same_inside s _ _ same))

pub rest_same : (s : List ℕ) (ls ms xs ys : List Leaf) → inside s xs ≡ [] → inside s ys ≡ []
    → AreSame (under (s ∷ []) ls ++ xs) (under (s ∷ []) ms ++ ys) → AreSame xs ys
rest_same s ls ms xs ys none_x none_y same =
    same_by_parts xs ys (sym (here_behind s [] ls xs) ∙ same [] ∙ here_behind s [] ms ys) (λ t. by t (bytes_eq t s) refl)
  where
    by : (t : List ℕ) (b : Bool) → bytes_eq t s ≡ b → AreSame (inside t xs) (inside t ys)
    by t true is =
        let e = (bytes_eq-Decides t s).0 is in
        subst (λ u. AreSame (inside u xs) (inside u ys)) (sym e) (λ p. rw (none_x, none_y) refl)
    by t false is =
        let apart : t ≢ s = λ e. let no : true ≡ false = sym ((bytes_eq-Decides t s).1 e) ∙ is in cc in
        subst (λ a. AreSame a (inside t ys)) (inside_more t s ls xs apart)
        (subst (λ b. AreSame (inside t (under (s ∷ []) ls ++ xs)) b) (inside_more t s ms ys apart) (same_inside t _ _ same))

pub one_segment : (s t : List ℕ) (ls ms : List Leaf) → ls ≢ [] → AreSame (under (s ∷ []) ls) (under (t ∷ []) ms) → s ≡ t
one_segment s t ls ms full same = by (bytes_eq s t) refl
  where
    by : (b : Bool) → bytes_eq s t ≡ b → s ≡ t
    by true is = (bytes_eq-Decides s t).0 is
    by false is =
        let apart : s ≢ t = λ e. let no : true ≡ false = sym ((bytes_eq-Decides s t).1 e) ∙ is in cc in
        let empty : AreSame ls [] =
        subst (λ a. AreSame a []) (inside_same s [] ls ∙ under-nil ls)
        (subst (λ b. AreSame (inside s (under (s ∷ []) ls)) b) (inside_other s t [] ms apart) (same_inside s _ _ same)) in
        absurd (full (is_none ls empty))

-- ---- parts by number

pub no_number_here : (i : ℕ) (parts : List (List Leaf)) → text_here (numbered i parts) ≡ None
no_number_here i [] = refl
no_number_here i (ls ∷ parts) = here_behind (decimal i) [] ls (numbered (suc i) parts) ∙ no_number_here (suc i) parts

pub none_later : (j i : ℕ) (parts : List (List Leaf)) → j < i → i + length parts ≤ 18446744073709551616 → inside (decimal j) (numbered i parts) ≡ []
none_later j i [] before small = refl
none_later j i (ls ∷ parts) before small =
    inside_more (decimal j) (decimal i) ls (numbered (suc i) parts)
    (λ e. let same = decimal_injective j i (omega (arith, before, small)) (omega (arith, small)) e in omega (arith, same, before))
    ∙ none_later j (suc i) parts (omega (arith, before)) (omega (arith, small))

pub under_same : (p : Path) (xs ys : List Leaf) → AreSame (under p xs) (under p ys) → AreSame xs ys
under_same [] xs ys h = subst (λ a. AreSame a ys) (under-nil xs) (subst (λ b. AreSame (under [] xs) b) (under-nil ys) h)
under_same (s ∷ p) xs ys h =
    under_same p xs ys
    (subst (λ a. AreSame a (under p ys)) (inside_same s p xs) (subst (λ b. AreSame (inside s (under (s ∷ p) xs)) b) (inside_same s p ys) (same_inside s _ _ h)))

-- ---- an entry of a map

pub entry_same : (keys vals key other : List ℕ) (ls ms : List Leaf) → keys ≢ vals → AreSame (entry_part keys vals key ls) (entry_part keys vals other ms)
    → (key ≡ other) × AreSame ls ms
entry_same keys vals key other ls ms apart same =
    let none_x = inside_other keys vals [] ls apart in
    let none_y = inside_other keys vals [] ms apart in
    let texts = first_same keys (leaf key ∷ []) (leaf other ∷ []) (under (vals ∷ []) ls) (under (vals ∷ []) ms) none_x none_y same in
    let values = rest_same keys (leaf key ∷ []) (leaf other ∷ []) (under (vals ∷ []) ls) (under (vals ∷ []) ms) none_x none_y same in
    (let e : Some key ≡ Some other = texts [] in cc, under_same (vals ∷ []) ls ms values)

-- ---- a list or a map as a whole

nothing_told : (p : Path) (ls : List Leaf) → text_here ls ≡ None → text_here (under p ls) ≡ None
nothing_told [] ls h = ap text_here (under-nil ls) ∙ h
nothing_told (s ∷ p) ls h = none_here s p ls

empty_or_not : (p : Path) (y : Leaf) (ys : List Leaf) → text_here (y ∷ ys) ≡ None → AreSame (leaf [] ∷ []) (under p (y ∷ ys)) → ⊥
empty_or_not p y ys h same = let no : Some [] ≡ None = same [] ∙ nothing_told p (y ∷ ys) h in cc

pub list_same : (role : MemberRole) (name : List ℕ) (xs ys : List Leaf) → text_here xs ≡ None → text_here ys ≡ None
    → AreSame (or_empty role (under (inner_path role name) xs)) (or_empty role (under (inner_path role name) ys)) → AreSame xs ys
list_same neither name xs ys hx hy same = under_same (name ∷ []) xs ys same
list_same member name [] [] hx hy same = λ p. refl
list_same member name [] (y ∷ ys) hx hy same = absurd (empty_or_not (name ∷ []) y ys hy same)
list_same member name (x ∷ xs) [] hx hy same = absurd (empty_or_not (name ∷ []) x xs hx (λ p. sym (same p)))
list_same member name (x ∷ xs) (y ∷ ys) hx hy same = under_same (name ∷ []) (x ∷ xs) (y ∷ ys) same
list_same flat_member name [] [] hx hy same = λ p. refl
list_same flat_member name [] (y ∷ ys) hx hy same = absurd (empty_or_not [] y ys hy same)
list_same flat_member name (x ∷ xs) [] hx hy same = absurd (empty_or_not [] x xs hx (λ p. sym (same p)))
list_same flat_member name (x ∷ xs) (y ∷ ys) hx hy same = under_same [] (x ∷ xs) (y ∷ ys) same
