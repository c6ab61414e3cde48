-- The elements of a list that is half read.
use Rattle.std.proofs.Common.{◌≡◌, ◌≢◌, ◌<◌, ◌≤◌, ◌+◌, ℕ, suc, List, [], ◌∷◌, ◌++◌, length, decimal, refl, sym, ◌∙◌, ap, subst, arith, append_assoc}
use Rattle.std.proofs.lemmas.Fmt.{decimal_injective}
use Rattle.std.proofs.lemmas.List.{append-nil, length-append}
use Rattle.smithy_declarations.specs.Value.{Value, Values, no_values, value, values_of, nesting, elements_nesting}
use Rattle.smithy_shapes.specs.Site.{Site}
use Rattle.smithy_schema.specs.Writing.{count_of}
use Rattle.smithy_query_codec.specs.Leaves.{Leaf, neither, role_of, under, numbered, leaves, element_leaves}
use Rattle.smithy_query_codec.proofs.DistinctLemmas.{length_elements}
use Rattle.smithy_form.specs.Lookup.{inside, outside, text_at, AreSame}
use Rattle.smithy_form.specs.Private.Whole.{IsWhole, WholeElements}
use Rattle.smithy_form.specs.Private.Reading.{TellHere, TellNothing, followed_by, limit, AreElements}
use Rattle.smithy_form.proofs.LookupLemmas.{is_none, none_is, same_inside}
use Rattle.smithy_form.proofs.PartLemmas.{inside_first, none_later}
use Rattle.smithy_form.proofs.Splits.{length_split, others_stay, part_again, outside_same, rest_again, same_behind}
use Rattle.smithy_form.proofs.UniqueValues.{same_value}

pub numbered_more : (i : ℕ) (parts : List (List Leaf)) (ls : List Leaf) → numbered i (parts ++ ls ∷ []) ≡ numbered i parts ++ under (decimal (i + length parts) ∷ []) ls
numbered_more i [] ls = let same : i + 0 ≡ i = omega arith in rw same (append-nil (under (decimal i ∷ []) ls))
numbered_more i (ms ∷ parts) ls =
    let same : suc i + length parts ≡ i + suc (length parts) = omega arith in
    ap (λ r. under (decimal i ∷ []) ms ++ r) (numbered_more (suc i) parts ls ∙ ap (λ n. numbered (suc i) parts ++ under (decimal n ∷ []) ls) same)
    ∙ sym (append_assoc (under (decimal i ∷ []) ms) (numbered (suc i) parts) (under (decimal (i + suc (length parts)) ∷ []) ls))

elements_more : (site : Site) (es : List Value) (v : Value) → element_leaves site (values_of (es ++ v ∷ [])) ≡ element_leaves site (values_of es) ++ leaves site neither v ∷ []
elements_more site [] v = refl
elements_more site (e ∷ es) v = ap (λ r. leaves site neither e ∷ r) (elements_more site es v)

pub count_is : (es : List Value) → count_of (values_of es) ≡ length es
count_is [] = refl
count_is (e ∷ es) = ap suc (count_is es)

whole_more : (site : Site) (es : List Value) (v : Value) → WholeElements site (values_of es) → leaves site neither v ≢ [] → IsWhole site v → WholeElements site (values_of (es ++ v ∷ []))
whole_more site [] v h full whole = (full, whole, tt)
whole_more site (e ∷ es) v h full whole = (h.0, h.1, whole_more site es v h.2 full whole)

nests_more : (left : ℕ) (es : List Value) (v : Value) → elements_nesting (values_of es) ≤ left → nesting v ≤ left → elements_nesting (values_of (es ++ v ∷ [])) ≤ left
nests_more left [] v h deep = omega (arith, deep)
nests_more left (e ∷ es) v h deep = let more = nests_more left es v (omega (arith, h)) deep in omega (arith, h, more)

followed_more : (es : List Value) (v : Value) (us : Values) → followed_by (values_of (es ++ v ∷ [])) us ≡ followed_by (values_of es) (value v us)
followed_more [] v us = refl
followed_more (e ∷ es) v us = ap (value e) (followed_more es v us)

-- elements in front of others are whole, and so are the others
others_whole : (site : Site) (es : List Value) (us : Values) → WholeElements site (followed_by (values_of es) us) → WholeElements site us
others_whole site [] us h = h
others_whole site (e ∷ es) us h = others_whole site es us h.2

others_count : (es : List Value) (us : Values) → count_of (followed_by (values_of es) us) ≡ length es + count_of us
others_count [] us = omega arith
others_count (e ∷ es) us = let more = others_count es us in omega (arith, more)

others_nest : (left : ℕ) (es : List Value) (us : Values) → elements_nesting (followed_by (values_of es) us) ≤ left → elements_nesting us ≤ left
others_nest left [] us h = h
others_nest left (e ∷ es) us h = others_nest left es us (omega (arith, h))

-- so many leaves are taken by these elements, and the rest is left
pub record HalfElements (site : Site) (left : ℕ) (ls : List Leaf) (es : List Value) (taken : ℕ) (rest : List Leaf) : Type 0 where
  pub counted : taken + length rest ≡ length ls
  pub whole : WholeElements site (values_of es)
  pub nests : elements_nesting (values_of es) ≤ left
  pub later : (j : ℕ) → length es < j → j < limit → inside (decimal j) rest ≡ inside (decimal j) ls
  pub again : AreSame ls (numbered 1 (element_leaves site (values_of es)) ++ rest)
  pub others : (ws : Values) → AreElements site left ls ws → (us : Values) × (ws ≡ followed_by (values_of es) us) × AreSame rest (numbered (suc (length es)) (element_leaves site us))

pub begun_elements : (site : Site) (left : ℕ) (ls : List Leaf) → HalfElements site left ls [] 0 ls
begun_elements site left ls = record {
  counted = omega arith;
  whole = tt;
  nests = omega arith;
  later = λ j after small. refl;
  again = λ p. refl;
  others = λ ws are. (ws, refl, are.same);
}

module _ (site : Site) (left : ℕ) (ls : List Leaf) (es : List Value) (taken : ℕ) (rest : List Leaf) (half : HalfElements site left ls es taken rest)
    (nameless : role_of site.view ≡ neither) (small : suc (length es) < limit) where
  abbrev here : List ℕ
  here = decimal (suc (length es))

  here_is : inside here rest ≡ inside here ls
  here_is = half.later (suc (length es)) (omega arith) small

  -- what is left is that of further elements: none, or the next one and others
  next_is : (us : Values) → WholeElements site us → length es + count_of us < limit → AreSame rest (numbered (suc (length es)) (element_leaves site us)) → inside here ls ≢ []
      → (w : Value) × (more : Values) × (us ≡ value w more) × AreSame (inside here ls) (leaves site neither w) × AreSame (outside here rest) (numbered (suc (suc (length es))) (element_leaves site more))
  next_is no_values whole few same full = absurd (full (sym here_is ∙ ap (inside here) (is_none rest same)))
  next_is (value w more) whole few same full =
      let xs = numbered (suc (suc (length es))) (element_leaves site more) in
      let none = none_later (suc (length es)) (suc (suc (length es))) (element_leaves site more) (omega arith) (omega (arith, few, length_elements site more)) in (
        w,
        more,
        refl,
        subst (λ a. AreSame a (leaves site neither w)) here_is
            (subst (λ b. AreSame (inside here rest) b) (inside_first here (leaves site neither w) xs none) (same_inside here _ _ same)),
        λ p. outside_same here rest (under (here ∷ []) (leaves site neither w) ++ xs) same p ∙ rest_again here (leaves site neither w) xs none p,
      )

  -- one more element
  pub one_more : (v : Value) → inside here ls ≢ [] → TellHere site left (inside here ls) v
      → HalfElements site left ls (es ++ v ∷ []) (taken + length (inside here ls)) (outside here rest)
  one_more v full told =
      let same_v : AreSame (inside here ls) (leaves site neither v) = subst (λ r. AreSame (inside here ls) (leaves site r v)) nameless told.same in
      let longer : length (es ++ v ∷ []) ≡ suc (length es) = rw (length-append es (v ∷ [])) (omega arith) in record {
        counted = let split = length_split here rest in let same = ap length here_is in let before = half.counted in omega (arith, split, same, before);
        whole = whole_more site es v half.whole (λ none. full (is_none (inside here ls) (subst (AreSame (inside here ls)) none same_v))) told.whole;
        nests = nests_more left es v half.nests told.nests;
        later = λ j after less.
            others_stay here (decimal j) rest (λ e. let is = decimal_injective j (suc (length es)) less small e in omega (arith, is, after, longer))
            ∙ half.later j (omega (arith, after, longer)) less;
        again =
            let parts : numbered 1 (element_leaves site (values_of (es ++ v ∷ []))) ≡ numbered 1 (element_leaves site (values_of es)) ++ under (here ∷ []) (leaves site neither v) =
            ap (numbered 1) (elements_more site es v) ∙ numbered_more 1 (element_leaves site (values_of es)) (leaves site neither v)
            ∙ ap (λ n. numbered 1 (element_leaves site (values_of es)) ++ under (decimal n ∷ []) (leaves site neither v))
            (let n = length_elements site (values_of es) in let m = count_is es in omega (arith, n, m)) in
            let split = part_again here rest (leaves site neither v) (subst (λ a. AreSame a (leaves site neither v)) (sym here_is) same_v) in
            λ p. half.again p ∙ same_behind (numbered 1 (element_leaves site (values_of es))) rest (under (here ∷ []) (leaves site neither v) ++ outside here rest) split p
            ∙ rw parts (ap (text_at p) (sym (append_assoc (numbered 1 (element_leaves site (values_of es))) (under (here ∷ []) (leaves site neither v)) (outside here rest))));
        others = λ ws are.
            let old = half.others ws are in
            let whole_us = others_whole site es old.0 (subst (WholeElements site) old.1 are.whole) in
            let few : length es + count_of old.0 < limit = let c = ap count_of old.1 in let d = others_count es old.0 in let f = are.few in omega (arith, c, d, f) in
            let next = next_is old.0 whole_us few old.2 full in
            let whole_w = subst (WholeElements site) next.2 whole_us in
            let is : v ≡ next.0 = same_value site neither v next.0 told.whole whole_w.1 (λ p. sym (same_v p) ∙ next.3 p) in (
              next.1,
              old.1 ∙ ap (followed_by (values_of es)) (next.2 ∙ ap (λ x. value x next.1) (sym is)) ∙ sym (followed_more es v next.1),
              subst (λ n. AreSame (outside here rest) (numbered (suc n) (element_leaves site next.1))) (sym longer) next.4,
            );
      }

  -- an element that is due and has no leaves: there are no such elements
  pub one_missing : taken < length ls → inside here ls ≡ [] → (ws : Values) → AreElements site left ls ws → ⊥
  one_missing before none ws are =
      let old = half.others ws are in
      let whole_us = others_whole site es old.0 (subst (WholeElements site) old.1 are.whole) in
      let few : length es + count_of old.0 < limit = let c = ap count_of old.1 in let d = others_count es old.0 in let f = are.few in omega (arith, c, d, f) in
      by old.0 whole_us few old.2
    where
      by : (us : Values) → WholeElements site us → length es + count_of us < limit → AreSame rest (numbered (suc (length es)) (element_leaves site us)) → ⊥
      by no_values whole few same = let empty = ap length (is_none rest same) in let c = half.counted in omega (arith, empty, c, before)
      by (value w more) whole few same =
          let xs = numbered (suc (suc (length es))) (element_leaves site more) in
          let none_more = none_later (suc (length es)) (suc (suc (length es))) (element_leaves site more) (omega arith) (omega (arith, few, length_elements site more)) in
          let one : AreSame (inside here rest) (leaves site neither w) =
          subst (λ b. AreSame (inside here rest) b) (inside_first here (leaves site neither w) xs none_more) (same_inside here _ _ same) in
          whole.0 (none_is (leaves site neither w) (subst (λ a. AreSame a (leaves site neither w)) (here_is ∙ none) one))

  -- an element that means nothing: there are no such elements
  pub one_refused : inside here ls ≢ [] → TellNothing site left (inside here ls) → (ws : Values) → AreElements site left ls ws → ⊥
  one_refused full nothing ws are =
      let old = half.others ws are in
      let whole_us = others_whole site es old.0 (subst (WholeElements site) old.1 are.whole) in
      let few : length es + count_of old.0 < limit = let c = ap count_of old.1 in let d = others_count es old.0 in let f = are.few in omega (arith, c, d, f) in
      let deep = others_nest left es old.0 (subst (λ x. elements_nesting x ≤ left) old.1 are.nests) in
      let next = next_is old.0 whole_us few old.2 full in
      let whole_w = subst (WholeElements site) next.2 whole_us in
      let deep_w : elements_nesting (value next.0 next.1) ≤ left = subst (λ x. elements_nesting x ≤ left) next.2 deep in
      nothing next.0 (record {
        whole = whole_w.1;
        nests = omega (arith, deep_w);
        same = subst (λ r. AreSame (inside here ls) (leaves site r next.0)) (sym nameless) next.3;
      })

-- all leaves are taken
pub all_taken : (site : Site) (left : ℕ) (ls : List Leaf) (es : List Value) (taken : ℕ) (rest : List Leaf) → HalfElements site left ls es taken rest → length ls ≤ taken
    → AreSame ls (numbered 1 (element_leaves site (values_of es)))
all_taken site left ls es taken rest half all =
    let none : rest ≡ [] = by rest (let c = half.counted in omega (arith, c, all)) in
    λ p. half.again p ∙ ap (text_at p) (ap (λ r. numbered 1 (element_leaves site (values_of es)) ++ r) none ∙ append-nil (numbered 1 (element_leaves site (values_of es))))
  where
    by : (xs : List Leaf) → length xs ≤ 0 → xs ≡ []
    by [] h = refl
    by (x ∷ xs) h = absurd (omega (arith, h))
