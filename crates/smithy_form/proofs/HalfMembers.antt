-- The members of a structure that is half read.
use Rattle.std.proofs.Common.{◌≡◌, ◌≢◌, ◌<◌, ◌≤◌, ◌+◌, ℕ, zero, suc, List, [], ◌∷◌, ◌++◌, length, None, Some, slice_get, option_to_list, refl, sym, ◌∙◌, ap, subst, arith, append_assoc, ◌⊎◌, inl, inr}
use Rattle.std.proofs.lemmas.List.{append-nil}
use Rattle.smithy_declarations.specs.Table.{members_of}
use Rattle.smithy_declarations.specs.Value.{Value, MemberValues, no_member_values, member_value, nesting, members_nesting}
use Rattle.smithy_shapes.specs.Fits.{AscendFrom}
use Rattle.smithy_shapes.specs.Site.{Site, kind_at, member_of}
use Rattle.smithy_query_codec.specs.Leaves.{Leaf, role_of, query_name, under, leaves, member_leaves}
use Rattle.smithy_form.specs.Lookup.{inside, outside, text_at, AreSame}
use Rattle.smithy_form.specs.Private.Whole.{IsNamed, AreNamesApart, WholeMember, IsWhole, WholeMembers}
use Rattle.smithy_form.specs.Private.Reading.{TellHere, TellNothing, before_members, and_member}
use Rattle.smithy_form.proofs.LookupLemmas.{is_none, none_is, same_inside}
use Rattle.smithy_form.proofs.PartLemmas.{inside_first}
use Rattle.smithy_form.proofs.Splits.{length_split, others_stay, part_again, outside_same, rest_again, same_behind}
use Rattle.smithy_form.proofs.UniqueValues.{same_value, named, none_of_later, order_of}

-- ---- one member more

leaves_more : (site : Site) (ms : MemberValues) (n : ℕ) (v : Value) → member_leaves site (and_member ms n v) ≡ member_leaves site ms ++ member_leaves site (member_value n v no_member_values)
leaves_more site no_member_values n v = refl
leaves_more site (member_value k w ms) n v =
    let first = under (option_to_list (query_name (member_of site k).view)) (leaves (member_of site k) (role_of (member_of site k).view) w) in
    ap (λ r. first ++ r) (leaves_more site ms n v) ∙ sym (append_assoc first (member_leaves site ms) (member_leaves site (member_value n v no_member_values)))

whole_more : (site : Site) (ms : MemberValues) (n : ℕ) (v : Value) → WholeMembers site ms → WholeMember site n v → IsWhole (member_of site n) v → WholeMembers site (and_member ms n v)
whole_more site no_member_values n v h one value = (one, value, tt)
whole_more site (member_value k w ms) n v h one value = (h.0, h.1, whole_more site ms n v h.2 one value)

nests_more : (left : ℕ) (ms : MemberValues) (n : ℕ) (v : Value) → members_nesting ms ≤ left → nesting v ≤ left → members_nesting (and_member ms n v) ≤ left
nests_more left no_member_values n v h deep = omega (arith, deep)
nests_more left (member_value k w ms) n v h deep = let more = nests_more left ms n v (omega (arith, h)) deep in omega (arith, h, more)

before_more : (ms : MemberValues) (n : ℕ) (v : Value) (us : MemberValues) → before_members (and_member ms n v) us ≡ before_members ms (member_value n v us)
before_more no_member_values n v us = refl
before_more (member_value k w ms) n v us = ap (member_value k w) (before_more ms n v us)

-- the positions ascend from the first on, and each is below the second
abbrev pub AscendTo : ℕ → ℕ → MemberValues → Type 0
AscendTo least end no_member_values = least ≤ end
AscendTo least end (member_value n v ms) = (least ≤ n) × (n < end) × AscendTo (suc n) end ms

ascend_more : (least n : ℕ) (v : Value) (ms : MemberValues) → AscendTo least n ms → AscendTo least (suc n) (and_member ms n v)
ascend_more least n v no_member_values h = (h, omega arith, omega arith)
ascend_more least n v (member_value k w ms) h = (h.0, omega (arith, h.1), ascend_more (suc k) n v ms h.2)

ascend_wider : (least n : ℕ) (ms : MemberValues) → AscendTo least n ms → AscendTo least (suc n) ms
ascend_wider least n no_member_values h = omega (arith, h)
ascend_wider least n (member_value k w ms) h = (h.0, omega (arith, h.1), ascend_wider (suc k) n ms h.2)

pub ascend_from : (least n : ℕ) (ms : MemberValues) → AscendTo least n ms → AscendFrom least ms
ascend_from least n no_member_values h = tt
ascend_from least n (member_value k w ms) h = (h.0, ascend_from (suc k) n ms h.2)

others_whole : (site : Site) (ms us : MemberValues) → WholeMembers site (before_members ms us) → WholeMembers site us
others_whole site no_member_values us h = h
others_whole site (member_value k w ms) us h = others_whole site ms us h.2

others_nest : (left : ℕ) (ms us : MemberValues) → members_nesting (before_members ms us) ≤ left → members_nesting us ≤ left
others_nest left no_member_values us h = h
others_nest left (member_value k w ms) us h = others_nest left ms us (omega (arith, h))

-- ---- members that have these leaves

pub record AreMembers (site : Site) (left : ℕ) (ls : List Leaf) (ws : MemberValues) : Type 0 where
  pub ascend : AscendFrom 0 ws
  pub whole : WholeMembers site ws
  pub nests : members_nesting ws ≤ left
  pub same : AreSame ls (member_leaves site ws)

-- of the members before a position so many leaves are taken, and the rest is left
pub record HalfMembers (site : Site) (left : ℕ) (ls : List Leaf) (n : ℕ) (ms : MemberValues) (taken : ℕ) (rest : List Leaf) : Type 0 where
  pub counted : taken + length rest ≡ length ls
  pub ascend : AscendTo 0 n ms
  pub whole : WholeMembers site ms
  pub nests : members_nesting ms ≤ left
  pub later : (k : ℕ) (name : List ℕ) → n ≤ k → IsNamed site k name → inside name rest ≡ inside name ls
  pub again : AreSame ls (member_leaves site ms ++ rest)
  pub others : (ws : MemberValues) → AreMembers site left ls ws → (us : MemberValues) × (ws ≡ before_members ms us) × AscendFrom n us × AreSame rest (member_leaves site us)

pub begun_members : (site : Site) (left : ℕ) (ls : List Leaf) → HalfMembers site left ls 0 no_member_values 0 ls
begun_members site left ls = record {
  counted = omega arith;
  ascend = omega arith;
  whole = tt;
  nests = omega arith;
  later = λ k name after is. refl;
  again = λ p. refl;
  others = λ ws are. (ws, refl, are.ascend, are.same);
}

-- all leaves are taken
pub all_members : (site : Site) (left : ℕ) (ls : List Leaf) (n : ℕ) (ms : MemberValues) (taken : ℕ) (rest : List Leaf) → HalfMembers site left ls n ms taken rest → length ls ≤ taken
    → AreMembers site left ls ms
all_members site left ls n ms taken rest half all =
    let none : rest ≡ [] = by rest (let c = half.counted in omega (arith, c, all)) in record {
      ascend = ascend_from 0 n ms half.ascend;
      whole = half.whole;
      nests = half.nests;
      same = λ p. half.again p ∙ ap (text_at p) (ap (λ r. member_leaves site ms ++ r) none ∙ append-nil (member_leaves site ms));
    }
  where
    by : (xs : List Leaf) → length xs ≤ 0 → xs ≡ []
    by [] h = refl
    by (x ∷ xs) h = absurd (omega (arith, h))

module _ (site : Site) (apart : AreNamesApart site) (left : ℕ) (ls : List Leaf) (n : ℕ) (ms : MemberValues) (taken : ℕ) (rest : List Leaf)
    (half : HalfMembers site left ls n ms taken rest) (name : List ℕ) (is_named : IsNamed site n name) where
  here_is : inside name rest ≡ inside name ls
  here_is = half.later n name (omega arith) is_named

  other_name : (k : ℕ) (other : List ℕ) → n < k → IsNamed site k other → other ≢ name
  other_name k other after is same = let e = apart n k name is_named (subst (IsNamed site k) same is) in omega (arith, e, after)

  -- the next position, where what is left doesn't begin with the member's name
  unless_here : (us : MemberValues) → WholeMembers site us → AscendFrom n us → AreSame rest (member_leaves site us) → inside name ls ≡ [] → AscendFrom (suc n) us
  unless_here no_member_values whole ascend same none = tt
  unless_here (member_value k w us) whole ascend same none = (by (order_of n k), ascend.1)
    where
      by : (n < k) ⊎ ((k < n) ⊎ (n ≡ k)) → suc n ≤ k
      by (inl after) = omega (arith, after)
      by (inr (inl before)) = absurd (omega (arith, before, ascend.0))
      by (inr (inr at)) =
          let one = whole.0 in
          let same_name : one.0 ≡ name =
          let first : query_name (member_of site n).view ≡ Some one.0 = subst (λ x. query_name (member_of site x).view ≡ Some one.0) (sym at) one.1.is in
          let e : Some one.0 ≡ Some name = sym first ∙ is_named.is in cc in
          let lw = leaves (member_of site k) (role_of (member_of site k).view) w in
          let none_more = none_of_later site apart k one.0 one.1 (suc k) us (omega arith) ascend.1 whole.2 in
          let first : inside one.0 (member_leaves site (member_value k w us)) ≡ lw = rw (named site k w one) (inside_first one.0 lw (member_leaves site us) none_more) in
          let empty : AreSame [] lw =
          subst (λ a. AreSame a lw) (ap (λ s. inside s rest) same_name ∙ here_is ∙ none)
          (subst (λ b. AreSame (inside one.0 rest) b) first (same_inside one.0 rest (member_leaves site (member_value k w us)) same)) in
          absurd (one.2 (none_is lw empty))

  -- a member that is absent
  pub one_absent : inside name ls ≡ [] → HalfMembers site left ls (suc n) ms taken rest
  one_absent none = record {
    counted = half.counted;
    ascend = ascend_wider 0 n ms half.ascend;
    whole = half.whole;
    nests = half.nests;
    later = λ k other after is. half.later k other (omega (arith, after)) is;
    again = half.again;
    others = λ ws are.
        let old = half.others ws are in
        let whole_us = others_whole site ms old.0 (subst (WholeMembers site) old.1 are.whole) in
        (old.0, old.1, unless_here old.0 whole_us old.2 old.3 none, old.3);
  }

  -- what is left is that of this member and others
  next_is : (us : MemberValues) → WholeMembers site us → AscendFrom n us → AreSame rest (member_leaves site us) → inside name ls ≢ []
      → (w : Value) × (more : MemberValues) × (us ≡ member_value n w more) × AscendFrom (suc n) more
      × AreSame (inside name ls) (leaves (member_of site n) (role_of (member_of site n).view) w) × AreSame (outside name rest) (member_leaves site more)
  next_is no_member_values whole ascend same full = absurd (full (sym here_is ∙ ap (inside name) (is_none rest same)))
  next_is (member_value k w us) whole ascend same full = by (order_of n k)
    where
      by : (n < k) ⊎ ((k < n) ⊎ (n ≡ k))
          → (x : Value) × (more : MemberValues) × (member_value k w us ≡ member_value n x more) × AscendFrom (suc n) more
          × AreSame (inside name ls) (leaves (member_of site n) (role_of (member_of site n).view) x) × AreSame (outside name rest) (member_leaves site more)
      by (inl after) =
          let none = none_of_later site apart n name is_named k (member_value k w us) after (omega arith, ascend.1) whole in
          absurd (full (sym here_is ∙ is_none (inside name rest) (subst (λ b. AreSame (inside name rest) b) none (same_inside name rest (member_leaves site (member_value k w us)) same))))
      by (inr (inl before)) = absurd (omega (arith, before, ascend.0))
      by (inr (inr at)) =
          subst (λ (x : ℕ). WholeMember site x w → AscendFrom (suc x) us → AreSame rest (member_leaves site (member_value x w us))
          → (y : Value) × (more : MemberValues) × (member_value x w us ≡ member_value n y more) × AscendFrom (suc n) more
          × AreSame (inside name ls) (leaves (member_of site n) (role_of (member_of site n).view) y) × AreSame (outside name rest) (member_leaves site more)) at
          (λ one ascend_n same_n.
          let lw = leaves (member_of site n) (role_of (member_of site n).view) w in
          let same_name : one.0 ≡ name = let e : Some one.0 ≡ Some name = sym one.1.is ∙ is_named.is in cc in
          let none_more = none_of_later site apart n name is_named (suc n) us (omega arith) ascend_n whole.2 in
          let told : AreSame rest (under (name ∷ []) lw ++ member_leaves site us) =
          subst (λ o. AreSame rest (under o lw ++ member_leaves site us)) (ap option_to_list is_named.is) same_n in (
            w,
            us,
            refl,
            ascend_n,
            subst (λ a. AreSame a lw) here_is
                (subst (λ b. AreSame (inside name rest) b) (inside_first name lw (member_leaves site us) none_more) (same_inside name rest (under (name ∷ []) lw ++ member_leaves site us) told)),
            λ p. outside_same name rest (under (name ∷ []) lw ++ member_leaves site us) told p ∙ rest_again name lw (member_leaves site us) none_more p,
          ))
          whole.0 ascend.1 same

  -- one more member
  pub one_more : (v : Value) → inside name ls ≢ [] → TellHere (member_of site n) left (inside name ls) v
      → HalfMembers site left ls (suc n) (and_member ms n v) (taken + length (inside name ls)) (outside name rest)
  one_more v full told =
      let lv = leaves (member_of site n) (role_of (member_of site n).view) v in
      let one : WholeMember site n v = (name, is_named, λ none. full (is_none (inside name ls) (subst (AreSame (inside name ls)) none told.same))) in record {
        counted = let split = length_split name rest in let same = ap length here_is in let before = half.counted in omega (arith, split, same, before);
        ascend = ascend_more 0 n v ms half.ascend;
        whole = whole_more site ms n v half.whole one told.whole;
        nests = nests_more left ms n v half.nests told.nests;
        later = λ k other after is.
            others_stay name other rest (other_name k other (omega (arith, after)) is) ∙ half.later k other (omega (arith, after)) is;
        again =
            let split = part_again name rest lv (subst (λ a. AreSame a lv) (sym here_is) told.same) in
            let last : member_leaves site (member_value n v no_member_values) ≡ under (name ∷ []) lv = ap (λ o. under o lv ++ []) (ap option_to_list is_named.is) ∙ append-nil (under (name ∷ []) lv) in
            let all : member_leaves site (and_member ms n v) ++ outside name rest ≡ member_leaves site ms ++ (under (name ∷ []) lv ++ outside name rest) =
            ap (λ r. r ++ outside name rest) (leaves_more site ms n v ∙ ap (λ r. member_leaves site ms ++ r) last)
            ∙ append_assoc (member_leaves site ms) (under (name ∷ []) lv) (outside name rest) in
            λ p. half.again p ∙ same_behind (member_leaves site ms) rest (under (name ∷ []) lv ++ outside name rest) split p ∙ ap (text_at p) (sym all);
        others = λ ws are.
            let old = half.others ws are in
            let whole_us = others_whole site ms old.0 (subst (WholeMembers site) old.1 are.whole) in
            let next = next_is old.0 whole_us old.2 old.3 full in
            let whole_w = subst (WholeMembers site) next.2 whole_us in
            let is : v ≡ next.0 = same_value (member_of site n) (role_of (member_of site n).view) v next.0 told.whole whole_w.1 (λ p. sym (told.same p) ∙ next.4 p) in (
              next.1,
              old.1 ∙ ap (before_members ms) (next.2 ∙ ap (λ x. member_value n x next.1) (sym is)) ∙ sym (before_more ms n v next.1),
              next.3,
              next.5,
            );
      }

  -- a member that means nothing: there are no such members
  pub one_refused : inside name ls ≢ [] → TellNothing (member_of site n) left (inside name ls) → (ws : MemberValues) → AreMembers site left ls ws → ⊥
  one_refused full nothing ws are =
      let old = half.others ws are in
      let whole_us = others_whole site ms old.0 (subst (WholeMembers site) old.1 are.whole) in
      let deep = others_nest left ms old.0 (subst (λ x. members_nesting x ≤ left) old.1 are.nests) in
      let next = next_is old.0 whole_us old.2 old.3 full in
      let whole_w = subst (WholeMembers site) next.2 whole_us in
      let deep_w : members_nesting (member_value n next.0 next.1) ≤ left = subst (λ x. members_nesting x ≤ left) next.2 deep in
      nothing next.0 (record { whole = whole_w.1; nests = omega (arith, deep_w); same = next.4 })

-- no member is left, and leaves are: there are no such members
pub none_left : (site : Site) (left : ℕ) (ls : List Leaf) (n : ℕ) (ms : MemberValues) (taken : ℕ) (rest : List Leaf) → HalfMembers site left ls n ms taken rest
    → length (members_of (kind_at site)) ≤ n → taken < length ls → (ws : MemberValues) → AreMembers site left ls ws → ⊥
none_left site left ls n ms taken rest half past before ws are =
    let old = half.others ws are in
    by old.0 (others_whole site ms old.0 (subst (WholeMembers site) old.1 are.whole)) old.2 old.3
  where
    within : {X : Type 0} (xs : List X) (k : ℕ) (x : X) → slice_get xs k ≡ Some x → k < length xs
    within [] k x found = absurd (let e : None ≡ Some x = found in cc)
    within (y ∷ xs) zero x found = omega arith
    within (y ∷ xs) (suc k) x found = let more = within xs k x found in omega (arith, more)

    by : (us : MemberValues) → WholeMembers site us → AscendFrom n us → AreSame rest (member_leaves site us) → ⊥
    by no_member_values whole ascend same = let empty = ap length (is_none rest same) in let c = half.counted in omega (arith, empty, c, before)
    by (member_value k w us) whole ascend same =
        let found = within (members_of (kind_at site)) k whole.0.1.member whole.0.1.found in omega (arith, found, past, ascend.0)
