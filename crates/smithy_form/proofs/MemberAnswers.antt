-- What a loop over the members of a structure or a union knows at its places.
use Rattle.std.proofs.Common.{◌≡◌, ◌≢◌, ◌<◌, ◌≤◌, ◌+◌, ℕ, suc, List, [], ◌∷◌, length, Bool, true, false, Some, None, refl, sym, ◌∙◌, ap, subst, arith, ◌⊎◌, inl, inr}
use Rattle.std.specs.Prelude.{bytes_eq}
use Rattle.std.specs.Ordering.{nat_cmp}
use Rattle.std.specs.BTreeMap.{insert_entry}
use Rattle.std.proofs.lemmas.Slice.Eq.{bytes_eq-Decides}
use Rattle.smithy_declarations.specs.Table.{IsStructure, IsUnion, members_of}
use Rattle.smithy_declarations.specs.Value.{Value, structure, union}
use Rattle.smithy_shapes.specs.Accepted.{IsAccepted}
use Rattle.smithy_shapes.specs.Site.{Site, kind_at, member_site, member_of}
use Rattle.smithy_query_codec.specs.Leaves.{Leaf, query_name}
use Rattle.smithy_value.specs.declared.value.Value as kept
use Rattle.smithy_value.specs.View.{view, view_members}
use Rattle.smithy_form.specs.declared.pairs.Pair.{Pair}
use Rattle.smithy_form.specs.Lookup.{inside, outside}
use Rattle.smithy_form.specs.Private.Kept.{kept_leaves}
use Rattle.smithy_form.specs.Private.Reading.{TellHere, TellNothing, and_member}
use Rattle.smithy_form.specs.Private.Whole.{IsNamed}
use Rattle.smithy_form.proofs.HalfMembers.{HalfMembers, begun_members, one_absent, one_more, one_refused, none_left, all_members}
use Rattle.smithy_form.proofs.KeptMaps.{last_member}
use Rattle.smithy_form.proofs.PartAnswers.{none_kept, some_kept, length_kept}
use Rattle.smithy_form.proofs.PartSites.{member_is, member_named, some_below, none_past, apart_here}
use Rattle.smithy_form.proofs.ReadLemmas.{structure_made, structure_told, union_made, union_told}
use Rattle.smithy_form.proofs.Splits.{length_split, others_stay}
use Rattle.smithy_form.proofs.UniqueValues.{order_of}

-- the members before a position were read
abbrev pub Half : Site → ℕ → List Leaf → ℕ → List (ℕ × kept.Value) → ℕ → Type 0
Half site left ls n items taken = (rest : List Leaf) × HalfMembers site left ls n (view_members items) taken rest

pub begun : (site : Site) (left : ℕ) (ls : List Leaf) (items : List (ℕ × kept.Value)) → items ≡ [] → Half site left ls 0 items 0
begun site left ls items none = subst (λ (xs : List (ℕ × kept.Value)). Half site left ls 0 xs 0) (sym none) (ls, begun_members site left ls)

-- the member that is due, and what was found under its name
pub record IsDue (site : Site) (at : ℕ) (pairs : List Pair) (n : ℕ) (member : Site) (name : List ℕ) (next : ℕ) (found : List Pair) : Type 0 where
  pub accepted : IsAccepted site.table
  pub there : Some member ≡ member_site site n
  pub named : query_name member.view ≡ Some name
  pub is : kept_leaves next found ≡ inside name (kept_leaves at pairs)

module _ (site : Site) (left at : ℕ) (pairs : List Pair) (n : ℕ) (member : Site) (name : List ℕ) (next : ℕ) (found : List Pair) (due : IsDue site at pairs n member name next found) where
  named_here : IsNamed site n name
  named_here = member_named site n member name due.there due.named

  full : found ≢ [] → inside name (kept_leaves at pairs) ≢ []
  full some none = some_kept next found some (due.is ∙ none)

  size : length (inside name (kept_leaves at pairs)) ≡ length found
  size = sym (ap length due.is) ∙ length_kept next found

  told_of : (v : Value) → TellHere member left (kept_leaves next found) v → TellHere (member_of site n) left (inside name (kept_leaves at pairs)) v
  told_of v told =
      subst (λ xs. TellHere (member_of site n) left xs v) due.is
      (subst (λ (s : Site). TellHere s left (kept_leaves next found) v) (member_is site n member due.there) told)

  told_back : (v : Value) → TellHere (member_of site n) left (inside name (kept_leaves at pairs)) v → TellHere member left (kept_leaves next found) v
  told_back v told =
      subst (λ xs. TellHere member left xs v) (sym due.is)
      (subst (λ (s : Site). TellHere s left (inside name (kept_leaves at pairs)) v) (sym (member_is site n member due.there)) told)

-- ---- structures

module _ (site : Site) (left at : ℕ) (pairs : List Pair) (n : ℕ) (items : List (ℕ × kept.Value)) (taken : ℕ) (half : Half site left (kept_leaves at pairs) n items taken) where
  -- all pairs were taken
  pub structure_read : IsStructure (kind_at site) → IsAccepted site.table → length pairs ≤ taken → TellHere site (suc left) (kept_leaves at pairs) (structure (view_members items))
  structure_read kind accepted all =
      structure_made site left (kept_leaves at pairs) (view_members items) kind (apart_here site accepted)
      (all_members site left (kept_leaves at pairs) n (view_members items) taken half.0 half.1 (let l = length_kept at pairs in omega (arith, all, l)))

  -- no member is left, and pairs are
  pub no_member : IsStructure (kind_at site) → None ≡ member_site site n → taken < length pairs → TellNothing site (suc left) (kept_leaves at pairs)
  no_member kind past before v told =
      let s = structure_told site left (kept_leaves at pairs) v kind told in
      none_left site left (kept_leaves at pairs) n (view_members items) taken half.0 half.1 (none_past site n past) (let l = length_kept at pairs in omega (arith, before, l)) s.0 s.2

  module _ (member : Site) (name : List ℕ) (next : ℕ) (found : List Pair) (due : IsDue site at pairs n member name next found) where
    -- the member is absent
    pub absent : length found ≡ 0 → Half site left (kept_leaves at pairs) (suc n) items taken
    absent none = (
      half.0,
      one_absent site (apart_here site due.accepted) left (kept_leaves at pairs) n (view_members items) taken half.0 half.1 name
          (named_here site left at pairs n member name next found due) (sym due.is ∙ none_kept next found none),
    )

    -- with it no more leaves are taken than there are
    pub taken_within : taken + length found ≤ length pairs
    taken_within =
        let ls = kept_leaves at pairs in
        let here = half.1.later n name (omega arith) (named_here site left at pairs n member name next found due) in
        let split = length_split name half.0 in
        let same = ap length here in
        let found_size = size site left at pairs n member name next found due in
        let c = half.1.counted in
        let l = length_kept at pairs in omega (arith, split, same, found_size, c, l)

    -- it was refused
    pub refused : IsStructure (kind_at site) → found ≢ [] → TellNothing member left (kept_leaves next found) → TellNothing site (suc left) (kept_leaves at pairs)
    refused kind some nothing v told =
        let s = structure_told site left (kept_leaves at pairs) v kind told in
        one_refused site (apart_here site due.accepted) left (kept_leaves at pairs) n (view_members items) taken half.0 half.1 name
        (named_here site left at pairs n member name next found due) (full site left at pairs n member name next found due some)
        (λ w w_told. nothing w (told_back site left at pairs n member name next found due w w_told)) s.0 s.2

    -- it was read
    pub more : (v : kept.Value) → found ≢ [] → TellHere member left (kept_leaves next found) (view v)
        → Half site left (kept_leaves at pairs) (suc n) (insert_entry nat_cmp items n v) (taken + length found)
    more v some told =
        let ls = kept_leaves at pairs in
        let one =
        one_more site (apart_here site due.accepted) left ls n (view_members items) taken half.0 half.1 name (named_here site left at pairs n member name next found due) (view v)
        (full site left at pairs n member name next found due some) (told_of site left at pairs n member name next found due (view v) told) in
        let all : and_member (view_members items) n (view v) ≡ view_members (insert_entry nat_cmp items n v) = sym (last_member 0 n v items half.1.ascend) in (
          outside name half.0,
          subst (λ ms. HalfMembers site left ls (suc n) ms (taken + length found) (outside name half.0)) all
              (subst (λ k. HalfMembers site left ls (suc n) (and_member (view_members items) n (view v)) (taken + k) (outside name half.0)) (size site left at pairs n member name next found due) one),
        )

-- ---- unions

-- no pair begins with the name of a member before the position
abbrev pub NoneBefore : Site → List Leaf → ℕ → Type 0
NoneBefore site ls n = (k : ℕ) (name : List ℕ) → k < n → IsNamed site k name → inside name ls ≡ []

pub none_before : (site : Site) (ls : List Leaf) → NoneBefore site ls 0
none_before site ls k name below is = absurd (omega (arith, below))

one_name : (site : Site) (n : ℕ) (name other : List ℕ) → IsNamed site n name → IsNamed site n other → name ≡ other
one_name site n name other first second = let e : Some name ≡ Some other = sym first.is ∙ second.is in cc

none_of : (xs : List Leaf) → length xs ≤ 0 → xs ≡ []
none_of [] h = refl
none_of (x ∷ xs) h = absurd (omega (arith, h))

module _ (site : Site) (left at : ℕ) (pairs : List Pair) (n : ℕ) where
  -- no member is left
  pub no_variant : IsUnion (kind_at site) → NoneBefore site (kept_leaves at pairs) n → None ≡ member_site site n → TellNothing site (suc left) (kept_leaves at pairs)
  no_variant kind none past v told =
      let u = union_told site left (kept_leaves at pairs) v kind told in
      let below = some_below (members_of (kind_at site)) u.0 u.4.member u.4.found in
      let least = none_past site n past in
      u.5 (none u.0 u.2 (omega (arith, below, least)) u.4)

  module _ (member : Site) (name : List ℕ) (next : ℕ) (found : List Pair) (due : IsDue site at pairs n member name next found) where
    -- it isn't this member
    pub not_this : NoneBefore site (kept_leaves at pairs) n → length found ≡ 0 → NoneBefore site (kept_leaves at pairs) (suc n)
    not_this none empty k other below is = by (order_of k n)
      where
        by : (k < n) ⊎ ((n < k) ⊎ (k ≡ n)) → inside other (kept_leaves at pairs) ≡ []
        by (inl before) = none k other before is
        by (inr (inl after)) = absurd (omega (arith, after, below))
        by (inr (inr same)) =
            let here = subst (λ (x : ℕ). IsNamed site x other) same is in
            let text = one_name site n other name here (named_here site left at pairs n member name next found due) in
            ap (λ s. inside s (kept_leaves at pairs)) text ∙ sym due.is ∙ none_kept next found empty

    -- where a union is told, it is this member
    this_name : (other : List ℕ) → found ≢ [] → outside other (kept_leaves at pairs) ≡ [] → other ≡ name
    this_name other some none = by (bytes_eq other name) refl
      where
        by : (b : Bool) → bytes_eq other name ≡ b → other ≡ name
        by true is = (bytes_eq-Decides other name).0 is
        by false is =
            let apart : name ≢ other = λ e. let no : true ≡ false = sym ((bytes_eq-Decides other name).1 (sym e)) ∙ is in cc in
            absurd (full site left at pairs n member name next found due some (sym (others_stay other name (kept_leaves at pairs) apart) ∙ ap (inside name) none))

    -- pairs are left beside those of the member
    pub others_left : IsUnion (kind_at site) → found ≢ [] → length found < length pairs → TellNothing site (suc left) (kept_leaves at pairs)
    others_left kind some fewer v told =
        let ls = kept_leaves at pairs in
        let u = union_told site left ls v kind told in
        let text = this_name u.2 some u.6 in
        let split = length_split name ls in
        let none = ap length (ap (λ s. outside s ls) (sym text) ∙ u.6) in
        let found_size = size site left at pairs n member name next found due in
        let all = length_kept at pairs in
        omega (arith, split, none, found_size, all, fewer)

    -- its value was refused
    pub variant_refused : IsUnion (kind_at site) → found ≢ [] → TellNothing member left (kept_leaves next found) → TellNothing site (suc left) (kept_leaves at pairs)
    variant_refused kind some nothing v told =
        let ls = kept_leaves at pairs in
        let u = union_told site left ls v kind told in
        let text = this_name u.2 some u.6 in
        let same = apart_here site due.accepted u.0 n name (subst (IsNamed site u.0) text u.4) (named_here site left at pairs n member name next found due) in
        let here = subst (λ (x : ℕ). TellHere (member_of site x) left (inside name ls) u.1) same (subst (λ s. TellHere (member_of site u.0) left (inside s ls) u.1) text u.7) in
        nothing u.1 (told_back site left at pairs n member name next found due u.1 here)

    -- its value was read
    pub union_read : IsUnion (kind_at site) → found ≢ [] → length pairs ≤ length found → (v : Value) → TellHere member left (kept_leaves next found) v
        → TellHere site (suc left) (kept_leaves at pairs) (union n v)
    union_read kind some all v told =
        let ls = kept_leaves at pairs in
        let split = length_split name ls in
        let found_size = size site left at pairs n member name next found due in
        let whole = length_kept at pairs in
        union_made site left ls n name v kind (apart_here site due.accepted) (named_here site left at pairs n member name next found due)
        (full site left at pairs n member name next found due some) (none_of (outside name ls) (omega (arith, split, found_size, whole, all)))
        (told_of site left at pairs n member name next found due v told)
