-- What the reading of a list, and the loop over its elements, know at their places.
use Rattle.std.proofs.Common.{◌≡◌, ◌≢◌, ◌<◌, ◌≤◌, ◌+◌, ℕ, suc, List, [], ◌∷◌, ◌++◌, length, decimal, ◌==◌, Bool, true, false, Some, refl, sym, ◌∙◌, ap, subst, arith}
use Rattle.std.proofs.lemmas.Bool.Decides.{nat_tests}
use Rattle.std.proofs.lemmas.List.{length-map, map-append}
use Rattle.smithy_declarations.specs.Table.{IsList}
use Rattle.smithy_declarations.specs.Value.{list, Values, no_values, value, values_of}
use Rattle.smithy_shapes.specs.Site.{Site, kind_at, element_of}
use Rattle.smithy_query_codec.specs.Leaves.{Leaf, leaf, MemberRole, flat_member, member, neither, role_of, element_name}
use Rattle.smithy_value.specs.declared.value.Value as kept
use Rattle.smithy_value.specs.View.{view, view_elements}
use Rattle.smithy_form.specs.declared.pairs.Pair.{Pair}
use Rattle.smithy_form.specs.Lookup.{inside, outside, text_at}
use Rattle.smithy_form.specs.Private.Answers.{IsEmptyList}
use Rattle.smithy_form.specs.Private.Kept.{kept_leaves}
use Rattle.smithy_form.specs.Private.Names.{is_flat, is_member}
use Rattle.smithy_form.specs.Private.Reading.{TellHere, TellNothing, AreElements, limit}
use Rattle.smithy_form.proofs.HalfElements.{HalfElements, begun_elements, one_more, one_missing, one_refused, all_taken, count_is}
use Rattle.smithy_form.proofs.LookupLemmas.{is_none}
use Rattle.smithy_form.proofs.PartAnswers.{none_kept, some_kept, length_kept}
use Rattle.smithy_form.proofs.ReadLemmas.{ListParts, list_made, flat_list_made, empty_list_made, list_told}
use Rattle.smithy_form.proofs.Splits.{length_split}

-- ---- roles

pub flat_role : (role : MemberRole) → is_flat role ≡ true → role ≡ flat_member
flat_role flat_member h = refl
flat_role member h = cc
flat_role neither h = cc

pub not_flat : (role : MemberRole) → is_flat role ≡ false → role ≢ flat_member
not_flat flat_member h = λ e. let no : true ≡ false = h in cc
not_flat member h = λ e. cc
not_flat neither h = λ e. cc

pub member_role : (role : MemberRole) → is_member role ≡ true → role ≢ neither
member_role flat_member h = λ e. cc
member_role member h = λ e. cc
member_role neither h = λ e. let no : false ≡ true = h in cc

pub no_member_role : (role : MemberRole) → is_member role ≡ false → role ≢ neither → ⊥
no_member_role flat_member h = λ placed. let no : true ≡ false = h in cc
no_member_role member h = λ placed. let no : true ≡ false = h in cc
no_member_role neither h = λ placed. placed refl

-- ---- lists

no_bytes : (t : List ℕ) → (length t == 0) ≡ true → t ≡ []
no_bytes [] h = refl
no_bytes (b ∷ t) h = absurd (let none : length (b ∷ t) ≡ 0 = grind (arith, nat_tests) in omega (arith, none))

-- the one text is that of a list without elements, where it is empty
pub is_empty : (role : MemberRole) (ls : List Leaf) (t : List ℕ) (b : Bool) → role ≢ neither → ls ≡ leaf t ∷ [] → b ≡ (length t == 0) → IsEmptyList role ls b
is_empty role ls t true placed is empty = (placed, is ∙ ap (λ u. leaf u ∷ []) (no_bytes t (sym empty)))
is_empty role ls t false placed is full =
    λ here same.
    let text : Some t ≡ Some [] = ap (text_at []) (sym is) ∙ same [] in
    let none : t ≡ [] = cc in
    let no : true ≡ false = ap (λ (u : List ℕ). length u == 0) (sym none) ∙ sym full in cc

-- what the pairs are found under: they are all there
pub record AreInside (name : List ℕ) (at : ℕ) (pairs : List Pair) (next : ℕ) (found : List Pair) : Type 0 where
  pub is : kept_leaves next found ≡ inside name (kept_leaves at pairs)

none_of : (xs : List Leaf) → length xs ≤ 0 → xs ≡ []
none_of [] h = refl
none_of (x ∷ xs) h = absurd (omega (arith, h))

-- no pairs stand beside them
pub none_beside : (name : List ℕ) (at : ℕ) (pairs : List Pair) (next : ℕ) (found : List Pair) → AreInside name at pairs next found → length pairs ≤ length found
    → outside name (kept_leaves at pairs) ≡ []
none_beside name at pairs next found under all =
    let split = length_split name (kept_leaves at pairs) in
    let size = sym (ap length under.is) ∙ length_kept next found in
    let whole = length_kept at pairs in none_of (outside name (kept_leaves at pairs)) (omega (arith, split, size, whole, all))

pub some_beside : (name : List ℕ) (at : ℕ) (pairs : List Pair) (next : ℕ) (found : List Pair) → AreInside name at pairs next found → length found < length pairs
    → outside name (kept_leaves at pairs) ≡ [] → ⊥
some_beside name at pairs next found under fewer none =
    let split = length_split name (kept_leaves at pairs) in
    let size = sym (ap length under.is) ∙ length_kept next found in
    let whole = length_kept at pairs in
    let beside = ap length none in omega (arith, split, size, whole, beside, fewer)

-- all pairs are there, so there are some
pub still_some : (pairs found : List Pair) → pairs ≢ [] → length pairs ≤ length found → found ≢ []
still_some [] found some all none = some refl
still_some (x ∷ pairs) found some all none = let empty = ap length none in omega (arith, empty, all)

pub some_inside : (name : List ℕ) (at : ℕ) (pairs : List Pair) (next : ℕ) (found : List Pair) → AreInside name at pairs next found → pairs ≢ [] → length pairs ≤ length found
    → inside name (kept_leaves at pairs) ≢ []
some_inside name at pairs next found under some all none = by pairs some all
  where
    size : length found ≡ 0
    size = sym (length_kept next found) ∙ ap length (under.is ∙ none)

    by : (xs : List Pair) → xs ≢ [] → length xs ≤ length found → ⊥
    by [] full few = full refl
    by (x ∷ xs) full few = let s = size in omega (arith, s, few)

module _ (site : Site) (left at : ℕ) (pairs : List Pair) (kind : IsList (kind_at site)) (some : pairs ≢ []) where
  -- the list has no elements
  pub empty_read : IsEmptyList (role_of site.view) (kept_leaves at pairs) true → TellHere site (suc left) (kept_leaves at pairs) (list no_values)
  empty_read is = empty_list_made site left (kept_leaves at pairs) kind is.0 is.1

  -- a list with no elements isn't told
  not_silent : (vs : Values) → ListParts site left (kept_leaves at pairs) vs → IsEmptyList (role_of site.view) (kept_leaves at pairs) false → vs ≢ no_values
  not_silent vs parts not_empty none = by (role_of site.view) refl
    where
      by : (role : MemberRole) → role_of site.view ≡ role → ⊥
      by neither is = some_kept at pairs some (parts.silent none is)
      by flat_member is = let placed : role_of site.view ≢ neither = λ e. let no : flat_member ≡ neither = sym is ∙ e in cc in not_empty placed (parts.empty none placed)
      by member is = let placed : role_of site.view ≢ neither = λ e. let no : member ≡ neither = sym is ∙ e in cc in not_empty placed (parts.empty none placed)

  -- the elements of a flat list
  pub flat_read : is_flat (role_of site.view) ≡ true → (vs : Values) → AreElements (element_of site) left (kept_leaves at pairs) vs → TellHere site (suc left) (kept_leaves at pairs) (list vs)
  flat_read flat no_values are = absurd (some_kept at pairs some (is_none (kept_leaves at pairs) are.same))
  flat_read flat (value v vs) are = flat_list_made site left (kept_leaves at pairs) v vs kind (flat_role (role_of site.view) flat) are

  pub flat_refused : is_flat (role_of site.view) ≡ true → IsEmptyList (role_of site.view) (kept_leaves at pairs) false
      → ((ws : Values) → AreElements (element_of site) left (kept_leaves at pairs) ws → ⊥) → TellNothing site (suc left) (kept_leaves at pairs)
  flat_refused flat not_empty nothing v told =
      let l = list_told site left (kept_leaves at pairs) v kind told in
      nothing l.0 (l.2.flat (flat_role (role_of site.view) flat) (not_silent l.0 l.2 not_empty))

  module _ (next : ℕ) (found : List Pair) (under : AreInside (element_name site) at pairs next found) where
    -- those of a list that isn't flat
    pub named_read : is_flat (role_of site.view) ≡ false → length pairs ≤ length found → (vs : Values) → AreElements (element_of site) left (kept_leaves next found) vs
        → TellHere site (suc left) (kept_leaves at pairs) (list vs)
    named_read plain all no_values are =
        absurd (some_inside (element_name site) at pairs next found under some all (sym under.is ∙ is_none (kept_leaves next found) are.same))
    named_read plain all (value v vs) are =
        list_made site left (kept_leaves at pairs) v vs kind (not_flat (role_of site.view) plain) (none_beside (element_name site) at pairs next found under all)
        (subst (λ xs. AreElements (element_of site) left xs (value v vs)) under.is are)

    pub named_refused : is_flat (role_of site.view) ≡ false → IsEmptyList (role_of site.view) (kept_leaves at pairs) false
        → ((ws : Values) → AreElements (element_of site) left (kept_leaves next found) ws → ⊥) → TellNothing site (suc left) (kept_leaves at pairs)
    named_refused plain not_empty nothing v told =
        let l = list_told site left (kept_leaves at pairs) v kind told in
        nothing l.0 (subst (λ xs. AreElements (element_of site) left xs l.0) (sym under.is)
        (l.2.named (not_flat (role_of site.view) plain) (not_silent l.0 l.2 not_empty)).1)

    pub elements_beside : is_flat (role_of site.view) ≡ false → IsEmptyList (role_of site.view) (kept_leaves at pairs) false → length found < length pairs
        → TellNothing site (suc left) (kept_leaves at pairs)
    elements_beside plain not_empty fewer v told =
        let l = list_told site left (kept_leaves at pairs) v kind told in
        some_beside (element_name site) at pairs next found under fewer (l.2.named (not_flat (role_of site.view) plain) (not_silent l.0 l.2 not_empty)).0

-- ---- elements

-- so many pairs were taken by these elements
abbrev pub Half : Site → ℕ → List Leaf → List kept.Value → ℕ → Type 0
Half site left ls items taken = ((rest : List Leaf) × HalfElements site left ls (view_elements items) taken rest) × (length items ≤ taken)

pub begun : (site : Site) (left : ℕ) (ls : List Leaf) (items : List kept.Value) → items ≡ [] → Half site left ls items 0
begun site left ls items none = subst (λ (xs : List kept.Value). Half site left ls xs 0) (sym none) ((ls, begun_elements site left ls), omega arith)

pub some_pairs : (xs : List Pair) → xs ≢ [] → 0 < length xs
some_pairs [] full = absurd (full refl)
some_pairs (x ∷ xs) full = omega arith

-- what was found for the next element
pub record IsNext (site : Site) (at : ℕ) (pairs : List Pair) (count : ℕ) (next : ℕ) (found : List Pair) : Type 0 where
  pub nameless : role_of site.view ≡ neither
  pub is : kept_leaves next found ≡ inside (decimal (suc count)) (kept_leaves at pairs)

module _ (site : Site) (left at : ℕ) (pairs : List Pair) (items : List kept.Value) (taken : ℕ) (half : Half site left (kept_leaves at pairs) items taken) (few : length pairs < limit) where
  same_length : length (view_elements items) ≡ length items
  same_length = length-map items view

  -- all pairs were taken
  pub elements_read : length pairs ≤ taken → AreElements site left (kept_leaves at pairs) (values_of (view_elements items))
  elements_read all =
      let l = length_kept at pairs in record {
        whole = half.0.1.whole;
        few = let c = count_is (view_elements items) in let s = same_length in let f = few in let b = half.1 in let counted = half.0.1.counted in omega (arith, c, s, b, f, counted, l);
        nests = half.0.1.nests;
        same = all_taken site left (kept_leaves at pairs) (view_elements items) taken half.0.0 half.0.1 (omega (arith, all, l));
      }

  module _ (next : ℕ) (found : List Pair) (due : IsNext site at pairs (length items) next found) (before : taken < length pairs) where
    found_is : kept_leaves next found ≡ inside (decimal (suc (length (view_elements items)))) (kept_leaves at pairs)
    found_is = due.is ∙ ap (λ n. inside (decimal (suc n)) (kept_leaves at pairs)) (sym same_length)

    small : suc (length (view_elements items)) < limit
    small = let s = same_length in let b = before in let f = few in let h = half.1 in omega (arith, s, b, f, h)

    full : found ≢ [] → inside (decimal (suc (length (view_elements items)))) (kept_leaves at pairs) ≢ []
    full some none = some_kept next found some (found_is ∙ none)

    -- with it no more leaves are taken than there are
    pub taken_within : taken + length found ≤ length pairs
    taken_within =
        let here = decimal (suc (length (view_elements items))) in
        let is = half.0.1.later (suc (length (view_elements items))) (omega arith) small in
        let split = length_split here half.0.0 in
        let same = ap length is in
        let found_size = sym (ap length found_is) ∙ length_kept next found in
        let c = half.0.1.counted in
        let l = length_kept at pairs in omega (arith, split, same, found_size, c, l)

    -- the element has no pairs
    pub missing : length found ≡ 0 → (ws : Values) → AreElements site left (kept_leaves at pairs) ws → ⊥
    missing none =
        one_missing site left (kept_leaves at pairs) (view_elements items) taken half.0.0 half.0.1 due.nameless small
        (let b = before in let l = length_kept at pairs in omega (arith, b, l)) (sym found_is ∙ none_kept next found none)

    -- it was refused
    pub refused : found ≢ [] → TellNothing site left (kept_leaves next found) → (ws : Values) → AreElements site left (kept_leaves at pairs) ws → ⊥
    refused some nothing =
        one_refused site left (kept_leaves at pairs) (view_elements items) taken half.0.0 half.0.1 due.nameless small (full some) (subst (TellNothing site left) found_is nothing)

    -- it was read
    pub more : (v : kept.Value) → found ≢ [] → TellHere site left (kept_leaves next found) (view v) → Half site left (kept_leaves at pairs) (items ++ v ∷ []) (taken + length found)
    more v some told =
        let here = decimal (suc (length (view_elements items))) in
        let one =
        one_more site left (kept_leaves at pairs) (view_elements items) taken half.0.0 half.0.1 due.nameless small (view v) (full some)
        (subst (λ ls. TellHere site left ls (view v)) found_is told) in
        let size : length (inside here (kept_leaves at pairs)) ≡ length found = sym (ap length found_is) ∙ length_kept next found in
        let all : view_elements items ++ view v ∷ [] ≡ view_elements (items ++ v ∷ []) = sym (map-append view items (v ∷ [])) in
        let long : length (items ++ v ∷ []) ≡ suc (length items) = one_longer items in
        let positive = some_pairs found some in
        let short = half.1 in (
          (
            outside here half.0.0,
            subst (λ es. HalfElements site left (kept_leaves at pairs) es (taken + length found) (outside here half.0.0)) all
                (subst (λ n. HalfElements site left (kept_leaves at pairs) (view_elements items ++ view v ∷ []) (taken + n) (outside here half.0.0)) size one),
          ),
          omega (arith, long, short, positive),
        )
      where
        one_longer : (xs : List kept.Value) → length (xs ++ v ∷ []) ≡ suc (length xs)
        one_longer [] = refl
        one_longer (x ∷ xs) = ap suc (one_longer xs)
