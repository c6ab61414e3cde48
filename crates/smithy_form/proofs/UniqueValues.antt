-- No two values that a form tells whole have the same leaves.
use Rattle.std.proofs.Common.{◌≡◌, ◌≢◌, ◌<◌, ◌≤◌, ◌+◌, ℕ, zero, suc, List, [], ◌∷◌, ◌++◌, true, false, Some, option_to_list, codes, decimal, refl, sym, ◌∙◌, ap, subst, arith, ◌⊎◌, inl, inr}
use Rattle.smithy_declarations.specs.declared.place.Place.{Place}
use Rattle.smithy_declarations.specs.Table.{Table, kind_of, IsDocument, Kind, scalar, document, structure_of, union_of, list_of, map_of, nothing, IsStructure, IsUnion, IsList, IsMap}
use Rattle.smithy_declarations.specs.Value.{ScalarValue, Value, scalar_value, list, map, structure, union, null_element, document_value, Values, no_values, value, MapEntries, no_map_entries, map_entry, MemberValues, no_member_values, member_value}
use Rattle.smithy_shapes.specs.Fits.{is_scalar_of, AscendFrom, FitsOr}
use Rattle.smithy_shapes.specs.Site.{Site, kind_at, element_of, value_of, member_of}
use Rattle.smithy_schema.specs.Writing.{count_of, entry_count}
use Rattle.smithy_query_codec.specs.Leaves.{Leaf, MemberRole, neither, under, numbered, query_name, role_of, element_name, key_name, value_name, inner_path, form_at, entry_part, leaves, element_leaves, entry_leaves, member_leaves}
use Rattle.smithy_query_codec.proofs.DistinctLemmas.{length_elements, length_entries}
use Rattle.smithy_form.specs.Lookup.{inside, AreSame}
use Rattle.smithy_form.specs.Private.Whole.{IsNamed, AreNamesApart, WholeMember, IsWhole, WholeElements, WholeEntries, WholeMembers}
use Rattle.smithy_form.proofs.LookupLemmas.{is_none, same_inside}
use Rattle.smithy_form.proofs.PartLemmas.{inside_first, inside_more, first_same, rest_same, under_same, no_number_here, none_later, entry_same, list_same, one_segment}
use Rattle.smithy_form.proofs.ScalarTexts.{one_text}

-- ---- which value the kind asks for

abbrev pub sort_of : Value → ℕ
sort_of (scalar_value x) = 0
sort_of (list vs) = 1
sort_of (map es) = 2
sort_of (structure ms) = 3
sort_of (union n v) = 4
sort_of null_element = 5
sort_of (document_value d) = 6

pub kind_sort : Kind → ℕ
kind_sort (scalar s) = 0
kind_sort (list_of l) = 1
kind_sort (map_of m) = 2
kind_sort (structure_of ms) = 3
kind_sort (union_of ms) = 4
kind_sort document = 6
kind_sort nothing = 7

pub scalar_sort : (k : Kind) (x : ScalarValue) → is_scalar_of k x ≡ true → kind_sort k ≡ 0
unfolding kind_sort
scalar_sort (scalar s) x h = refl
scalar_sort _ x h = cc

pub list_sort : (k : Kind) → IsList k → kind_sort k ≡ 1
unfolding kind_sort
list_sort (list_of l) h = refl
list_sort _ h = absurd h

pub map_sort : (k : Kind) → IsMap k → kind_sort k ≡ 2
unfolding kind_sort
map_sort (map_of m) h = refl
map_sort _ h = absurd h

pub structure_sort : (k : Kind) → IsStructure k → kind_sort k ≡ 3
unfolding kind_sort
structure_sort (structure_of ms) h = refl
structure_sort _ h = absurd h

pub union_sort : (k : Kind) → IsUnion k → kind_sort k ≡ 4
unfolding kind_sort
union_sort (union_of ms) h = refl
union_sort _ h = absurd h

pub sort_is : (site : Site) (v : Value) → IsWhole site v → kind_sort (kind_at site) ≡ sort_of v
sort_is site (scalar_value x) h = scalar_sort (kind_at site) x h.0
sort_is site (list vs) h = list_sort (kind_at site) h.0
sort_is site (map es) h = map_sort (kind_at site) h.0
sort_is site (structure ms) h = structure_sort (kind_at site) h.0
sort_is site (union n v) h = union_sort (kind_at site) h.0
sort_is site null_element h = absurd h
sort_is site (document_value d) h = absurd h

one_sort : (site : Site) (v w : Value) → IsWhole site v → IsWhole site w → sort_of v ≡ sort_of w
one_sort site v w hv hw = sym (sort_is site v hv) ∙ sort_is site w hw

-- ---- members

pub named : (site : Site) (n : ℕ) (v : Value) (h : WholeMember site n v) → option_to_list (query_name (member_of site n).view) ≡ h.0 ∷ []
named site n v h = ap option_to_list h.1.is

-- no later member begins with the name
pub none_of_later : (site : Site) → AreNamesApart site → (n : ℕ) (name : List ℕ) → IsNamed site n name → (least : ℕ) (ms : MemberValues)
    → n < least → AscendFrom least ms → WholeMembers site ms → inside name (member_leaves site ms) ≡ []
none_of_later site apart n name is least no_member_values before ascend h = refl
none_of_later site apart n name is least (member_value k v ms) before ascend h =
    let other : name ≢ h.0.0 = λ e.
    let same = apart n k name is (subst (IsNamed site k) (sym e) h.0.1) in omega (arith, same, before, ascend.0) in
    let ls = leaves (member_of site k) (role_of (member_of site k).view) v in
    rw (named site k v h.0)
    (inside_more name h.0.0 ls (member_leaves site ms) other
    ∙ none_of_later site apart n name is (suc k) ms (omega (arith, before, ascend.0)) ascend.1 h.2)

-- the leaves of a member behind which none begins with its name
member_first : (site : Site) (n : ℕ) (v : Value) (ms : MemberValues) → (h : WholeMember site n v) → inside h.0 (member_leaves site ms) ≡ []
    → inside h.0 (member_leaves site (member_value n v ms)) ≡ leaves (member_of site n) (role_of (member_of site n).view) v
member_first site n v ms h none =
    let ls = leaves (member_of site n) (role_of (member_of site n).view) v in
    rw (named site n v h) (inside_first h.0 ls (member_leaves site ms) none)

-- a member that is missing on the other side
one_missing : (site : Site) (n : ℕ) (v : Value) (ms : MemberValues) (others : List Leaf) (h : WholeMember site n v) → inside h.0 (member_leaves site ms) ≡ []
    → inside h.0 others ≡ [] → AreSame (member_leaves site (member_value n v ms)) others → ⊥
one_missing site n v ms others h none missing same =
    let ls = leaves (member_of site n) (role_of (member_of site n).view) v in
    let empty : AreSame ls [] =
    subst (λ a. AreSame a []) (member_first site n v ms h none)
    (subst (λ b. AreSame (inside h.0 (member_leaves site (member_value n v ms))) b) missing (same_inside h.0 _ _ same)) in
    h.2 (is_none ls empty)

-- two members of one position
module _ (site : Site) (apart : AreNamesApart site) (n : ℕ) (v w : Value) (ms ws : MemberValues)
    (hv : WholeMember site n v) (hw : WholeMember site n w)
    (ascend_v : AscendFrom (suc n) ms) (ascend_w : AscendFrom (suc n) ws) (more_v : WholeMembers site ms) (more_w : WholeMembers site ws)
    (same : AreSame (member_leaves site (member_value n v ms)) (member_leaves site (member_value n w ws))) where
  one_name : hw.0 ≡ hv.0
  one_name = let e : Some hw.0 ≡ Some hv.0 = sym hw.1.is ∙ hv.1.is in cc

  none_v : inside hv.0 (member_leaves site ms) ≡ []
  none_v = none_of_later site apart n hv.0 hv.1 (suc n) ms (omega arith) ascend_v more_v

  none_w : inside hv.0 (member_leaves site ws) ≡ []
  none_w = none_of_later site apart n hv.0 hv.1 (suc n) ws (omega arith) ascend_w more_w

  abbrev here : Value → List Leaf
  here x = leaves (member_of site n) (role_of (member_of site n).view) x

  named_same : AreSame (under (hv.0 ∷ []) (here v) ++ member_leaves site ms) (under (hv.0 ∷ []) (here w) ++ member_leaves site ws)
  named_same = subst (λ o. AreSame (under o (here v) ++ member_leaves site ms) (under o (here w) ++ member_leaves site ws)) (named site n v hv) same

  member_same : AreSame (here v) (here w)
  member_same = first_same hv.0 (here v) (here w) (member_leaves site ms) (member_leaves site ws) none_v none_w named_same

  others_same : AreSame (member_leaves site ms) (member_leaves site ws)
  others_same = rest_same hv.0 (here v) (here w) (member_leaves site ms) (member_leaves site ws) none_v none_w named_same

pub order_of : (n k : ℕ) → (n < k) ⊎ ((k < n) ⊎ (n ≡ k))
order_of zero zero = inr (inr refl)
order_of zero (suc k) = inl (omega arith)
order_of (suc n) zero = inr (inl (omega arith))
order_of (suc n) (suc k) = by (order_of n k)
  where
    by : (n < k) ⊎ ((k < n) ⊎ (n ≡ k)) → (suc n < suc k) ⊎ ((suc k < suc n) ⊎ (suc n ≡ suc k))
    by (inl less) = inl (omega (arith, less))
    by (inr (inl more)) = inr (inl (omega (arith, more)))
    by (inr (inr same)) = inr (inr (ap suc same))

-- the first members of two structures, where what follows of their values and of the others is known
first_members : (site : Site) → AreNamesApart site → (least n k : ℕ) (v w : Value) (ms ws : MemberValues)
    → AscendFrom least (member_value n v ms) → AscendFrom least (member_value k w ws) → WholeMembers site (member_value n v ms) → WholeMembers site (member_value k w ws)
    → ((u : Value) → IsWhole (member_of site n) u → AreSame (leaves (member_of site n) (role_of (member_of site n).view) v) (leaves (member_of site n) (role_of (member_of site n).view) u) → v ≡ u)
    → ((us : MemberValues) → AscendFrom (suc n) us → WholeMembers site us → AreSame (member_leaves site ms) (member_leaves site us) → ms ≡ us)
    → AreSame (member_leaves site (member_value n v ms)) (member_leaves site (member_value k w ws)) → member_value n v ms ≡ member_value k w ws
first_members site apart least n k v w ms ws av aw hv hw same_value same_rest same = by (order_of n k)
  where
    by : (n < k) ⊎ ((k < n) ⊎ (n ≡ k)) → member_value n v ms ≡ member_value k w ws
    by (inl less) =
        absurd (one_missing site n v ms (member_leaves site (member_value k w ws)) hv.0
        (none_of_later site apart n hv.0.0 hv.0.1 (suc n) ms (omega arith) av.1 hv.2)
        (none_of_later site apart n hv.0.0 hv.0.1 k (member_value k w ws) less (omega arith, aw.1) hw) same)
    by (inr (inl more)) =
        absurd (one_missing site k w ws (member_leaves site (member_value n v ms)) hw.0
        (none_of_later site apart k hw.0.0 hw.0.1 (suc k) ws (omega arith) aw.1 hw.2)
        (none_of_later site apart k hw.0.0 hw.0.1 n (member_value n v ms) more (omega arith, av.1) hv) (λ p. sym (same p)))
    by (inr (inr is)) =
        subst (λ (x : ℕ). WholeMember site x w → IsWhole (member_of site x) w → AscendFrom (suc x) ws
        → AreSame (member_leaves site (member_value n v ms)) (member_leaves site (member_value x w ws)) → member_value n v ms ≡ member_value x w ws) is
        (λ whole_w value_w ascend_w same_n.
        let first = same_value w value_w (member_same site apart n v w ms ws hv.0 whole_w av.1 ascend_w hv.2 hw.2 same_n) in
        let rest = same_rest ws ascend_w hw.2 (others_same site apart n v w ms ws hv.0 whole_w av.1 ascend_w hv.2 hw.2 same_n) in
        rw (first, rest) refl)
        hw.0 hw.1 aw.1 same

-- ---- unions

-- two unions have one member
same_variant : (site : Site) → AreNamesApart site → (n k : ℕ) (v w : Value) (hv : WholeMember site n v) (hw : WholeMember site k w) → IsWhole (member_of site n) v → IsWhole (member_of site k) w
    → AreSame (leaves site neither (union n v)) (leaves site neither (union k w))
    → (n ≡ k) × IsWhole (member_of site n) w × AreSame (leaves (member_of site n) (role_of (member_of site n).view) v) (leaves (member_of site n) (role_of (member_of site n).view) w)
same_variant site apart n k v w hv hw value_v value_w same =
    let ls = leaves (member_of site n) (role_of (member_of site n).view) v in
    let us = leaves (member_of site k) (role_of (member_of site k).view) w in
    let told : AreSame (under (hv.0 ∷ []) ls) (under (hw.0 ∷ []) us) =
    subst (λ o. AreSame (under o ls) (under (hw.0 ∷ []) us)) (named site n v hv)
    (subst (λ o. AreSame (under (option_to_list (query_name (member_of site n).view)) ls) (under o us)) (named site k w hw) same) in
    let one = one_segment hv.0 hw.0 ls us hv.2 told in
    let is = apart n k hv.0 hv.1 (subst (IsNamed site k) (sym one) hw.1) in (
      is,
      subst (λ (x : ℕ). IsWhole (member_of site x) w) (sym is) value_w,
      under_same (hv.0 ∷ []) ls (leaves (member_of site n) (role_of (member_of site n).view) w)
          (subst (λ (x : ℕ). AreSame (under (hv.0 ∷ []) ls) (under (hv.0 ∷ []) (leaves (member_of site x) (role_of (member_of site x).view) w))) (sym is)
          (subst (λ s. AreSame (under (hv.0 ∷ []) ls) (under (s ∷ []) us)) (sym one) told)),
    )

-- ---- any value

full_first : (s : List ℕ) (ls xs : List Leaf) → inside s xs ≡ [] → ls ≢ [] → AreSame (under (s ∷ []) ls ++ xs) [] → ⊥
full_first s ls xs none full same = full (is_none ls (subst (λ a. AreSame a []) (inside_first s ls xs none) (same_inside s _ [] same)))

mutual
  pub same_value : (site : Site) (role : MemberRole) (v w : Value) → IsWhole site v → IsWhole site w → AreSame (leaves site role v) (leaves site role w) → v ≡ w
  same_value site role (scalar_value x) (scalar_value y) hv hw same =
      ap scalar_value (one_text (kind_at site) (form_at site) x y hv.0 hw.0 hv.1 hw.1 (let e = same [] in cc))
  same_value site role (list vs) (list ws) hv hw same =
      ap list (same_elements (element_of site) 1 vs ws (omega (arith, hv.1)) (omega (arith, hw.1)) hv.2 hw.2
      (list_same role (element_name site) (numbered 1 (element_leaves (element_of site) vs)) (numbered 1 (element_leaves (element_of site) ws))
      (no_number_here 1 (element_leaves (element_of site) vs)) (no_number_here 1 (element_leaves (element_of site) ws)) same))
  same_value site role (map es) (map fs) hv hw same =
      ap map (same_entries (key_name site) (value_name site) hv.1 (value_of site) 1 es fs (omega (arith, hv.4)) (omega (arith, hw.4)) hv.5 hw.5
      (under_same (inner_path role (codes "entry")) _ _ same))
  same_value site role (structure ms) (structure ws) hv hw same = ap structure (same_members site hv.1 0 ms ws hv.2 hw.2 hv.3 hw.3 same)
  same_value site role (union n v) (union k w) hv hw same =
      let first = same_variant site hv.1 n k v w hv.2 hw.2 hv.3 hw.3 same in
      rw (first.0, same_value (member_of site n) (role_of (member_of site n).view) v w hv.3 first.1 first.2) refl
  same_value site role null_element w hv hw same = absurd hv
  same_value site role (document_value d) w hv hw same = absurd hv
  same_value site role v null_element hv hw same = absurd hw
  same_value site role v (document_value d) hv hw same = absurd hw
  same_value site role v w hv hw same = absurd (omega (arith, one_sort site v w hv hw))

  same_elements : (site : Site) (i : ℕ) (vs ws : Values) → i + count_of vs ≤ 18446744073709551616 → i + count_of ws ≤ 18446744073709551616
      → WholeElements site vs → WholeElements site ws → AreSame (numbered i (element_leaves site vs)) (numbered i (element_leaves site ws)) → vs ≡ ws
  same_elements site i no_values no_values few_v few_w hv hw same = refl
  same_elements site i (value v vs) no_values few_v few_w hv hw same =
      absurd (full_first (decimal i) (leaves site neither v) (numbered (suc i) (element_leaves site vs))
      (none_later i (suc i) (element_leaves site vs) (omega arith) (omega (arith, few_v, length_elements site vs))) hv.0 same)
  same_elements site i no_values (value w ws) few_v few_w hv hw same =
      absurd (full_first (decimal i) (leaves site neither w) (numbered (suc i) (element_leaves site ws))
      (none_later i (suc i) (element_leaves site ws) (omega arith) (omega (arith, few_w, length_elements site ws))) hw.0 (λ p. sym (same p)))
  same_elements site i (value v vs) (value w ws) few_v few_w hv hw same =
      let xs = numbered (suc i) (element_leaves site vs) in
      let ys = numbered (suc i) (element_leaves site ws) in
      let none_x = none_later i (suc i) (element_leaves site vs) (omega arith) (omega (arith, few_v, length_elements site vs)) in
      let none_y = none_later i (suc i) (element_leaves site ws) (omega arith) (omega (arith, few_w, length_elements site ws)) in
      let first = same_value site neither v w hv.1 hw.1 (first_same (decimal i) (leaves site neither v) (leaves site neither w) xs ys none_x none_y same) in
      let rest = same_elements site (suc i) vs ws (omega (arith, few_v)) (omega (arith, few_w)) hv.2 hw.2 (rest_same (decimal i) (leaves site neither v) (leaves site neither w) xs ys none_x none_y same) in
      rw (first, rest) refl

  same_entries : (keys vals : List ℕ) → keys ≢ vals → (site : Site) (i : ℕ) (es fs : MapEntries) → i + entry_count es ≤ 18446744073709551616 → i + entry_count fs ≤ 18446744073709551616
      → WholeEntries site es → WholeEntries site fs → AreSame (numbered i (entry_leaves keys vals site es)) (numbered i (entry_leaves keys vals site fs)) → es ≡ fs
  same_entries keys vals apart site i no_map_entries no_map_entries few_v few_w hv hw same = refl
  same_entries keys vals apart site i (map_entry key v es) no_map_entries few_v few_w hv hw same =
      absurd (full_first (decimal i) (entry_part keys vals key (leaves site neither v)) (numbered (suc i) (entry_leaves keys vals site es))
      (none_later i (suc i) (entry_leaves keys vals site es) (omega arith) (omega (arith, few_v, length_entries keys vals site es))) (λ e. cc) same)
  same_entries keys vals apart site i no_map_entries (map_entry key w fs) few_v few_w hv hw same =
      absurd (full_first (decimal i) (entry_part keys vals key (leaves site neither w)) (numbered (suc i) (entry_leaves keys vals site fs))
      (none_later i (suc i) (entry_leaves keys vals site fs) (omega arith) (omega (arith, few_w, length_entries keys vals site fs))) (λ e. cc) (λ p. sym (same p)))
  same_entries keys vals apart site i (map_entry key v es) (map_entry other w fs) few_v few_w hv hw same =
      let one = entry_part keys vals key (leaves site neither v) in
      let two = entry_part keys vals other (leaves site neither w) in
      let xs = numbered (suc i) (entry_leaves keys vals site es) in
      let ys = numbered (suc i) (entry_leaves keys vals site fs) in
      let none_x = none_later i (suc i) (entry_leaves keys vals site es) (omega arith) (omega (arith, few_v, length_entries keys vals site es)) in
      let none_y = none_later i (suc i) (entry_leaves keys vals site fs) (omega arith) (omega (arith, few_w, length_entries keys vals site fs)) in
      let entry = entry_same keys vals key other (leaves site neither v) (leaves site neither w) apart (first_same (decimal i) one two xs ys none_x none_y same) in
      let first = same_value site neither v w hv.2 hw.2 entry.1 in
      let rest = same_entries keys vals apart site (suc i) es fs (omega (arith, few_v)) (omega (arith, few_w)) hv.3 hw.3 (rest_same (decimal i) one two xs ys none_x none_y same) in
      rw (entry.0, first, rest) refl

  same_members : (site : Site) → AreNamesApart site → (least : ℕ) (ms ws : MemberValues) → AscendFrom least ms → AscendFrom least ws
      → WholeMembers site ms → WholeMembers site ws → AreSame (member_leaves site ms) (member_leaves site ws) → ms ≡ ws
  same_members site apart least no_member_values no_member_values av aw hv hw same = refl
  same_members site apart least (member_value n v ms) no_member_values av aw hv hw same =
      absurd (one_missing site n v ms [] hv.0 (none_of_later site apart n hv.0.0 hv.0.1 (suc n) ms (omega arith) av.1 hv.2) refl same)
  same_members site apart least no_member_values (member_value k w ws) av aw hv hw same =
      absurd (one_missing site k w ws [] hw.0 (none_of_later site apart k hw.0.0 hw.0.1 (suc k) ws (omega arith) aw.1 hw.2) refl (λ p. sym (same p)))
  same_members site apart least (member_value n v ms) (member_value k w ws) av aw hv hw same =
      first_members site apart least n k v w ms ws av aw hv hw
      (λ u hu same_u. same_value (member_of site n) (role_of (member_of site n).view) v u hv.1 hu same_u)
      (λ us ascend hus same_us. same_members site apart (suc n) ms us av.1 ascend hv.2 hus same_us) same

-- what fits a place of structures is one
pub structure_value : (k : Kind) (t : Table) (p : Place) (v : Value) → IsStructure k → kind_of t p ≡ k → FitsOr t p false v → (ms : MemberValues) × (v ≡ structure ms)
structure_value k t p (scalar_value x) h is fits = absurd (no_scalar k x h (subst (λ j. is_scalar_of j x ≡ true) is fits))
  where
    no_scalar : (k : Kind) (x : ScalarValue) → IsStructure k → is_scalar_of k x ≡ true → ⊥
    no_scalar (structure_of ms) x h fits = let e : false ≡ true = fits in cc
    no_scalar _ x h fits = h
structure_value k t p (list vs) h is fits = absurd (omega (arith, list_sort k (subst IsList is fits.0), structure_sort k h))
structure_value k t p (map es) h is fits = absurd (omega (arith, map_sort k (subst IsMap is fits.0), structure_sort k h))
structure_value k t p (structure ms) h is fits = (ms, refl)
structure_value k t p (union n v) h is fits = absurd (omega (arith, union_sort k (subst IsUnion is fits.0), structure_sort k h))
structure_value k t p null_element h is fits = absurd (let e : false ≡ true = fits in cc)
structure_value k t p (document_value d) h is fits = absurd (no_document k h (subst IsDocument is fits.0))
  where
    no_document : (k : Kind) → IsStructure k → IsDocument k → ⊥
    no_document (structure_of ms) h d = d
    no_document _ h d = h
