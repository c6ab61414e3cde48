-- No two leaves of a value have one path: the leaves of one part begin with the segment of this part, and the segments of parts
-- differ.
use Rattle.std.proofs.Common.{◌≡◌, ◌≢◌, ◌<◌, ◌≤◌, ◌+◌, ℕ, suc, List, [], ◌∷◌, ◌++◌, length, Option, Some, None, option_to_list, codes, decimal, refl, sym, ◌∙◌, ap, ◌⊎◌, inl, inr, arith}
use Rattle.std.specs.List.{AllByRecursion}
use Rattle.std.proofs.lemmas.List.{append_cancel_left}
use Rattle.std.proofs.lemmas.Fmt.{decimal_injective}
use Rattle.smithy_shapes.specs.Site.{Site, element_of, value_of, member_of}
use Rattle.smithy_declarations.specs.Value.{Value, scalar_value, list, map, structure, union, null_element, document_value, Values, no_values, value, MapEntries, no_map_entries, map_entry, MemberValues, no_member_values, member_value}
use Rattle.smithy_schema.specs.Writing.{count_of, entry_count}
use Rattle.smithy_query_codec.specs.Leaves.{Path, Leaf, MemberRole, flat_member, member, neither, under, numbered, query_name, role_of, element_name, key_name, value_name, inner_path, or_empty, entry_part, leaves, element_leaves, entry_leaves, member_leaves}
use Rattle.smithy_query_codec.proofs.Forms.{names_of, HasForm, ElementsHaveForm, EntriesHaveForm, MembersHaveForm}
use Rattle.smithy_query_codec.proofs.PairLemmas.{Pairwise, each-append, each_weaker, pairwise-append, pairwise_map, each_pair}

abbrev pub Differ : Leaf → Leaf → Type 0
Differ l m = l.path ≢ m.path

-- the path begins with a segment of which this holds
abbrev pub Begins : (List ℕ → Type 0) → Leaf → Type 0
Begins P l = (s : List ℕ) × (rest : Path) × (l.path ≡ s ∷ rest) × P s

heads : (s t : List ℕ) (p q : Path) → s ∷ p ≡ t ∷ q → s ≡ t
heads s t p q h = cc

differ_by : (P Q : List ℕ → Type 0) → ((s t : List ℕ) → P s → Q t → s ≢ t) → (l m : Leaf) → Begins P l → Begins Q m → Differ l m
differ_by P Q apart l m hl hm same =
    apart hl.0 hm.0 hl.3 hm.3 (heads hl.0 hm.0 hl.1 hm.1 (sym hl.2 ∙ same ∙ hm.2))

pub begins_under : (s : List ℕ) (p : Path) (ls : List Leaf) → AllByRecursion (Begins (λ t. t ≡ s)) (under (s ∷ p) ls)
begins_under s p [] = tt
begins_under s p (l ∷ ls) = ((s, p ++ l.path, refl, refl), begins_under s p ls)

pub distinct_under : (p : Path) (ls : List Leaf) → Pairwise Differ ls → Pairwise Differ (under p ls)
distinct_under p ls h =
    pairwise_map Differ Differ (λ (l : Leaf). record l { path = p ++ l.path })
    (λ l m apart same. apart (append_cancel_left p l.path m.path same)) ls h

-- two groups of leaves, under segments of which no two are one
pub distinct_append : (P Q : List ℕ → Type 0) → ((s t : List ℕ) → P s → Q t → s ≢ t) → (ls ms : List Leaf)
    → AllByRecursion (Begins P) ls → AllByRecursion (Begins Q) ms → Pairwise Differ ls → Pairwise Differ ms → Pairwise Differ (ls ++ ms)
distinct_append P Q apart ls ms hl hm dl dm =
    pairwise-append Differ ls ms dl dm (each_pair Differ (Begins P) (Begins Q) (differ_by P Q apart) ls ms hl hm)

pub begins_weaker : (P Q : List ℕ → Type 0) → ((s : List ℕ) → P s → Q s) → (ls : List Leaf) → AllByRecursion (Begins P) ls → AllByRecursion (Begins Q) ls
begins_weaker P Q f ls h = each_weaker (Begins P) (Begins Q) (λ l b. (b.0, b.1, b.2, f b.0 b.3)) ls h

-- ---- parts by number

-- a position from i on
abbrev From : ℕ → List ℕ → Type 0
From i s = (j : ℕ) × (i ≤ j) × (j < 18446744073709551616) × (s ≡ decimal j)

numbered_begin : (i : ℕ) (parts : List (List Leaf)) → i + length parts ≤ 18446744073709551616 → AllByRecursion (Begins (From i)) (numbered i parts)
numbered_begin i [] small = tt
numbered_begin i (ls ∷ parts) small =
    let more : suc i + length parts ≤ 18446744073709551616 = omega (arith, small) in
    each-append (Begins (From i)) (under (decimal i ∷ []) ls) (numbered (suc i) parts)
    (begins_weaker (λ t. t ≡ decimal i) (From i) (λ t is. (i, omega arith, omega (arith, small), is)) _ (begins_under (decimal i) [] ls))
    (begins_weaker (From (suc i)) (From i) (λ t is. (is.0, omega (arith, is.1), is.2, is.3)) _ (numbered_begin (suc i) parts more))

number_apart : (i j : ℕ) → i < 18446744073709551616 → j < 18446744073709551616 → suc i ≤ j → decimal i ≡ decimal j → ⊥
number_apart i j hi hj later same = let e = decimal_injective i j hi hj same in omega (arith, e, later)

pub numbered_distinct : (i : ℕ) (parts : List (List Leaf)) → i + length parts ≤ 18446744073709551616
    → AllByRecursion (λ ls. Pairwise Differ ls) parts → Pairwise Differ (numbered i parts)
numbered_distinct i [] small each = tt
numbered_distinct i (ls ∷ parts) small each =
    let more : suc i + length parts ≤ 18446744073709551616 = omega (arith, small) in
    distinct_append (λ t. t ≡ decimal i) (From (suc i))
    (λ s t is later same. number_apart i later.0 (omega (arith, small)) later.2 later.1 (sym is ∙ same ∙ later.3))
    (under (decimal i ∷ []) ls) (numbered (suc i) parts)
    (begins_under (decimal i) [] ls) (numbered_begin (suc i) parts more)
    (distinct_under (decimal i ∷ []) ls each.0) (numbered_distinct (suc i) parts more each.1)

-- ---- an entry of a map: its key, and its value's leaves under another segment

pub entry_distinct : (keys vals key : List ℕ) (ls : List Leaf) → keys ≢ vals → Pairwise Differ ls → Pairwise Differ (entry_part keys vals key ls)
entry_distinct keys vals key ls apart h = (
  each_weaker (Begins (λ t. t ≡ vals)) (Differ (record { path = keys ∷ []; text = key }))
      (λ m b same. apart (heads keys b.0 [] b.1 (same ∙ b.2) ∙ b.3)) _ (begins_under vals [] ls),
  distinct_under (vals ∷ []) ls h,
)

-- ---- any value

pub or_empty_distinct : (stand : MemberRole) (ls : List Leaf) → Pairwise Differ ls → Pairwise Differ (or_empty stand ls)
or_empty_distinct neither ls h = h
or_empty_distinct member [] h = (tt, tt)
or_empty_distinct member (l ∷ ls) h = h
or_empty_distinct flat_member [] h = (tt, tt)
or_empty_distinct flat_member (l ∷ ls) h = h

abbrev pub Among : List (List ℕ) → List ℕ → Type 0
Among [] s = ⊥
Among (x ∷ xs) s = (s ≡ x) ⊎ Among xs s

pub none_of : (s : List ℕ) (names : List (List ℕ)) → AllByRecursion (λ t. s ≢ t) names → (t : List ℕ) → Among names t → s ≢ t
none_of s [] h t a = absurd a
none_of s (x ∷ xs) h t (inl is) = λ same. h.0 (same ∙ is)
none_of s (x ∷ xs) h t (inr a) = none_of s xs h.1 t a

pub length_elements : (site : Site) (vs : Values) → length (element_leaves site vs) ≡ count_of vs
length_elements site no_values = refl
length_elements site (value v vs) = ap suc (length_elements site vs)

under_name : (o : Option (List ℕ)) (name : List ℕ) → o ≡ Some name → (ls : List Leaf) → AllByRecursion (Begins (λ t. t ≡ name)) (under (option_to_list o) ls)
under_name o name is ls = rw is (begins_under name [] ls)

among_first : (o : Option (List ℕ)) (name : List ℕ) → o ≡ Some name → (names : List (List ℕ)) (t : List ℕ) → t ≡ name → Among (option_to_list o ++ names) t
among_first o name is names t same = rw is (inl same)

among_more : (o : Option (List ℕ)) (names : List (List ℕ)) (t : List ℕ) → Among names t → Among (option_to_list o ++ names) t
among_more None names t a = a
among_more (Some s) names t a = inr a

pub members_begin : (site : Site) (ms : MemberValues) → MembersHaveForm site ms → AllByRecursion (Begins (Among (names_of site ms))) (member_leaves site ms)
members_begin site no_member_values h = tt
members_begin site (member_value n v ms) h =
    let o = query_name (member_of site n).view in
    let ls = leaves (member_of site n) (role_of (member_of site n).view) v in
    let P = Among (names_of site (member_value n v ms)) in
    each-append (Begins P) (under (option_to_list o) ls) (member_leaves site ms)
    (begins_weaker (λ t. t ≡ h.0.0) P (among_first o h.0.0 h.0.1 (names_of site ms)) _ (under_name o h.0.0 h.0.1 ls))
    (begins_weaker (Among (names_of site ms)) P (among_more o (names_of site ms)) _ (members_begin site ms h.3))

pub length_entries : (keys vals : List ℕ) (site : Site) (es : MapEntries) → length (entry_leaves keys vals site es) ≡ entry_count es
length_entries keys vals site no_map_entries = refl
length_entries keys vals site (map_entry key v es) = ap suc (length_entries keys vals site es)

mutual
  pub leaves_distinct : (site : Site) (stand : MemberRole) (v : Value) → HasForm site v → Pairwise Differ (leaves site stand v)
  leaves_distinct site stand (scalar_value x) h = (tt, tt)
  leaves_distinct site stand null_element h = tt
  leaves_distinct site stand (document_value d) h = tt
  leaves_distinct site stand (list vs) h =
      let small : 1 + length (element_leaves (element_of site) vs) ≤ 18446744073709551616 = omega (arith, h.1, length_elements (element_of site) vs) in
      or_empty_distinct stand _
      (distinct_under (inner_path stand (element_name site)) _
      (numbered_distinct 1 (element_leaves (element_of site) vs) small (elements_distinct (element_of site) vs h.2)))
  leaves_distinct site stand (map es) h =
      let parts = entry_leaves (key_name site) (value_name site) (value_of site) es in
      let small : 1 + length parts ≤ 18446744073709551616 = omega (arith, h.1, length_entries (key_name site) (value_name site) (value_of site) es) in
      distinct_under (inner_path stand (codes "entry")) _
      (numbered_distinct 1 parts small (entries_distinct (key_name site) (value_name site) (value_of site) es h.0.differ h.2))
  leaves_distinct site stand (structure ms) h = members_distinct site ms h
  leaves_distinct site stand (union n v) h =
      distinct_under (option_to_list (query_name (member_of site n).view)) _ (leaves_distinct (member_of site n) (role_of (member_of site n).view) v h.2)

  elements_distinct : (site : Site) (vs : Values) → ElementsHaveForm site vs → AllByRecursion (λ ls. Pairwise Differ ls) (element_leaves site vs)
  elements_distinct site no_values h = tt
  elements_distinct site (value v vs) h = (leaves_distinct site neither v h.0, elements_distinct site vs h.1)

  entries_distinct : (keys vals : List ℕ) (site : Site) (es : MapEntries) → keys ≢ vals → EntriesHaveForm site es
      → AllByRecursion (λ ls. Pairwise Differ ls) (entry_leaves keys vals site es)
  entries_distinct keys vals site no_map_entries apart h = tt
  entries_distinct keys vals site (map_entry key v es) apart h =
      (entry_distinct keys vals key (leaves site neither v) apart (leaves_distinct site neither v h.0), entries_distinct keys vals site es apart h.1)

  members_distinct : (site : Site) (ms : MemberValues) → MembersHaveForm site ms → Pairwise Differ (member_leaves site ms)
  members_distinct site no_member_values h = tt
  members_distinct site (member_value n v ms) h =
      let name = h.0.0 in
      let o = query_name (member_of site n).view in
      let ls = leaves (member_of site n) (role_of (member_of site n).view) v in
      distinct_append (λ t. t ≡ name) (Among (names_of site ms)) (λ s t is a same. none_of name (names_of site ms) h.0.3 t a (sym is ∙ same))
      (under (option_to_list o) ls) (member_leaves site ms)
      (under_name o name h.0.1 ls) (members_begin site ms h.3)
      (distinct_under (option_to_list o) ls (leaves_distinct (member_of site n) (role_of (member_of site n).view) v h.2)) (members_distinct site ms h.3)
