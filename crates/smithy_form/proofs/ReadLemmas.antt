-- What a container that is read whole says of its leaves, and the other way round.
use Rattle.std.proofs.Common.{◌≡◌, ◌≢◌, ℕ, suc, List, [], ◌∷◌, ◌++◌, true, option_to_list, codes, refl, sym, ◌∙◌, ap, subst, arith}
use Rattle.std.proofs.lemmas.List.{append-nil}
use Rattle.smithy_declarations.specs.Table.{IsStructure, IsUnion, IsList, IsMap}
use Rattle.smithy_declarations.specs.TimeForms.{form_holds}
use Rattle.smithy_declarations.specs.Value.{ScalarValue, Value, scalar_value, list, map, structure, union, null_element, document_value, Values, no_values, value, MapEntries, MemberValues}
use Rattle.smithy_shapes.specs.Fits.{is_scalar_of}
use Rattle.smithy_shapes.specs.Site.{Site, kind_at, element_of, value_of, member_of}
use Rattle.smithy_query_codec.specs.Leaves.{Path, Leaf, leaf, MemberRole, flat_member, member, neither, role_of, query_name, under, numbered, inner_path, or_empty, form_at, scalar_text, element_name, key_name, value_name, leaves, element_leaves, entry_leaves}
use Rattle.smithy_query_codec.proofs.DistinctLemmas.{Differ}
use Rattle.smithy_query_codec.proofs.PairLemmas.{Pairwise}
use Rattle.smithy_form.specs.Lookup.{inside, outside, text_at, AreSame}
use Rattle.smithy_form.specs.Plain.{HasEntry}
use Rattle.smithy_form.specs.Private.Whole.{IsNamed, AreNamesApart, WholeMember, IsWhole}
use Rattle.smithy_form.specs.Private.Reading.{TellHere}
use Rattle.smithy_form.proofs.LookupLemmas.{is_none, same_inside}
use Rattle.smithy_form.proofs.OnlyLeaves.{only_one}
use Rattle.smithy_form.proofs.PartLemmas.{under-nil, inside_first}
use Rattle.smithy_form.proofs.Splits.{part_again, outside_same, rest_again}
use Rattle.smithy_form.specs.Private.Reading.{AreElements, AreEntries}
use Rattle.smithy_form.proofs.HalfMembers.{AreMembers}
use Rattle.smithy_form.proofs.UniqueValues.{sort_of, sort_is, list_sort, map_sort, structure_sort, union_sort, named}

-- ---- scalars

-- a scalar of the site whose text stands there alone
pub scalar_made : (site : Site) (left : ℕ) (x : ScalarValue) (ls : List Leaf) → is_scalar_of (kind_at site) x ≡ true → form_holds (form_at site) x ≡ true
    → ls ≡ leaf (scalar_text (form_at site) x) ∷ [] → TellHere site left ls (scalar_value x)
scalar_made site left x ls fits held is = record { whole = (fits, held); nests = omega arith; same = λ p. ap (text_at p) is }

-- and the other way round
pub scalar_told : (site : Site) (left : ℕ) (ls : List Leaf) (v : Value) (k : ℕ) → Pairwise Differ ls → TellHere site left ls v → sort_of v ≡ 0
    → (x : ScalarValue) × (v ≡ scalar_value x) × (is_scalar_of (kind_at site) x ≡ true) × (form_holds (form_at site) x ≡ true) × (ls ≡ leaf (scalar_text (form_at site) x) ∷ [])
scalar_told site left ls (scalar_value x) k apart told sort = (x, refl, told.whole.0, told.whole.1, only_one ls (scalar_text (form_at site) x) apart told.same)
scalar_told site left ls (list vs) k apart told sort = absurd (omega (arith, sort))
scalar_told site left ls (map es) k apart told sort = absurd (omega (arith, sort))
scalar_told site left ls (structure ms) k apart told sort = absurd (omega (arith, sort))
scalar_told site left ls (union n v) k apart told sort = absurd (omega (arith, sort))
scalar_told site left ls null_element k apart told sort = absurd told.whole
scalar_told site left ls (document_value d) k apart told sort = absurd told.whole

-- ---- structures

pub structure_made : (site : Site) (left : ℕ) (ls : List Leaf) (ms : MemberValues) → IsStructure (kind_at site) → AreNamesApart site → AreMembers site left ls ms
    → TellHere site (suc left) ls (structure ms)
structure_made site left ls ms kind apart are = record { whole = (kind, apart, are.ascend, are.whole); nests = let deep = are.nests in omega (arith, deep); same = are.same }

-- the sort of a value where a structure stands
structure_here : (site : Site) (v : Value) → IsStructure (kind_at site) → IsWhole site v → sort_of v ≡ 3
structure_here site v kind whole = sym (sort_is site v whole) ∙ structure_sort (kind_at site) kind

pub structure_told : (site : Site) (left : ℕ) (ls : List Leaf) (v : Value) → IsStructure (kind_at site) → TellHere site (suc left) ls v
    → (ms : MemberValues) × (v ≡ structure ms) × AreMembers site left ls ms
structure_told site left ls v kind told = by v told (structure_here site v kind told.whole)
  where
    by : (v : Value) → TellHere site (suc left) ls v → sort_of v ≡ 3 → (ms : MemberValues) × (v ≡ structure ms) × AreMembers site left ls ms
    by (structure ms) told sort =
        let deep = told.nests in
        (ms, refl, record { ascend = told.whole.2; whole = told.whole.3; nests = omega (arith, deep); same = told.same })
    by null_element told sort = absurd told.whole
    by (document_value d) told sort = absurd told.whole
    by v told sort = absurd (omega (arith, sort))

-- no container stands where none may
pub none_so_deep : (site : Site) (ls : List Leaf) (v : Value) → TellHere site 0 ls v → sort_of v ≡ 0
none_so_deep site ls (scalar_value x) told = refl
none_so_deep site ls (list vs) told = absurd (let deep = told.nests in omega (arith, deep))
none_so_deep site ls (map es) told = absurd (let deep = told.nests in omega (arith, deep))
none_so_deep site ls (structure ms) told = absurd (let deep = told.nests in omega (arith, deep))
none_so_deep site ls (union n v) told = absurd (let deep = told.nests in omega (arith, deep))
none_so_deep site ls null_element told = absurd told.whole
none_so_deep site ls (document_value d) told = absurd told.whole

-- ---- unions

pub union_made : (site : Site) (left : ℕ) (ls : List Leaf) (n : ℕ) (name : List ℕ) (v : Value) → IsUnion (kind_at site) → AreNamesApart site → IsNamed site n name
    → inside name ls ≢ [] → outside name ls ≡ [] → TellHere (member_of site n) left (inside name ls) v → TellHere site (suc left) ls (union n v)
union_made site left ls n name v kind apart is_named full none told =
    let lv = leaves (member_of site n) (role_of (member_of site n).view) v in
    let one : WholeMember site n v = (name, is_named, λ empty. full (is_none (inside name ls) (subst (AreSame (inside name ls)) empty told.same))) in
    let all : under (name ∷ []) lv ++ outside name ls ≡ under (option_to_list (query_name (member_of site n).view)) lv =
    ap (λ r. under (name ∷ []) lv ++ r) none ∙ append-nil (under (name ∷ []) lv) ∙ ap (λ o. under o lv) (sym (ap option_to_list is_named.is)) in
    record {
      whole = (kind, apart, one, told.whole);
      nests = let deep = told.nests in omega (arith, deep);
      same = λ p. part_again name ls lv told.same p ∙ ap (text_at p) all;
    }

pub union_told : (site : Site) (left : ℕ) (ls : List Leaf) (v : Value) → IsUnion (kind_at site) → TellHere site (suc left) ls v
    → (n : ℕ) × (w : Value) × (name : List ℕ) × (v ≡ union n w) × IsNamed site n name × (inside name ls ≢ []) × (outside name ls ≡ []) × TellHere (member_of site n) left (inside name ls) w
union_told site left ls v kind told = by v told (sym (sort_is site v told.whole) ∙ union_sort (kind_at site) kind)
  where
    by : (v : Value) → TellHere site (suc left) ls v → sort_of v ≡ 4
        → (n : ℕ) × (w : Value) × (name : List ℕ) × (v ≡ union n w) × IsNamed site n name × (inside name ls ≢ []) × (outside name ls ≡ []) × TellHere (member_of site n) left (inside name ls) w
    by (union n w) told sort =
        let one = told.whole.2 in
        let deep = told.nests in
        let lw = leaves (member_of site n) (role_of (member_of site n).view) w in
        let same : AreSame ls (under (one.0 ∷ []) lw ++ []) =
        subst (AreSame ls) (sym (append-nil (under (one.0 ∷ []) lw))) (subst (λ o. AreSame ls (under o lw)) (named site n w one) told.same) in
        let first : AreSame (inside one.0 ls) lw = subst (AreSame (inside one.0 ls)) (inside_first one.0 lw [] refl) (same_inside one.0 ls (under (one.0 ∷ []) lw ++ []) same) in (
          n,
          w,
          one.0,
          refl,
          one.1,
          (λ none. one.2 (is_none lw (λ p. sym (first p) ∙ ap (text_at p) none))),
          is_none (outside one.0 ls) (λ p. outside_same one.0 ls (under (one.0 ∷ []) lw ++ []) same p ∙ rest_again one.0 lw [] refl p),
          record { whole = told.whole.3; nests = omega (arith, deep); same = first },
        )
    by null_element told sort = absurd told.whole
    by (document_value d) told sort = absurd told.whole
    by v told sort = absurd (omega (arith, sort))

-- ---- lists

-- elements have leaves, where there is one
numbered_full : (site : Site) (v : Value) (vs : Values) (role : MemberRole) (p : Path) → leaves site neither v ≢ []
    → or_empty role (under p (numbered 1 (element_leaves site (value v vs)))) ≡ under p (numbered 1 (element_leaves site (value v vs)))
numbered_full site v vs role p full = by (leaves site neither v) refl role
  where
    by : (ls : List Leaf) → leaves site neither v ≡ ls → (role : MemberRole)
        → or_empty role (under p (numbered 1 (element_leaves site (value v vs)))) ≡ under p (numbered 1 (element_leaves site (value v vs)))
    by [] is role = absurd (full is)
    by (l ∷ ls) is neither = refl
    by (l ∷ ls) is member = rw is refl
    by (l ∷ ls) is flat_member = rw is refl

-- the elements of a list that isn't flat, under their name
pub list_made : (site : Site) (left : ℕ) (ls : List Leaf) (v : Value) (vs : Values) → IsList (kind_at site) → (role_of site.view ≢ flat_member)
    → outside (element_name site) ls ≡ [] → AreElements (element_of site) left (inside (element_name site) ls) (value v vs) → TellHere site (suc left) ls (list (value v vs))
list_made site left ls v vs kind not_flat none are =
    let name = element_name site in
    let ns = numbered 1 (element_leaves (element_of site) (value v vs)) in
    let inner : (role : MemberRole) → role ≢ flat_member → inner_path role name ≡ name ∷ [] = inner_is name in
    let few = are.few in
    let deep = are.nests in
    let all : under (name ∷ []) ns ++ outside name ls ≡ or_empty (role_of site.view) (under (inner_path (role_of site.view) name) ns) =
    ap (λ r. under (name ∷ []) ns ++ r) none ∙ append-nil (under (name ∷ []) ns) ∙ ap (λ q. under q ns) (sym (inner (role_of site.view) not_flat))
    ∙ sym (numbered_full (element_of site) v vs (role_of site.view) (inner_path (role_of site.view) name) are.whole.0) in
    record {
      whole = (kind, omega (arith, few), are.whole);
      nests = omega (arith, deep);
      same = λ p. part_again name ls ns are.same p ∙ ap (text_at p) all;
    }
  where
    inner_is : (name : List ℕ) (role : MemberRole) → role ≢ flat_member → inner_path role name ≡ name ∷ []
    inner_is name flat_member apart = absurd (apart refl)
    inner_is name member apart = refl
    inner_is name neither apart = refl

-- the elements of a flat list
pub flat_list_made : (site : Site) (left : ℕ) (ls : List Leaf) (v : Value) (vs : Values) → IsList (kind_at site) → role_of site.view ≡ flat_member
    → AreElements (element_of site) left ls (value v vs) → TellHere site (suc left) ls (list (value v vs))
flat_list_made site left ls v vs kind flat are =
    let ns = numbered 1 (element_leaves (element_of site) (value v vs)) in
    let few = are.few in
    let deep = are.nests in
    let all : ns ≡ or_empty (role_of site.view) (under (inner_path (role_of site.view) (element_name site)) ns) =
    rw flat (sym (numbered_full (element_of site) v vs flat_member [] are.whole.0 ∙ under-nil ns)) in
    record {
      whole = (kind, omega (arith, few), are.whole);
      nests = omega (arith, deep);
      same = λ p. are.same p ∙ ap (text_at p) all;
    }

-- a list that is a member's value, with no elements
pub empty_list_made : (site : Site) (left : ℕ) (ls : List Leaf) → IsList (kind_at site) → role_of site.view ≢ neither → ls ≡ leaf [] ∷ [] → TellHere site (suc left) ls (list no_values)
empty_list_made site left ls kind placed is = record {
  whole = (kind, omega arith, tt);
  nests = omega arith;
  same = λ p. ap (text_at p) is ∙ ap (text_at p) (sym (by (role_of site.view) placed));
}
  where
    by : (role : MemberRole) → role ≢ neither → or_empty role (under (inner_path role (element_name site)) []) ≡ leaf [] ∷ []
    by neither placed = absurd (placed refl)
    by member placed = refl
    by flat_member placed = refl

-- What a list of these leaves is, by its role: with no elements it is the one text; else its elements are those of the leaves under their name,
-- or of all leaves where it is flat.
pub record ListParts (site : Site) (left : ℕ) (ls : List Leaf) (vs : Values) : Type 0 where
  pub flat : role_of site.view ≡ flat_member → vs ≢ no_values → AreElements (element_of site) left ls vs
  pub named : role_of site.view ≢ flat_member → vs ≢ no_values → (outside (element_name site) ls ≡ []) × AreElements (element_of site) left (inside (element_name site) ls) vs
  pub empty : vs ≡ no_values → role_of site.view ≢ neither → AreSame ls (leaf [] ∷ [])
  pub silent : vs ≡ no_values → role_of site.view ≡ neither → ls ≡ []

pub list_told : (site : Site) (left : ℕ) (ls : List Leaf) (v : Value) → IsList (kind_at site) → TellHere site (suc left) ls v
    → (vs : Values) × (v ≡ list vs) × ListParts site left ls vs
list_told site left ls v kind told = by v told (sym (sort_is site v told.whole) ∙ list_sort (kind_at site) kind)
  where
    under_name : (role : MemberRole) → role ≢ flat_member → (w : Value) (ws : Values) → leaves (element_of site) neither w ≢ []
        → AreSame ls (or_empty role (under (inner_path role (element_name site)) (numbered 1 (element_leaves (element_of site) (value w ws)))))
        → AreSame ls (under (element_name site ∷ []) (numbered 1 (element_leaves (element_of site) (value w ws))) ++ [])
    under_name flat_member apart w ws full same = absurd (apart refl)
    under_name member apart w ws full same =
        subst (AreSame ls) (numbered_full (element_of site) w ws member (element_name site ∷ []) full ∙ sym (append-nil (under (element_name site ∷ []) (numbered 1 (element_leaves (element_of site) (value w ws)))))) same
    under_name neither apart w ws full same =
        subst (AreSame ls) (sym (append-nil (under (element_name site ∷ []) (numbered 1 (element_leaves (element_of site) (value w ws)))))) same

    none_told : (role : MemberRole) → role ≢ neither → AreSame ls (or_empty role (under (inner_path role (element_name site)) [])) → AreSame ls (leaf [] ∷ [])
    none_told neither placed same = absurd (placed refl)
    none_told member placed same = same
    none_told flat_member placed same = same

    by : (v : Value) → TellHere site (suc left) ls v → sort_of v ≡ 1 → (vs : Values) × (v ≡ list vs) × ListParts site left ls vs
    by (list no_values) told sort = (
      no_values,
      refl,
      record {
        flat = λ is some. absurd (some refl);
        named = λ apart some. absurd (some refl);
        empty = λ is placed. none_told (role_of site.view) placed told.same;
        silent = λ is role. is_none ls (subst (λ r. AreSame ls (or_empty r (under (inner_path r (element_name site)) []))) role told.same);
      },
    )
    by (list (value w ws)) told sort =
        let deep = told.nests in
        let few = told.whole.1 in (
          value w ws,
          refl,
          record {
            flat = λ is some. record {
              whole = told.whole.2;
              few = omega (arith, few);
              nests = omega (arith, deep);
              same = subst (AreSame ls) (numbered_full (element_of site) w ws flat_member [] told.whole.2.0 ∙ under-nil (numbered 1 (element_leaves (element_of site) (value w ws))))
                  (subst (λ r. AreSame ls (or_empty r (under (inner_path r (element_name site)) (numbered 1 (element_leaves (element_of site) (value w ws)))))) is told.same);
            };
            named = λ apart some.
                let ns = numbered 1 (element_leaves (element_of site) (value w ws)) in
                let same = under_name (role_of site.view) apart w ws told.whole.2.0 told.same in (
                  is_none (outside (element_name site) ls) (λ p. outside_same (element_name site) ls (under (element_name site ∷ []) ns ++ []) same p ∙ rest_again (element_name site) ns [] refl p),
                  record {
                    whole = told.whole.2;
                    few = omega (arith, few);
                    nests = omega (arith, deep);
                    same = subst (AreSame (inside (element_name site) ls)) (inside_first (element_name site) ns [] refl) (same_inside (element_name site) ls (under (element_name site ∷ []) ns ++ []) same);
                  },
                );
            empty = λ is placed. absurd (let e : value w ws ≡ no_values = is in cc);
            silent = λ is role. absurd (let e : value w ws ≡ no_values = is in cc);
          },
        )
    by null_element told sort = absurd told.whole
    by (document_value d) told sort = absurd told.whole
    by (scalar_value x) told sort = absurd (omega (arith, sort))
    by (map es) told sort = absurd (omega (arith, sort))
    by (structure ms) told sort = absurd (omega (arith, sort))
    by (union n w) told sort = absurd (omega (arith, sort))

-- ---- maps

module _ (site : Site) (apart : key_name site ≢ value_name site) (left : ℕ) (ls : List Leaf) (kind : IsMap (kind_at site)) where
  abbrev Are : List Leaf → MapEntries → Type 0
  Are xs es = AreEntries (key_name site) (value_name site) (value_of site) left xs es

  abbrev entries_of : MapEntries → List Leaf
  entries_of es = numbered 1 (entry_leaves (key_name site) (value_name site) (value_of site) es)

  -- the entries of a map that isn't flat, under `entry`
  pub map_made : (es : MapEntries) → HasEntry es → role_of site.view ≢ flat_member → outside (codes "entry") ls ≡ [] → Are (inside (codes "entry") ls) es
      → TellHere site (suc left) ls (map es)
  map_made es some not_flat none are =
      let few = are.few in
      let deep = are.nests in
      let all : under (codes "entry" ∷ []) (entries_of es) ++ outside (codes "entry") ls ≡ under (inner_path (role_of site.view) (codes "entry")) (entries_of es) =
      ap (λ r. under (codes "entry" ∷ []) (entries_of es) ++ r) none ∙ append-nil (under (codes "entry" ∷ []) (entries_of es))
      ∙ ap (λ q. under q (entries_of es)) (sym (inner (role_of site.view) not_flat)) in
      record {
        whole = (kind, apart, some, are.ascend, omega (arith, few), are.whole);
        nests = omega (arith, deep);
        same = λ p. part_again (codes "entry") ls (entries_of es) are.same p ∙ ap (text_at p) all;
      }
    where
      inner : (role : MemberRole) → role ≢ flat_member → inner_path role (codes "entry") ≡ codes "entry" ∷ []
      inner flat_member apart = absurd (apart refl)
      inner member apart = refl
      inner neither apart = refl

  -- the entries of a flat map
  pub flat_map_made : (es : MapEntries) → HasEntry es → role_of site.view ≡ flat_member → Are ls es → TellHere site (suc left) ls (map es)
  flat_map_made es some flat are =
      let few = are.few in
      let deep = are.nests in
      let all : entries_of es ≡ under (inner_path (role_of site.view) (codes "entry")) (entries_of es) = rw flat (sym (under-nil (entries_of es))) in
      record {
        whole = (kind, apart, some, are.ascend, omega (arith, few), are.whole);
        nests = omega (arith, deep);
        same = λ p. are.same p ∙ ap (text_at p) all;
      }

  -- and the other way round
  pub map_told : (v : Value) → TellHere site (suc left) ls v
      → (es : MapEntries) × (v ≡ map es) × HasEntry es × (role_of site.view ≡ flat_member → Are ls es)
      × (role_of site.view ≢ flat_member → (outside (codes "entry") ls ≡ []) × Are (inside (codes "entry") ls) es)
  map_told v told = by v told (sym (sort_is site v told.whole) ∙ map_sort (kind_at site) kind)
    where
      under_entry : (role : MemberRole) → role ≢ flat_member → (ns : List Leaf) → AreSame ls (under (inner_path role (codes "entry")) ns) → AreSame ls (under (codes "entry" ∷ []) ns ++ [])
      under_entry flat_member apart ns same = absurd (apart refl)
      under_entry member apart ns same = subst (AreSame ls) (sym (append-nil (under (codes "entry" ∷ []) ns))) same
      under_entry neither apart ns same = subst (AreSame ls) (sym (append-nil (under (codes "entry" ∷ []) ns))) same

      by : (v : Value) → TellHere site (suc left) ls v → sort_of v ≡ 2
          → (es : MapEntries) × (v ≡ map es) × HasEntry es × (role_of site.view ≡ flat_member → Are ls es)
          × (role_of site.view ≢ flat_member → (outside (codes "entry") ls ≡ []) × Are (inside (codes "entry") ls) es)
      by (map es) told sort =
          let deep = told.nests in
          let few = told.whole.4 in (
            es,
            refl,
            told.whole.2,
            (λ flat. record {
              whole = told.whole.5;
              few = omega (arith, few);
              nests = omega (arith, deep);
              ascend = told.whole.3;
              same = subst (AreSame ls) (under-nil (entries_of es)) (subst (λ r. AreSame ls (under (inner_path r (codes "entry")) (entries_of es))) flat told.same);
            }),
            (λ not_flat.
                let same = under_entry (role_of site.view) not_flat (entries_of es) told.same in (
                  is_none (outside (codes "entry") ls) (λ p. outside_same (codes "entry") ls (under (codes "entry" ∷ []) (entries_of es) ++ []) same p ∙ rest_again (codes "entry") (entries_of es) [] refl p),
                  record {
                    whole = told.whole.5;
                    few = omega (arith, few);
                    nests = omega (arith, deep);
                    ascend = told.whole.3;
                    same = subst (AreSame (inside (codes "entry") ls)) (inside_first (codes "entry") (entries_of es) [] refl) (same_inside (codes "entry") ls (under (codes "entry" ∷ []) (entries_of es) ++ []) same);
                  },
                )),
          )
      by null_element told sort = absurd told.whole
      by (document_value d) told sort = absurd told.whole
      by (scalar_value x) told sort = absurd (omega (arith, sort))
      by (list vs) told sort = absurd (omega (arith, sort))
      by (structure ms) told sort = absurd (omega (arith, sort))
      by (union n w) told sort = absurd (omega (arith, sort))
