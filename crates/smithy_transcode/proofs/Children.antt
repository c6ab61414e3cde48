-- A container that is gone through with a test, child by child.
use Rattle.std.proofs.Common.{arith, ◌≡◌, ◌<◌, ◌+◌, ◌&&◌, ◌||◌, ℕ, ℤ, List, [], ◌∷◌, map as mapped, max, length, drop, get_or, Bool, true, false, not, Some, refl, sym, ◌∙◌}
use Rattle.std.proofs.Math.Nat.{le-max_left, le-max_right}
use Rattle.smithy_declarations.specs.Table.{IsList, IsMap, IsStructure}
use Rattle.smithy_shapes.specs.Fits.{FitsOr, ElementsFit, EntriesFit, MembersFit}
use Rattle.smithy_shapes.specs.Lemmas.Kinds.{list_kind, map_kind, structure_kind}
use Rattle.smithy_shapes.specs.ScalarTest.{scalars_pass, elements_pass, entries_pass, members_pass}
use Rattle.smithy_shapes.specs.Site.{Site, kind_at, inner_site, member_site, nameless_site, element_of, value_of, member_of}
use Rattle.smithy_declarations.specs.Value.{Value, list, map, structure, whole, values_of, MapEntries, no_map_entries, map_entry, MemberValues, no_member_values, member_value, nesting, elements_nesting, entries_nesting, members_nesting}
use Rattle.smithy_shapes.proofs.Inner.{inner_element, inner_value}
use Rattle.smithy_shapes.proofs.SiteLemmas.{element_site_at, value_site_at, member_site_at, element_fit, entry_fit, member_fit}
use Rattle.smithy_schema.specs.Writing.{count_of, entry_count}
use Rattle.smithy_schema.proofs.WrittenLists as lists
use Rattle.smithy_schema.proofs.WrittenLists.{fits_or_null}
use Rattle.smithy_query_codec.specs.Nulls.{holds_null, elements_hold_null, entries_hold_null, members_hold_null}
use Rattle.smithy_query_codec.specs.Counts.{HasPositions, ElementsHavePositions, EntriesHavePositions, MembersHavePositions}
use Rattle.smithy_tree.specs.Items.{whole_values}
use Rattle.smithy_value.specs.Tree.{Each}
use Rattle.smithy_value.proofs.Maps as maps
use Rattle.smithy_value.proofs.Structures as structures
use Rattle.smithy_transcode.specs.declared.value_test.ValueTest as kept
use Rattle.smithy_transcode.specs.Private.ValueTest.{AnswersTest, passes, test_view}
use Rattle.smithy_transcode.proofs.ValuesPass.{other_passes}

-- ---- the children of a container, each with its site

abbrev pub element_children : Site → List Value → List (Site × Value)
element_children site [] = []
element_children site (v ∷ vs) = (element_of site, v) ∷ element_children site vs

abbrev pub entry_children : Site → MapEntries → List (Site × Value)
entry_children site no_map_entries = []
entry_children site (map_entry key v es) = (value_of site, v) ∷ entry_children site es

abbrev pub member_children : Site → MemberValues → List (Site × Value)
member_children site no_member_values = []
member_children site (member_value n v ms) = (member_of site n, v) ∷ member_children site ms

-- the first of them, as the code comes to it
pub next_element : {T : Type 0} (view : T → Value) (xs : List T) (i : ℕ) (x : T) (root : Value) (site member child : Site) → IsList (kind_at site)
    → Some member ≡ inner_site site → child ≡ nameless_site member → i < length xs → x ≡ get_or xs i x → view x ≡ root
    → element_children site (mapped view (drop i xs)) ≡ (child, root) ∷ element_children site (mapped view (drop (i + 1) xs))
next_element view xs i x root site member child is found nameless within at seen =
    let here = lists.element_site_is site member child (inner_element site member is found) nameless in
    rw (lists.next_element view xs i x root within at seen, here) refl

pub next_value : (es rest : MapEntries) (key : List ℕ) (v root : Value) (site member child : Site) → IsMap (kind_at site)
    → Some member ≡ inner_site site → child ≡ nameless_site member → es ≡ map_entry key v rest → v ≡ root
    → entry_children site es ≡ (child, root) ∷ entry_children site rest
next_value es rest key v root site member child is found nameless next seen =
    let here = maps.value_site_is site member child (inner_value site member is found) nameless in
    rw (next, seen, here) refl

pub next_member : (ms rest : MemberValues) (n : ℕ) (v root : Value) (site member : Site) → Some member ≡ member_site site n → ms ≡ member_value n v rest → v ≡ root
    → member_children site ms ≡ (member, root) ∷ member_children site rest
next_member ms rest n v root site member found next seen = rw (next, seen, structures.member_site_is site n member found) refl

-- ---- the child is a value of its site or a null, and nests less deep than the container

pub record IsInside (container : Value) (child : Site × Value) : Type 0 where
  pub fits : FitsOr child.0.table child.0.place true child.1
  pub nests : nesting child.1 < nesting container

below : (a b m : ℕ) → max a b < m → (a < m) × (b < m)
below a b m h =
    let left = le-max_left a b in
    let right = le-max_right a b in
    (omega (arith, left, h), omega (arith, right, h))

module _ (site : Site) (container : Value) where
  elements_inside : IsList (kind_at site) → (vs : List Value) → ElementsFit site.table (kind_at site) (values_of vs)
      → elements_nesting (values_of vs) < nesting container → Each (IsInside container) (element_children site vs)
  elements_inside is [] fits nests = tt
  elements_inside is (v ∷ vs) fits nests =
      let k = list_kind (kind_at site) is in
      let deep = below (nesting v) (elements_nesting (values_of vs)) (nesting container) nests in
      let fit = fits_or_null _ _ _ _ (element_fit site.table k.0 v (values_of vs) (rw k.1 at fits)) in
      (record { fits = rw (element_site_at site.table site.place site.view k.0 k.1) fit; nests = deep.0 }, elements_inside is vs fits.1 deep.1)

  entries_inside : IsMap (kind_at site) → (es : MapEntries) → EntriesFit site.table (kind_at site) es
      → entries_nesting es < nesting container → Each (IsInside container) (entry_children site es)
  entries_inside is no_map_entries fits nests = tt
  entries_inside is (map_entry key v es) fits nests =
      let k = map_kind (kind_at site) is in
      let deep = below (nesting v) (entries_nesting es) (nesting container) nests in
      let fit = fits_or_null _ _ _ _ (entry_fit site.table k.0 key v es (rw k.1 at fits)) in
      (record { fits = rw (value_site_at site.table site.place site.view k.0 k.1) fit; nests = deep.0 }, entries_inside is es fits.2 deep.1)

  members_inside : IsStructure (kind_at site) → (ms : MemberValues) → MembersFit site.table (kind_at site) ms
      → members_nesting ms < nesting container → Each (IsInside container) (member_children site ms)
  members_inside is no_member_values fits nests = tt
  members_inside is (member_value n v ms) fits nests =
      let k = structure_kind (kind_at site) is in
      let deep = below (nesting v) (members_nesting ms) (nesting container) nests in
      let m = member_fit site.table k.0 n v ms (rw k.1 at fits) in
      let fit = fits_or_null _ _ _ _ m.2 in
      (record { fits = rw (member_site_at site.table site.place site.view k.0 n m.0 k.1 m.1) fit; nests = deep.0 }, members_inside is ms fits.1 deep.1)

-- ---- the test of a container by its children

none_held : (nulls : Bool) → true ≡ (true && (nulls || not false))
none_held true = refl
none_held false = refl

-- the first child passes and the others do, or both pass the test of scalars and hold no null
both_pass : (nulls : Bool) (a h b g : Bool) → ((a && (nulls || not h)) && (b && (nulls || not g))) ≡ ((a && b) && (nulls || not (h || g)))
both_pass nulls false h b g = refl
both_pass true true h true g = refl
both_pass true true h false g = refl
both_pass false true true true g = refl
both_pass false true true false g = refl
both_pass false true false b g = refl

module _ (t : kept.ValueTest) where
  abbrev pub children_pass : List (Site × Value) → Bool
  children_pass [] = true
  children_pass (c ∷ cs) = passes t c.0 c.1 && children_pass cs

  abbrev pub ChildrenHavePositions : List (Site × Value) → Type 0
  ChildrenHavePositions [] = Unit {0}
  ChildrenHavePositions (c ∷ cs) = HasPositions c.1 × ChildrenHavePositions cs

  elements_answer : (site : Site) (vs : List Value)
      → children_pass (element_children site vs) ≡ (elements_pass (test_view t) (element_of site) (values_of vs) && (t.nulls || not (elements_hold_null (values_of vs))))
  elements_answer site [] = none_held t.nulls
  elements_answer site (v ∷ vs) =
      rw (elements_answer site vs)
      (both_pass t.nulls (scalars_pass (test_view t) (element_of site) v) (holds_null v) (elements_pass (test_view t) (element_of site) (values_of vs)) (elements_hold_null (values_of vs)))

  entries_answer : (site : Site) (es : MapEntries)
      → children_pass (entry_children site es) ≡ (entries_pass (test_view t) (value_of site) es && (t.nulls || not (entries_hold_null es)))
  entries_answer site no_map_entries = none_held t.nulls
  entries_answer site (map_entry key v es) =
      rw (entries_answer site es)
      (both_pass t.nulls (scalars_pass (test_view t) (value_of site) v) (holds_null v) (entries_pass (test_view t) (value_of site) es) (entries_hold_null es))

  members_answer : (site : Site) (ms : MemberValues)
      → children_pass (member_children site ms) ≡ (members_pass (test_view t) site ms && (t.nulls || not (members_hold_null ms)))
  members_answer site no_member_values = none_held t.nulls
  members_answer site (member_value n v ms) =
      rw (members_answer site ms)
      (both_pass t.nulls (scalars_pass (test_view t) (member_of site n) v) (holds_null v) (members_pass (test_view t) site ms) (members_hold_null ms))

  elements_counted : (site : Site) (vs : List Value) → ChildrenHavePositions (element_children site vs) → ElementsHavePositions (values_of vs)
  elements_counted site [] h = tt
  elements_counted site (v ∷ vs) h = (h.0, elements_counted site vs h.1)

  entries_counted : (site : Site) (es : MapEntries) → ChildrenHavePositions (entry_children site es) → EntriesHavePositions es
  entries_counted site no_map_entries h = tt
  entries_counted site (map_entry key v es) h = (h.0, entries_counted site es h.1)

  members_counted : (site : Site) (ms : MemberValues) → ChildrenHavePositions (member_children site ms) → MembersHavePositions ms
  members_counted site no_member_values h = tt
  members_counted site (member_value n v ms) h = (h.0, members_counted site ms h.1)

  -- the answer is whether all children pass
  abbrev pub ChildrenAnswer : List (Site × Value) → Bool → Type 0
  ChildrenAnswer cs answer = (answer ≡ children_pass cs) × (answer ≡ true → t.nulls ≡ false → ChildrenHavePositions cs)

  -- what is kept while a container is gone through: whatever the children that are left answer, the container does
  pub record IsLeft (site : Site) (container : Value) (cs : List (Site × Value)) : Type 0 where
    pub answers : (b : Bool) → ChildrenAnswer cs b → AnswersTest t site container b
    pub inside : Each (IsInside container) cs

  pub list_begun : (site : Site) (vs : List Value) → FitsOr site.table site.place true (list (values_of vs)) → count_of (values_of vs) < 18446744073709551616
      → IsLeft site (list (values_of vs)) (element_children site vs)
  list_begun site vs fits few = record {
    answers = λ b told. (told.0 ∙ elements_answer site vs, λ e nulls. (few, elements_counted site vs (told.1 e nulls)));
    inside = elements_inside site (list (values_of vs)) fits.0 vs fits.1 (omega arith);
  }

  pub map_begun : (site : Site) (es : MapEntries) → FitsOr site.table site.place true (map es) → entry_count es < 18446744073709551616
      → IsLeft site (map es) (entry_children site es)
  map_begun site es fits few = record {
    answers = λ b told. (told.0 ∙ entries_answer site es, λ e nulls. (few, entries_counted site es (told.1 e nulls)));
    inside = entries_inside site (map es) fits.0 es fits.1 (omega arith);
  }

  pub structure_begun : (site : Site) (ms : MemberValues) → FitsOr site.table site.place true (structure ms)
      → IsLeft site (structure ms) (member_children site ms)
  structure_begun site ms fits = record {
    answers = λ b told. (told.0 ∙ members_answer site ms, λ e nulls. members_counted site ms (told.1 e nulls));
    inside = members_inside site (structure ms) fits.0 ms fits.1 (omega arith);
  }

  module _ (site : Site) (container : Value) (cs : List (Site × Value)) (left : IsLeft site container cs) where
    pub ended : cs ≡ [] → AnswersTest t site container true
    ended none = left.answers true (rw none (refl, λ _ _. tt))

    module _ (child : Site) (v : Value) (rest : List (Site × Value)) (next : cs ≡ (child, v) ∷ rest) where
      pub next_inside : IsInside container (child, v)
      next_inside = (rw next at left.inside).0

      pub stopped : (b : Bool) → AnswersTest t child v b → b ≡ false → AnswersTest t site container false
      stopped b answer fails =
          let not_held : passes t child v ≡ false = sym answer.0 ∙ fails in
          left.answers false (rw (next, not_held) (refl, λ e. absurd (let false_is : false ≡ true = e in cc)))

      pub passed : (b : Bool) → AnswersTest t child v b → b ≡ true → IsLeft site container rest
      passed b answer holds =
          let held : passes t child v ≡ true = sym answer.0 ∙ holds in
          record {
            answers = λ b told. left.answers b (rw (next, held) (told.0, λ e nulls. (answer.1 holds nulls, told.1 e nulls)));
            inside = (rw next at left.inside).1;
          }

  -- ---- whole numbers

  numbers_pass : (site : Site) (ns : List ℤ) → elements_pass (test_view t) site (values_of (whole_values ns)) ≡ true
  numbers_pass site [] = refl
  numbers_pass site (n ∷ ns) = rw (other_passes t site.place.time (whole n) tt) (numbers_pass site ns)

  no_null : (ns : List ℤ) → elements_hold_null (values_of (whole_values ns)) ≡ false
  no_null [] = refl
  no_null (n ∷ ns) = no_null ns

  all_counted : (ns : List ℤ) → ElementsHavePositions (values_of (whole_values ns))
  all_counted [] = tt
  all_counted (n ∷ ns) = (tt, all_counted ns)

  pub numbers_answer : (site : Site) (ns : List ℤ) → count_of (values_of (whole_values ns)) < 18446744073709551616
      → AnswersTest t site (list (values_of (whole_values ns))) true
  numbers_answer site ns few = (rw (numbers_pass (element_of site) ns, no_null ns) (none_held t.nulls), λ _ _. (few, all_counted ns))
