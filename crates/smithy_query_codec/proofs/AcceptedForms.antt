-- What fits a place of an accepted table has a form, where its lists and maps are short enough.
use Rattle.std.proofs.Common.{◌≡◌, ◌≢◌, ◌<◌, ◌==◌, ℕ, zero, suc, List, [], ◌∷◌, map as mapped, Bool, true, false, Some, None, slice_get, refl, sym, ◌∙◌, ap, subst, arith}
use Rattle.std.specs.List.{AllByRecursion, list_all}
use Rattle.std.specs.Str.{bytes_eq}
use Rattle.std.proofs.lemmas.Bool.{and_parts}
use Rattle.std.proofs.lemmas.Bool.Decides.{nat_tests}
use Rattle.smithy_declarations.specs.declared.place.Place.{Place}
use Rattle.smithy_declarations.specs.Table.{Table, Member, ListShape, MapShape, kind_of, members_of, list_shape_of, map_shape_of, structure_of, list_of, map_of, query_name_of, key_name_of, value_name_of, position_named, place_in}
use Rattle.smithy_shapes.specs.Accepted.{AreAcceptedMembers, IsAccepted}
use Rattle.smithy_declarations.specs.Names.{is_query_name}
use Rattle.smithy_shapes.specs.Site.{Site, View, member_view, element_view, value_view, nameless, member_of}
use Rattle.smithy_declarations.specs.Value.{Value, scalar_value, list, map, structure, union, null_element, document_value, Values, no_values, value, MapEntries, no_map_entries, map_entry, MemberValues, no_member_values, member_value}
use Rattle.smithy_shapes.specs.Fits.{FitsOr, ElementsFit, EntriesFit, MembersFit, AscendFrom}
use Rattle.smithy_shapes.specs.Lemmas.Kinds.{list_kind, map_kind, structure_kind, union_kind}
use Rattle.smithy_shapes.proofs.SiteLemmas.{site_at, element_site_at, value_site_at, member_site_at, variant_site_at, element_fit, entry_fit, member_fit, variant_fit}
use Rattle.smithy_shapes.proofs.NamedLemmas.{named_itself}
use Rattle.smithy_query_codec.specs.Leaves.{query_name, element_name}
use Rattle.smithy_query_codec.specs.Counts.{HasPositions, ElementsHavePositions, EntriesHavePositions, MembersHavePositions}
use Rattle.smithy_query_codec.proofs.Forms.{names_of, IsNoNull, HasEntryNames, HasForm, ElementsHaveForm, EntriesHaveForm, MembersHaveForm}

text_equals : (t : List ℕ) → bytes_eq t t ≡ true
text_equals [] = refl
text_equals (b ∷ t) = let same : (b == b) ≡ true = grind (arith, nat_tests) in rw (same, text_equals t) refl

no_null : (t : Table) (p : Place) (v : Value) → FitsOr t p false v → IsNoNull v
no_null t p (scalar_value x) fits = tt
no_null t p (list vs) fits = tt
no_null t p (map es) fits = tt
no_null t p (structure ms) fits = tt
no_null t p (union n v) fits = tt
no_null t p (document_value d) fits = tt
no_null t p null_element fits = absurd (let e : false ≡ true = fits in cc)

each_true : {X : Type 0} (f : X → List ℕ) (xs : List X) (n : ℕ) (x : X) → list_all is_query_name (mapped f xs) ≡ true → slice_get xs n ≡ Some x → is_query_name (f x) ≡ true
each_true f [] n x all found = absurd (let e : None ≡ Some x = found in cc)
each_true f (y ∷ xs) zero x all found = let e : y ≡ x = cc in rw (← e) (and_parts _ _ all).0
each_true f (y ∷ xs) (suc n) x all found = each_true f xs n x (and_parts _ _ all).1 found

module _ (t : Table) (accepted : IsAccepted t) where
  element_fits : (p : Place) (view : View) (l : ListShape) → kind_of t p ≡ list_of l → is_query_name (element_name (site_at t p view)) ≡ true
  element_fits p view l kind =
      let shape : list_shape_of (kind_of t p) ≡ Some l = rw kind refl in
      rw shape (accepted.element_names_fit p l shape)

  entry_names : (p : Place) (view : View) (m : MapShape) → kind_of t p ≡ map_of m → HasEntryNames (site_at t p view)
  entry_names p view m kind =
      let shape : map_shape_of (kind_of t p) ≡ Some m = rw kind refl in
      let names = accepted.entry_names_are_accepted p m shape in
      record {
        key_fits = rw shape names.key_name_fits;
        value_fits = rw shape names.value_name_fits;
        differ = rw shape (λ same. let e : bytes_eq (key_name_of m) (value_name_of m) ≡ true = ap (bytes_eq (key_name_of m)) (sym same) ∙ text_equals (key_name_of m) in let x : true ≡ false = sym e ∙ names.names_differ in cc);
      }

module _ (t : Table) (p : Place) (view : View) (members : List Member) (kind : kind_of t p ≡ structure_of members) (ok : AreAcceptedMembers members) where
  name_at : (n : ℕ) (m : Member) → slice_get members n ≡ Some m → query_name (member_of (site_at t p view) n).view ≡ Some (query_name_of m)
  name_at n m found = ap (λ (s : Site). query_name s.view) (member_site_at t p view members n m kind found)

  -- two members of one name are one
  same_member : (n k : ℕ) (m o : Member) → slice_get members n ≡ Some m → slice_get members k ≡ Some o → query_name_of m ≡ query_name_of o → Some n ≡ Some k
  same_member n k m o at_n at_k same =
      sym (named_itself query_name_of members ok.query_names_differ n m at_n)
      ∙ ap (position_named query_name_of members) same
      ∙ named_itself query_name_of members ok.query_names_differ k o at_k

  later_differ : (n : ℕ) (m : Member) → slice_get members n ≡ Some m → (least : ℕ) (ms : MemberValues) → n < least → AscendFrom least ms → MembersFit t (structure_of members) ms
      → AllByRecursion (λ other. query_name_of m ≢ other) (names_of (site_at t p view) ms)
  later_differ n m found least no_member_values below ascend fits = tt
  later_differ n m found least (member_value k v ms) below ascend fits =
      let one = member_fit t members k v ms fits in
      rw (name_at k one.0 one.1) (
        (λ same. let e = same_member n k m one.0 found one.1 same in let ee : n ≡ k = cc in omega (arith, ee, below, ascend.0)),
        later_differ n m found (suc k) ms (omega (arith, below, ascend.0)) ascend.1 fits.1,
      )

-- ---- any value

module _ (t : Table) (accepted : IsAccepted t) where
  mutual
    pub fit_has_form : (p : Place) (view : View) (nulls : Bool) (v : Value) → FitsOr t p nulls v → HasPositions v → HasForm (site_at t p view) v
    fit_has_form p view nulls (scalar_value x) fits ex = tt
    fit_has_form p view nulls null_element fits ex = tt
    fit_has_form p view nulls (document_value d) fits ex = tt
    fit_has_form p view nulls (list vs) fits ex =
        let l = list_kind (kind_of t p) fits.0 in
        let inner = subst (λ k. ElementsFit t k vs) l.1 fits.1 in (
          element_fits t accepted p view l.0 l.1,
          ex.0,
          subst (λ s. ElementsHaveForm s vs) (sym (element_site_at t p view l.0 l.1)) (elements_have_form l.0 vs inner ex.1),
        )
    fit_has_form p view nulls (map es) fits ex =
        let m = map_kind (kind_of t p) fits.0 in
        let inner = subst (λ k. EntriesFit t k es) m.1 fits.1 in (
          entry_names t accepted p view m.0 m.1,
          ex.0,
          subst (λ s. EntriesHaveForm s es) (sym (value_site_at t p view m.0 m.1)) (entries_have_form m.0 es inner ex.1),
        )
    fit_has_form p view nulls (structure ms) fits ex =
        let members = structure_kind (kind_of t p) fits.0 in
        members_have_form p view members.0 members.1 0 ms (subst (λ k. MembersFit t k ms) members.1 fits.1) fits.2 ex
    fit_has_form p view nulls (union n v) fits ex =
        let members = union_kind (kind_of t p) fits.0 in
        let inner = subst (λ k. (q : Place) × (place_in k (Some n) ≡ Some q) × FitsOr t q false v) members.1 fits.1 in
        let m = variant_fit t members.0 n v inner in
        let site = variant_site_at t p view members.0 n m.0 members.1 m.1 in
        let ok : AreAcceptedMembers members.0 = subst (λ k. AreAcceptedMembers (members_of k)) members.1 (accepted.members_are_accepted p) in (
          (query_name_of m.0, ap (λ (s : Site). query_name s.view) site, each_true query_name_of members.0 n m.0 ok.query_names_fit m.1, tt),
          no_null t m.0.place v m.2,
          subst (λ s. HasForm s v) (sym site) (fit_has_form m.0.place (member_view n m.0) false v m.2 ex),
        )

    elements_have_form : (l : ListShape) (vs : Values) → ElementsFit t (list_of l) vs → ElementsHavePositions vs
        → ElementsHaveForm (site_at t l.place (nameless (element_view l))) vs
    elements_have_form l no_values fits ex = tt
    elements_have_form l (value v vs) fits ex =
        (fit_has_form l.place (nameless (element_view l)) l.is_sparse v (element_fit t l v vs fits) ex.0, elements_have_form l vs fits.1 ex.1)

    entries_have_form : (m : MapShape) (es : MapEntries) → EntriesFit t (map_of m) es → EntriesHavePositions es
        → EntriesHaveForm (site_at t m.place (nameless (value_view m))) es
    entries_have_form m no_map_entries fits ex = tt
    entries_have_form m (map_entry key v es) fits ex =
        (fit_has_form m.place (nameless (value_view m)) m.is_sparse v (entry_fit t m key v es fits) ex.0, entries_have_form m es fits.2 ex.1)

    members_have_form : (p : Place) (view : View) (members : List Member) → kind_of t p ≡ structure_of members → (least : ℕ) (ms : MemberValues)
        → MembersFit t (structure_of members) ms → AscendFrom least ms → MembersHavePositions ms → MembersHaveForm (site_at t p view) ms
    members_have_form p view members kind least no_member_values fits ascend ex = tt
    members_have_form p view members kind least (member_value n v ms) fits ascend ex =
        let ok : AreAcceptedMembers members = subst (λ k. AreAcceptedMembers (members_of k)) kind (accepted.members_are_accepted p) in
        let m = member_fit t members n v ms fits in
        let site = member_site_at t p view members n m.0 kind m.1 in (
          (
            query_name_of m.0,
            name_at t p view members kind ok n m.0 m.1,
            each_true query_name_of members n m.0 ok.query_names_fit m.1,
            later_differ t p view members kind ok n m.0 m.1 (suc n) ms (omega arith) ascend.1 fits.1,
          ),
          no_null t m.0.place v m.2,
          subst (λ s. HasForm s v) (sym site) (fit_has_form m.0.place (member_view n m.0) false v m.2 ex.0),
          members_have_form p view members kind (suc n) ms fits.1 ascend.1 ex.1,
        )
