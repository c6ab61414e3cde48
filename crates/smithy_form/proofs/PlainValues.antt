-- A plain value of an accepted table is one that a form tells whole, and the other way round.
use Rattle.std.proofs.Common.{◌≡◌, ℕ, List, Bool, true, false, Some, slice_get, refl, sym, ◌∙◌, ap, subst}
use Rattle.std.specs.Prelude.{◌||◌}
use Rattle.std.proofs.lemmas.Bool.{and_parts}
use Rattle.smithy_declarations.specs.declared.place.Place.{Place}
use Rattle.smithy_declarations.specs.Table.{Table, Member, ListShape, MapShape, kind_of, members_of, structure_of, list_of, map_of, query_name_of, position_named, place_in}
use Rattle.smithy_declarations.specs.Value.{Value, scalar_value, list, map, structure, union, null_element, document_value, Values, no_values, value, MapEntries, no_map_entries, map_entry, MemberValues, no_member_values, member_value}
use Rattle.smithy_shapes.specs.Accepted.{IsAccepted}
use Rattle.smithy_shapes.specs.Fits.{FitsOr, ElementsFit, EntriesFit, MembersFit}
use Rattle.smithy_shapes.specs.Lemmas.Kinds.{list_kind, map_kind, structure_kind, union_kind}
use Rattle.smithy_shapes.specs.Site.{Site, View, member_view, element_view, value_view, nameless, kind_at, member_of}
use Rattle.smithy_shapes.specs.ScalarTest.{scalars_pass, elements_pass, entries_pass, members_pass}
use Rattle.smithy_shapes.proofs.SiteLemmas.{site_at, element_site_at, value_site_at, member_site_at, variant_site_at, element_fit, entry_fit, member_fit, variant_fit}
use Rattle.smithy_shapes.proofs.NamedLemmas.{named_itself}
use Rattle.smithy_query_codec.specs.Leaves.{neither, query_name, leaves}
use Rattle.smithy_query_codec.specs.Nulls.{holds_null, elements_hold_null, entries_hold_null, members_hold_null}
use Rattle.smithy_query_codec.specs.Writable.{query_holds}
use Rattle.smithy_query_codec.specs.Counts.{HasPositions, ElementsHavePositions, EntriesHavePositions, MembersHavePositions}
use Rattle.smithy_query_codec.proofs.AcceptedForms.{fit_has_form}
use Rattle.smithy_form.specs.Lookup.{AreSame}
use Rattle.smithy_form.specs.Plain.{TellsParts, ElementsTold, EntriesTold, MembersTold, IsPlain}
use Rattle.smithy_form.specs.Private.Whole.{IsNamed, AreNamesApart, IsWhole, WholeElements, WholeEntries, WholeMembers}
use Rattle.smithy_form.proofs.UniqueValues.{same_value}

or_parts : (a b : Bool) → (a || b) ≡ false → (a ≡ false) × (b ≡ false)
or_parts false b h = (refl, h)
or_parts true b h = cc

name_of_member : (site : Site) (n : ℕ) (m : Member) → slice_get (members_of (kind_at site)) n ≡ Some m → query_name (member_of site n).view ≡ Some (query_name_of m)
name_of_member site n m found = rw found refl

module _ (t : Table) (accepted : IsAccepted t) where
  pub names_apart : (p : Place) (view : View) → AreNamesApart (site_at t p view)
  names_apart p view n k name is_n is_k =
      let members = members_of (kind_of t p) in
      let ok = accepted.members_are_accepted p in
      let site = site_at t p view in
      let first : query_name_of is_n.member ≡ name = let e : Some (query_name_of is_n.member) ≡ Some name = sym (name_of_member site n is_n.member is_n.found) ∙ is_n.is in cc in
      let second : query_name_of is_k.member ≡ name = let e : Some (query_name_of is_k.member) ≡ Some name = sym (name_of_member site k is_k.member is_k.found) ∙ is_k.is in cc in
      let same : Some n ≡ Some k =
      sym (named_itself query_name_of members ok.query_names_differ n is_n.member is_n.found)
      ∙ ap (position_named query_name_of members) (first ∙ sym second)
      ∙ named_itself query_name_of members ok.query_names_differ k is_k.member is_k.found in
      cc

  is_named : (p : Place) (view : View) (n : ℕ) (m : Member) → slice_get (members_of (kind_of t p)) n ≡ Some m → IsNamed (site_at t p view) n (query_name_of m)
  is_named p view n m found = record { member = m; found = found; is = name_of_member (site_at t p view) n m found }

  mutual
    pub plain_is_whole : (p : Place) (view : View) (nulls : Bool) (v : Value) → FitsOr t p nulls v → holds_null v ≡ false → scalars_pass query_holds (site_at t p view) v ≡ true
        → HasPositions v → TellsParts (site_at t p view) v → IsWhole (site_at t p view) v
    plain_is_whole p view nulls (scalar_value x) fits no_null pass ex told = (fits, pass)
    plain_is_whole p view nulls null_element fits no_null pass ex told = absurd (let e : true ≡ false = no_null in cc)
    plain_is_whole p view nulls (document_value d) fits no_null pass ex told = absurd (let e : false ≡ true = pass in cc)
    plain_is_whole p view nulls (list vs) fits no_null pass ex told =
        let l = list_kind (kind_of t p) fits.0 in
        let is = element_site_at t p view l.0 l.1 in (
          fits.0,
          ex.0,
          subst (λ s. WholeElements s vs) (sym is)
              (elements_whole l.0 vs (subst (λ k. ElementsFit t k vs) l.1 fits.1) no_null
              (subst (λ s. elements_pass query_holds s vs ≡ true) is pass) ex.1 (subst (λ s. ElementsTold s vs) is told)),
        )
    plain_is_whole p view nulls (map es) fits no_null pass ex told =
        let m = map_kind (kind_of t p) fits.0 in
        let is = value_site_at t p view m.0 m.1 in
        let form = fit_has_form t accepted p view nulls (map es) fits ex in (
          fits.0,
          form.0.differ,
          told.0,
          fits.2,
          ex.0,
          subst (λ s. WholeEntries s es) (sym is)
              (entries_whole m.0 es (subst (λ k. EntriesFit t k es) m.1 fits.1) no_null
              (subst (λ s. entries_pass query_holds s es ≡ true) is pass) ex.1 (subst (λ s. EntriesTold s es) is told.1)),
        )
    plain_is_whole p view nulls (structure ms) fits no_null pass ex told =
        let members = structure_kind (kind_of t p) fits.0 in (
          fits.0,
          names_apart p view,
          fits.2,
          members_whole p view members.0 members.1 ms (subst (λ k. MembersFit t k ms) members.1 fits.1) no_null pass ex told,
        )
    plain_is_whole p view nulls (union n v) fits no_null pass ex told =
        let members = union_kind (kind_of t p) fits.0 in
        let inner = subst (λ k. (q : Place) × (place_in k (Some n) ≡ Some q) × FitsOr t q false v) members.1 fits.1 in
        let m = variant_fit t members.0 n v inner in
        let is = variant_site_at t p view members.0 n m.0 members.1 m.1 in
        let found : slice_get (members_of (kind_of t p)) n ≡ Some m.0 = ap (λ k. slice_get (members_of k) n) members.1 ∙ m.1 in (
          fits.0,
          names_apart p view,
          (query_name_of m.0, is_named p view n m.0 found, told.0),
          subst (λ s. IsWhole s v) (sym is)
              (plain_is_whole m.0.place (member_view n m.0) false v m.2 no_null (subst (λ s. scalars_pass query_holds s v ≡ true) is pass) ex
              (subst (λ s. TellsParts s v) is told.1)),
        )

    elements_whole : (l : ListShape) (vs : Values) → ElementsFit t (list_of l) vs → elements_hold_null vs ≡ false
        → elements_pass query_holds (site_at t l.place (nameless (element_view l))) vs ≡ true → ElementsHavePositions vs
        → ElementsTold (site_at t l.place (nameless (element_view l))) vs → WholeElements (site_at t l.place (nameless (element_view l))) vs
    elements_whole l no_values fits no_null pass ex told = tt
    elements_whole l (value v vs) fits no_null pass ex told =
        let nulls = or_parts (holds_null v) (elements_hold_null vs) no_null in
        let passes = and_parts _ _ pass in (
          told.0,
          plain_is_whole l.place (nameless (element_view l)) l.is_sparse v (element_fit t l v vs fits) nulls.0 passes.0 ex.0 told.1,
          elements_whole l vs fits.1 nulls.1 passes.1 ex.1 told.2,
        )

    entries_whole : (m : MapShape) (es : MapEntries) → EntriesFit t (map_of m) es → entries_hold_null es ≡ false
        → entries_pass query_holds (site_at t m.place (nameless (value_view m))) es ≡ true → EntriesHavePositions es
        → EntriesTold (site_at t m.place (nameless (value_view m))) es → WholeEntries (site_at t m.place (nameless (value_view m))) es
    entries_whole m no_map_entries fits no_null pass ex told = tt
    entries_whole m (map_entry key v es) fits no_null pass ex told =
        let nulls = or_parts (holds_null v) (entries_hold_null es) no_null in
        let passes = and_parts _ _ pass in (
          fits.0,
          told.0,
          plain_is_whole m.place (nameless (value_view m)) m.is_sparse v (entry_fit t m key v es fits) nulls.0 passes.0 ex.0 told.1,
          entries_whole m es fits.2 nulls.1 passes.1 ex.1 told.2,
        )

    members_whole : (p : Place) (view : View) (members : List Member) → kind_of t p ≡ structure_of members → (ms : MemberValues) → MembersFit t (structure_of members) ms
        → members_hold_null ms ≡ false → members_pass query_holds (site_at t p view) ms ≡ true → MembersHavePositions ms → MembersTold (site_at t p view) ms
        → WholeMembers (site_at t p view) ms
    members_whole p view members kind no_member_values fits no_null pass ex told = tt
    members_whole p view members kind (member_value n v ms) fits no_null pass ex told =
        let nulls = or_parts (holds_null v) (members_hold_null ms) no_null in
        let passes = and_parts _ _ pass in
        let m = member_fit t members n v ms fits in
        let is = member_site_at t p view members n m.0 kind m.1 in
        let found : slice_get (members_of (kind_of t p)) n ≡ Some m.0 = ap (λ k. slice_get (members_of k) n) kind ∙ m.1 in (
          (query_name_of m.0, is_named p view n m.0 found, told.0),
          subst (λ s. IsWhole s v) (sym is)
              (plain_is_whole m.0.place (member_view n m.0) false v m.2 nulls.0 (subst (λ s. scalars_pass query_holds s v ≡ true) is passes.0) ex.0
              (subst (λ s. TellsParts s v) is told.1)),
          members_whole p view members kind ms fits.1 nulls.1 passes.1 ex.1 told.2,
        )

-- the plain value of a site is whole
pub whole_of : (site : Site) → IsAccepted site.table → (depth : ℕ) (v : Value) → IsPlain site depth v → IsWhole site v
whole_of site accepted depth v plain =
    plain_is_whole site.table accepted site.place site.view false v plain.fits plain.no_null plain.holds plain.counts plain.tells

-- no two plain values of a site of an accepted table have the same leaves
pub one_plain_value : (site : Site) → IsAccepted site.table → (depth : ℕ) (v w : Value) → IsPlain site depth v → IsPlain site depth w
    → AreSame (leaves site neither v) (leaves site neither w) → v ≡ w
one_plain_value site accepted depth v w hv hw same =
    same_value site neither v w (whole_of site accepted depth v hv) (whole_of site accepted depth w hw) same
