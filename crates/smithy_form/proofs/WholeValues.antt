-- A value that a form tells whole is a plain value.
use Rattle.std.proofs.Common.{◌≡◌, ◌≤◌, ℕ, List, Bool, true, false, Some, slice_get, option_map, refl, sym, ap, subst}
use Rattle.smithy_declarations.specs.declared.place.Place.{Place}
use Rattle.smithy_declarations.specs.Table.{Table, Member, ListShape, MapShape, kind_of, members_of, structure_of, union_of, list_of, map_of, place_in}
use Rattle.smithy_declarations.specs.Value.{Value, scalar_value, list, map, structure, union, null_element, document_value, Values, no_values, value, MapEntries, no_map_entries, map_entry, MemberValues, no_member_values, member_value, nesting}
use Rattle.smithy_shapes.specs.Fits.{FitsOr, ElementsFit, EntriesFit, MembersFit}
use Rattle.smithy_shapes.specs.Lemmas.Kinds.{list_kind, map_kind, structure_kind, union_kind}
use Rattle.smithy_shapes.specs.Site.{Site, View, member_view, element_view, value_view, nameless, member_of}
use Rattle.smithy_shapes.specs.ScalarTest.{scalars_pass, elements_pass, entries_pass, members_pass}
use Rattle.smithy_shapes.proofs.SiteLemmas.{site_at, element_site_at, value_site_at, member_site_at, variant_site_at}
use Rattle.smithy_query_codec.specs.Nulls.{holds_null, elements_hold_null, entries_hold_null, members_hold_null}
use Rattle.smithy_query_codec.specs.Writable.{query_holds}
use Rattle.smithy_query_codec.specs.Counts.{HasPositions, ElementsHavePositions, EntriesHavePositions, MembersHavePositions}
use Rattle.smithy_form.specs.Plain.{TellsParts, ElementsTold, EntriesTold, MembersTold, IsPlain}
use Rattle.smithy_form.specs.Private.Whole.{IsWhole, WholeElements, WholeEntries, WholeMembers}

module _ (t : Table) where
  -- the parts of what is plain, but for its depth; no null stands there, so it fits wherever one may
  record AreParts (p : Place) (view : View) (v : Value) : Type 0 where
    fits : (nulls : Bool) → FitsOr t p nulls v
    no_null : holds_null v ≡ false
    holds : scalars_pass query_holds (site_at t p view) v ≡ true
    counts : HasPositions v
    tells : TellsParts (site_at t p view) v

  record AreElementParts (l : ListShape) (vs : Values) : Type 0 where
    fits : ElementsFit t (list_of l) vs
    no_null : elements_hold_null vs ≡ false
    holds : elements_pass query_holds (site_at t l.place (nameless (element_view l))) vs ≡ true
    counts : ElementsHavePositions vs
    tells : ElementsTold (site_at t l.place (nameless (element_view l))) vs

  record AreEntryParts (m : MapShape) (es : MapEntries) : Type 0 where
    fits : EntriesFit t (map_of m) es
    no_null : entries_hold_null es ≡ false
    holds : entries_pass query_holds (site_at t m.place (nameless (value_view m))) es ≡ true
    counts : EntriesHavePositions es
    tells : EntriesTold (site_at t m.place (nameless (value_view m))) es

  record AreMemberParts (p : Place) (view : View) (members : List Member) (ms : MemberValues) : Type 0 where
    fits : MembersFit t (structure_of members) ms
    no_null : members_hold_null ms ≡ false
    holds : members_pass query_holds (site_at t p view) ms ≡ true
    counts : MembersHavePositions ms
    tells : MembersTold (site_at t p view) ms

  mutual
    whole_parts : (p : Place) (view : View) (v : Value) → IsWhole (site_at t p view) v → AreParts p view v
    whole_parts p view (scalar_value x) h = record { fits = λ nulls. h.0; no_null = refl; holds = h.1; counts = tt; tells = tt }
    whole_parts p view null_element h = absurd h
    whole_parts p view (document_value d) h = absurd h
    whole_parts p view (list vs) h =
        let l = list_kind (kind_of t p) h.0 in
        let is = element_site_at t p view l.0 l.1 in
        let parts = element_parts l.0 vs (subst (λ s. WholeElements s vs) is h.2) in record {
          fits = λ nulls. (h.0, subst (λ k. ElementsFit t k vs) (sym l.1) parts.fits);
          no_null = parts.no_null;
          holds = subst (λ s. elements_pass query_holds s vs ≡ true) (sym is) parts.holds;
          counts = (h.1, parts.counts);
          tells = subst (λ s. ElementsTold s vs) (sym is) parts.tells;
        }
    whole_parts p view (map es) h =
        let m = map_kind (kind_of t p) h.0 in
        let is = value_site_at t p view m.0 m.1 in
        let parts = entry_parts m.0 es (subst (λ s. WholeEntries s es) is h.5) in record {
          fits = λ nulls. (h.0, subst (λ k. EntriesFit t k es) (sym m.1) parts.fits, h.3);
          no_null = parts.no_null;
          holds = subst (λ s. entries_pass query_holds s es ≡ true) (sym is) parts.holds;
          counts = (h.4, parts.counts);
          tells = (h.2, subst (λ s. EntriesTold s es) (sym is) parts.tells);
        }
    whole_parts p view (structure ms) h =
        let members = structure_kind (kind_of t p) h.0 in
        let parts = member_parts p view members.0 members.1 ms h.3 in record {
          fits = λ nulls. (h.0, subst (λ k. MembersFit t k ms) (sym members.1) parts.fits, h.2);
          no_null = parts.no_null;
          holds = parts.holds;
          counts = parts.counts;
          tells = parts.tells;
        }
    whole_parts p view (union n v) h =
        let members = union_kind (kind_of t p) h.0 in
        let m = h.2.1.member in
        let found : slice_get members.0 n ≡ Some m = subst (λ k. slice_get (members_of k) n ≡ Some m) members.1 h.2.1.found in
        let is = variant_site_at t p view members.0 n m members.1 found in
        let parts = whole_parts m.place (member_view n m) v (subst (λ s. IsWhole s v) is h.3) in
        let at : place_in (union_of members.0) (Some n) ≡ Some m.place = ap (option_map (λ (x : Member). x.place)) found in record {
          fits = λ nulls. (h.0, subst (λ k. (q : Place) × (place_in k (Some n) ≡ Some q) × FitsOr t q false v) (sym members.1) (m.place, at, parts.fits false));
          no_null = parts.no_null;
          holds = subst (λ s. scalars_pass query_holds s v ≡ true) (sym is) parts.holds;
          counts = parts.counts;
          tells = (h.2.2, subst (λ s. TellsParts s v) (sym is) parts.tells);
        }

    element_parts : (l : ListShape) (vs : Values) → WholeElements (site_at t l.place (nameless (element_view l))) vs → AreElementParts l vs
    element_parts l no_values h = record { fits = tt; no_null = refl; holds = refl; counts = tt; tells = tt }
    element_parts l (value v vs) h =
        let one = whole_parts l.place (nameless (element_view l)) v h.1 in
        let more = element_parts l vs h.2 in record {
          fits = ((l.place, refl, one.fits l.is_sparse), more.fits);
          no_null = rw (one.no_null, more.no_null) refl;
          holds = rw (one.holds, more.holds) refl;
          counts = (one.counts, more.counts);
          tells = (h.0, one.tells, more.tells);
        }

    entry_parts : (m : MapShape) (es : MapEntries) → WholeEntries (site_at t m.place (nameless (value_view m))) es → AreEntryParts m es
    entry_parts m no_map_entries h = record { fits = tt; no_null = refl; holds = refl; counts = tt; tells = tt }
    entry_parts m (map_entry key v es) h =
        let one = whole_parts m.place (nameless (value_view m)) v h.2 in
        let more = entry_parts m es h.3 in record {
          fits = (h.0, (m.place, refl, one.fits m.is_sparse), more.fits);
          no_null = rw (one.no_null, more.no_null) refl;
          holds = rw (one.holds, more.holds) refl;
          counts = (one.counts, more.counts);
          tells = (h.1, one.tells, more.tells);
        }

    member_parts : (p : Place) (view : View) (members : List Member) → kind_of t p ≡ structure_of members → (ms : MemberValues) → WholeMembers (site_at t p view) ms
        → AreMemberParts p view members ms
    member_parts p view members kind no_member_values h = record { fits = tt; no_null = refl; holds = refl; counts = tt; tells = tt }
    member_parts p view members kind (member_value n v ms) h =
        let m = h.0.1.member in
        let found : slice_get members n ≡ Some m = subst (λ k. slice_get (members_of k) n ≡ Some m) kind h.0.1.found in
        let is = member_site_at t p view members n m kind found in
        let one = whole_parts m.place (member_view n m) v (subst (λ s. IsWhole s v) is h.1) in
        let more = member_parts p view members kind ms h.2 in
        let at : place_in (structure_of members) (Some n) ≡ Some m.place = ap (option_map (λ (x : Member). x.place)) found in
        let pass : scalars_pass query_holds (member_of (site_at t p view) n) v ≡ true = subst (λ s. scalars_pass query_holds s v ≡ true) (sym is) one.holds in record {
          fits = ((m.place, at, one.fits false), more.fits);
          no_null = rw (one.no_null, more.no_null) refl;
          holds = rw (pass, more.holds) refl;
          counts = (one.counts, more.counts);
          tells = (h.0.2, subst (λ s. TellsParts s v) (sym is) one.tells, more.tells);
        }

-- a whole value that nests no deeper is plain
pub plain_of : (site : Site) (depth : ℕ) (v : Value) → IsWhole site v → nesting v ≤ depth → IsPlain site depth v
plain_of site depth v whole deep =
    let parts = whole_parts site.table site.place site.view v whole in
    record { fits = parts.fits false; no_null = parts.no_null; holds = parts.holds; counts = parts.counts; nests = deep; tells = parts.tells }
