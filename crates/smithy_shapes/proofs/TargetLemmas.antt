-- Where a table has no timestamps, and no documents that don't pass, each value passes a test of instants.
use Rattle.std.proofs.Common.{◌≡◌, ℕ, ℤ, List, [], ◌∷◌, Bool, true, false, Option, Some, None, option_map, slice_get, refl, sym, ◌∙◌, ap, subst, suc, zero}
use Rattle.std.proofs.lemmas.Bool.{or_parts, and_from, true≢false}
use Rattle.std.specs.List.{list_any}
use Rattle.std.specs.Option.{option_map_or}
use Rattle.smithy_declarations.specs.declared.place.Place.{Place}
use Rattle.smithy_declarations.specs.declared.place.Target.{Target}
use Rattle.smithy_declarations.specs.declared.place.Target.TheVariants.{Simple, Document, Declared}
use Rattle.smithy_declarations.specs.declared.shape_type.Scalar.{Scalar}
use Rattle.smithy_declarations.specs.declared.shape_type.Scalar.TheVariants as scalars
use Rattle.smithy_declarations.specs.declared.shape_type.TimestampFormat.{TimestampFormat}
use Rattle.smithy_declarations.specs.Table as table
use Rattle.smithy_declarations.specs.Table.{Table, Member, ListShape, MapShape, Declaration, Shape, structure_of, union_of, list_of, map_of, nothing, kind_of, kind_of_shape, kind_of_target, place_in, shape_declared, is_document_target}
use Rattle.smithy_shapes.specs.Targets.{is_timestamp, is_timestamp_target, shape_has, table_has}
use Rattle.smithy_shapes.specs.Holding.{may_hold}
use Rattle.smithy_shapes.specs.Fits.{is_of, is_scalar_of, FitsOr, ElementsFit, EntriesFit, MembersFit}
use Rattle.smithy_shapes.specs.ScalarTest.{ValueTest, scalars_pass, elements_pass, entries_pass, members_pass}
use Rattle.smithy_shapes.specs.Site.{Site, View, element_view, value_view, member_view, nameless}
use Rattle.smithy_declarations.specs.Value.{ScalarValue, instant, Value, scalar_value, list, map, structure, union, null_element, document_value, Values, no_values, value, MapEntries, no_map_entries, map_entry, MemberValues, no_member_values, member_value}
use Rattle.smithy_shapes.specs.Lemmas.Kinds.{list_kind, map_kind, structure_kind, union_kind, document_place_is}
use Rattle.smithy_shapes.specs.Lemmas.Options.{same_some}
use Rattle.smithy_shapes.proofs.SiteLemmas.{site_at, element_site_at, value_site_at, member_site_at, variant_site_at, element_fit, entry_fit, member_fit, variant_fit}

-- ---- places of a table that has no target of some test

none_at : {X : Type 0} (test : X → Bool) (xs : List X) (n : ℕ) (x : X) → list_any test xs ≡ false → slice_get xs n ≡ Some x → test x ≡ false
none_at test [] n x none at = cc
none_at test (y ∷ ys) zero x none at = ap test (sym (same_some y x at)) ∙ (or_parts (test y) (list_any test ys) none).0
none_at test (y ∷ ys) (suc n) x none at = none_at test ys n x (or_parts (test y) (list_any test ys) none).1 at

module _ (test : Target → Bool) where
  of_member : (members : List Member) (n : Option ℕ) (p : Place) → list_any (λ (m : Member). test m.place.target) members ≡ false
      → table.member_place members n ≡ Some p → test p.target ≡ false
  of_member members None p none at = cc
  of_member members (Some n) p none at = from (slice_get members n) refl at
    where
      from : (o : Option Member) → slice_get members n ≡ o → option_map (λ (m : Member). m.place) o ≡ Some p → test p.target ≡ false
      from None is at = cc
      from (Some m) is at =
          ap (λ (q : Place). test q.target) (sym (same_some m.place p at)) ∙ none_at (λ (m : Member). test m.place.target) members n m none is

  of_shape : (s : Shape) (n : Option ℕ) (p : Place) → shape_has test s ≡ false → place_in (kind_of_shape s) n ≡ Some p → test p.target ≡ false
  of_shape (table.structure members) n p none at = of_member members n p none at
  of_shape (table.union members) n p none at = of_member members n p none at
  of_shape (table.list l) n p none at = ap (λ (q : Place). test q.target) (sym (same_some l.place p at)) ∙ none
  of_shape (table.map m) n p none at = ap (λ (q : Place). test q.target) (sym (same_some m.place p at)) ∙ none

  module _ (t : Table) (none : table_has test t ≡ false) where
    of_target : (target : Target) (n : Option ℕ) (p : Place) → place_in (kind_of_target t target) n ≡ Some p → test p.target ≡ false
    of_target (Simple s) n p at = cc
    of_target Document n p at = cc
    of_target (Declared r) n p at = from (slice_get t r.0) refl at
      where
        from : (o : Option Declaration) → slice_get t r.0 ≡ o
            → place_in (option_map_or kind_of_shape (option_map (λ (d : Declaration). d.shape) o) nothing) n ≡ Some p → test p.target ≡ false
        from None is at = cc
        from (Some d) is at = of_shape d.shape n p (none_at (λ (d : Declaration). shape_has test d.shape) t r.0 d none is) at

    -- no child of a place has such a target
    pub child_has_none : (outer inner : Place) (n : Option ℕ) → place_in (kind_of t outer) n ≡ Some inner → test inner.target ≡ false
    child_has_none outer inner n at = of_target outer.target n inner at

-- ---- instants

-- the scalar is no instant
abbrev pub IsNoInstant : ScalarValue → Type 0
IsNoInstant (instant n) = ⊥
IsNoInstant _ = Unit {0}

instant_of : (s : Scalar) (n : ℤ) → is_of s (instant n) ≡ true → is_timestamp s ≡ true
instant_of scalars.Timestamp n is = refl
instant_of _ n is = cc

instant_at : (t : Table) (target : Target) (n : ℤ) → is_scalar_of (kind_of_target t target) (instant n) ≡ true → is_timestamp_target target ≡ true
instant_at t (Simple s) n is = instant_of s n is
instant_at t Document n is = cc
instant_at t (Declared r) n is = from (shape_declared t r.0) is
  where
    from : (o : Option Shape) → is_scalar_of (option_map_or kind_of_shape o nothing) (instant n) ≡ true → is_timestamp_target (Declared r) ≡ true
    from None is = cc
    from (Some (table.structure members)) is = cc
    from (Some (table.union members)) is = cc
    from (Some (table.list l)) is = cc
    from (Some (table.map m)) is = cc

no_instant : (t : Table) (p : Place) (x : ScalarValue) → is_timestamp_target p.target ≡ false → is_scalar_of (kind_of t p) x ≡ true → IsNoInstant x
no_instant t p (instant n) none is = true≢false (sym (instant_at t p.target n is) ∙ none)
no_instant t p _ none is = tt

-- ---- values

variant_place : (t : Table) (p : Place) (members : List Member) (n : ℕ) (m : Member) → kind_of t p ≡ union_of members → slice_get members n ≡ Some m
    → place_in (kind_of t p) (Some n) ≡ Some m.place
variant_place t p members n m kind found = rw (kind, found) refl

module _ (test : ValueTest) (only_instants : (time : Option TimestampFormat) (x : ScalarValue) → IsNoInstant x → test.scalar time x ≡ true) (t : Table)
    (no_timestamps : table_has is_timestamp_target t ≡ false) (no_documents : test.documents ≡ false → table_has is_document_target t ≡ false) where
  -- what may fail isn't due at the place
  abbrev IsSafe : Place → Type 0
  IsSafe p = (is_timestamp_target p.target ≡ false) × (test.documents ≡ false → is_document_target p.target ≡ false)

  child_is_safe : (outer inner : Place) (n : Option ℕ) → place_in (kind_of t outer) n ≡ Some inner → IsSafe inner
  child_is_safe outer inner n at =
      (child_has_none is_timestamp_target t no_timestamps outer inner n at, λ none. child_has_none is_document_target t (no_documents none) outer inner n at)

  document_passes : (p : Place) → IsSafe p → is_document_target p.target ≡ true → test.documents ≡ true
  document_passes p safe is = from test.documents refl
    where
      from : (b : Bool) → test.documents ≡ b → test.documents ≡ true
      from true passes = passes
      from false passes = absurd (true≢false (sym is ∙ safe.1 passes))

  mutual
    safe_passes : (p : Place) (view : View) (nulls : Bool) (v : Value) → IsSafe p → FitsOr t p nulls v → scalars_pass test (site_at t p view) v ≡ true
    safe_passes p view nulls (scalar_value x) safe fits = only_instants p.time x (no_instant t p x safe.0 fits)
    safe_passes p view nulls null_element safe fits = refl
    safe_passes p view nulls (document_value d) safe fits = document_passes p safe (document_place_is t p fits.0)
    safe_passes p view nulls (list vs) safe fits =
        let l = list_kind (kind_of t p) fits.0 in
        let inner = child_is_safe p l.0.place None (ap (λ k. place_in k None) l.1) in
        ap (λ s. elements_pass test s vs) (element_site_at t p view l.0 l.1) ∙ safe_elements_pass l.0 vs inner (subst (λ k. ElementsFit t k vs) l.1 fits.1)
    safe_passes p view nulls (map es) safe fits =
        let m = map_kind (kind_of t p) fits.0 in
        let inner = child_is_safe p m.0.place None (ap (λ k. place_in k None) m.1) in
        ap (λ s. entries_pass test s es) (value_site_at t p view m.0 m.1) ∙ safe_entries_pass m.0 es inner (subst (λ k. EntriesFit t k es) m.1 fits.1)
    safe_passes p view nulls (structure ms) safe fits =
        let members = structure_kind (kind_of t p) fits.0 in
        safe_members_pass p view members.0 members.1 ms (subst (λ k. MembersFit t k ms) members.1 fits.1)
    safe_passes p view nulls (union n v) safe fits =
        let members = union_kind (kind_of t p) fits.0 in
        let m = variant_fit t members.0 n v (subst (λ k. (q : Place) × (place_in k (Some n) ≡ Some q) × FitsOr t q false v) members.1 fits.1) in
        let inner = child_is_safe p m.0.place (Some n) (variant_place t p members.0 n m.0 members.1 m.1) in
        ap (λ s. scalars_pass test s v) (variant_site_at t p view members.0 n m.0 members.1 m.1) ∙ safe_passes m.0.place (member_view n m.0) false v inner m.2

    safe_elements_pass : (l : ListShape) (vs : Values) → IsSafe l.place → ElementsFit t (list_of l) vs
        → elements_pass test (site_at t l.place (nameless (element_view l))) vs ≡ true
    safe_elements_pass l no_values safe fits = refl
    safe_elements_pass l (value v vs) safe fits =
        and_from _ _ (safe_passes l.place (nameless (element_view l)) l.is_sparse v safe (element_fit t l v vs fits)) (safe_elements_pass l vs safe fits.1)

    safe_entries_pass : (m : MapShape) (es : MapEntries) → IsSafe m.place → EntriesFit t (map_of m) es
        → entries_pass test (site_at t m.place (nameless (value_view m))) es ≡ true
    safe_entries_pass m no_map_entries safe fits = refl
    safe_entries_pass m (map_entry key v es) safe fits =
        and_from _ _ (safe_passes m.place (nameless (value_view m)) m.is_sparse v safe (entry_fit t m key v es fits)) (safe_entries_pass m es safe fits.2)

    safe_members_pass : (p : Place) (view : View) (members : List Member) → kind_of t p ≡ structure_of members → (ms : MemberValues)
        → MembersFit t (structure_of members) ms → members_pass test (site_at t p view) ms ≡ true
    safe_members_pass p view members kind no_member_values fits = refl
    safe_members_pass p view members kind (member_value n v ms) fits =
        let m = member_fit t members n v ms fits in
        let inner = child_is_safe p m.0.place (Some n) (rw (kind, m.1) refl) in
        and_from _ _ (ap (λ s. scalars_pass test s v) (member_site_at t p view members n m.0 kind m.1) ∙ safe_passes m.0.place (member_view n m.0) false v inner m.2)
        (safe_members_pass p view members kind ms fits.1)

-- a value of a site in which no timestamp may stand, nor a document that doesn't pass
pub passes_unseen : (test : ValueTest) (only_instants : (time : Option TimestampFormat) (x : ScalarValue) → IsNoInstant x → test.scalar time x ≡ true)
    (site : Site) (nulls : Bool) (v : Value) → may_hold is_timestamp_target site ≡ false → (test.documents ≡ false → may_hold is_document_target site ≡ false)
    → FitsOr site.table site.place nulls v → scalars_pass test site v ≡ true
passes_unseen test only_instants site nulls v timestamps documents fits =
    let at = or_parts (is_timestamp_target site.place.target) (table_has is_timestamp_target site.table) timestamps in
    let at_documents = λ (passes : test.documents ≡ false). or_parts (is_document_target site.place.target) (table_has is_document_target site.table) (documents passes) in
    safe_passes test only_instants site.table at.1 (λ passes. (at_documents passes).1) site.place site.view nulls v (at.0, λ passes. (at_documents passes).0) fits
