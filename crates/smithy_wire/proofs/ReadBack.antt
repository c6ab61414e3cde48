-- A body that is written for a value of a place is read back as the value, whichever wire carries it and holds its scalars.
use Rattle.std.specs.Prelude.{◌≡◌, ◌≤◌, ℕ, length, List, Bool, true, false, None}
use Rattle.std.proofs.Common.{sym, ap, arith, subst}
use Rattle.std.proofs.lemmas.Bool.{and_parts}
use Rattle.std.proofs.lemmas.List.{drop_all}
use Rattle.smithy_declarations.specs.declared.place.Place.{Place}
use Rattle.smithy_declarations.specs.Table.{Table, Member, ListShape, MapShape, Kind, document, structure_of, list_of, map_of, kind_of}
use Rattle.smithy_declarations.specs.Value.{Value, scalar_value, list, map, structure, union, null_element, document_value, Values, no_values, value, MapEntries, no_map_entries, map_entry, MemberValues, no_member_values, member_value, nesting}
use Rattle.smithy_shapes.specs.Site.{View, member_view, element_view, value_view, nameless, member_of}
use Rattle.smithy_shapes.specs.ScalarTest.{scalars_pass, elements_pass, entries_pass, members_pass}
use Rattle.smithy_shapes.specs.Fits.{FitsOr, ElementsFit, EntriesFit, MembersFit, Fits}
use Rattle.smithy_shapes.specs.Lemmas.Kinds.{list_kind, map_kind, structure_kind, union_kind}
use Rattle.smithy_shapes.proofs.ScalarLemmas.{scalar_kind}
use Rattle.smithy_shapes.proofs.SiteLemmas.{site_at, element_site_at, value_site_at, element_fit, entry_fit, member_fit}
use Rattle.smithy_wire.specs.Node.{as_array, as_object, Node}
use Rattle.smithy_wire.specs.Rules.{Rules}
use Rattle.smithy_wire.specs.Frames.{Frames, EndsAs, relations}
use Rattle.smithy_wire.specs.Written.{Leaves, child_place, name_at, written_node, element_nodes, entry_nodes, member_nodes, TellsApart, ReadsLeaves, ReadsDocuments}
use Rattle.smithy_wire.specs.Writes.{Writes, body_of, IsWritable, AreWritable, WritesFrames, WritesLeaves, WritesDocuments}
use Rattle.smithy_wire.proofs.WrittenDocuments.{written_node_is, document_writable}
use Rattle.smithy_wire.proofs.WrittenMeaning.{IsMember, structure_member, member_place, member_name, member_site, variant_member, node_means}
use Rattle.smithy_wire.proofs.WrittenPlaces.{body_lies}

module _ {L : Type 0} (w : Writes L) (l : Leaves L) (leaves : WritesLeaves w l) (docs : l.holds.documents ≡ true → WritesDocuments w l)
    (name_of : Member → List ℕ) (t : Table) (named : TellsApart name_of t) where
  abbrev node_at : Place → Value → Node L
  node_at p v = written_node l name_of t p v

  name_writable : (p : Place) (n : ℕ) (m : Member) → IsMember (kind_of t p) n m → w.IsKey (l.key_of (name_at name_of (kind_of t p) n))
  name_writable p n m is =
      subst (λ key. w.IsKey (l.key_of key)) (sym (member_name name_of (kind_of t p) n m is)) (leaves.key_is (name_of m) (named.names_are_texts p n m is.found))

  mutual
    -- the node of a value of a place can be written
    pub value_writable : (v : Value) (p : Place) (view : View) (nulls : Bool) → FitsOr t p nulls v → scalars_pass l.holds (site_at t p view) v ≡ true
        → IsWritable w (node_at p v)
    value_writable (scalar_value x) p view nulls fits held = let s = scalar_kind (kind_of t p) x fits in rw s.1 (leaves.scalar_is s.0 p.time x s.2 held)
    value_writable null_element p view nulls fits held = tt
    value_writable (document_value v) p view nulls fits held =
        subst (IsWritable w) (sym (written_node_is l v held)) (document_writable w l leaves (docs held) v fits.1)
    value_writable (list vs) p view nulls fits held =
        let c = list_kind (kind_of t p) fits.0 in
        let all = subst (λ site. elements_pass l.holds site vs ≡ true) (element_site_at t p view c.0 c.1) held in
        subst (λ q. AreWritable w as_array (element_nodes l name_of t q vs)) (sym (ap (λ k. child_place k None p) c.1))
        (elements_writable vs c.0 (nameless (element_view c.0)) (subst (λ k. ElementsFit t k vs) c.1 fits.1) all)
    value_writable (map es) p view nulls fits held =
        let c = map_kind (kind_of t p) fits.0 in
        let all = subst (λ site. entries_pass l.holds site es ≡ true) (value_site_at t p view c.0 c.1) held in
        subst (λ q. AreWritable w as_object (entry_nodes l name_of t q es)) (sym (ap (λ k. child_place k None p) c.1))
        (entries_writable es c.0 (nameless (value_view c.0)) (subst (λ k. EntriesFit t k es) c.1 fits.1) all)
    value_writable (union n v) p view nulls fits held =
        let s = union_kind (kind_of t p) fits.0 in
        let m = variant_member t (kind_of t p) s.0 n v s.1 fits.1 in
        let one = subst (λ site. scalars_pass l.holds site v ≡ true) (member_site t p view n m.0 m.1) held in (
          name_writable p n m.0 m.1,
          subst (λ q. IsWritable w (node_at q v)) (sym (member_place (kind_of t p) n m.0 p m.1)) (value_writable v m.0.place (member_view n m.0) false m.2 one),
          tt,
        )
    value_writable (structure ms) p view nulls fits held =
        let s = structure_kind (kind_of t p) fits.0 in
        members_writable ms p view s.0 s.1 (subst (λ k. MembersFit t k ms) s.1 fits.1) held

    elements_writable : (vs : Values) (c : ListShape) (view : View) → ElementsFit t (list_of c) vs → elements_pass l.holds (site_at t c.place view) vs ≡ true
        → AreWritable w as_array (element_nodes l name_of t c.place vs)
    elements_writable no_values c view fits held = tt
    elements_writable (value v vs) c view fits held =
        let parts = and_parts (scalars_pass l.holds (site_at t c.place view) v) (elements_pass l.holds (site_at t c.place view) vs) held in
        (tt, value_writable v c.place view c.is_sparse (element_fit t c v vs fits) parts.0, elements_writable vs c view fits.1 parts.1)

    entries_writable : (es : MapEntries) (c : MapShape) (view : View) → EntriesFit t (map_of c) es → entries_pass l.holds (site_at t c.place view) es ≡ true
        → AreWritable w as_object (entry_nodes l name_of t c.place es)
    entries_writable no_map_entries c view fits held = tt
    entries_writable (map_entry key v es) c view fits held =
        let parts = and_parts (scalars_pass l.holds (site_at t c.place view) v) (entries_pass l.holds (site_at t c.place view) es) held in
        (leaves.key_is key fits.0, value_writable v c.place view c.is_sparse (entry_fit t c key v es fits) parts.0, entries_writable es c view fits.2 parts.1)

    members_writable : (ms : MemberValues) (p : Place) (view : View) (members : List Member) → kind_of t p ≡ structure_of members
        → MembersFit t (structure_of members) ms → members_pass l.holds (site_at t p view) ms ≡ true → AreWritable w as_object (member_nodes l name_of t p ms)
    members_writable no_member_values p view members kind fits held = tt
    members_writable (member_value n v ms) p view members kind fits held =
        let m = member_fit t members n v ms fits in
        let is = structure_member (kind_of t p) members n m.0 kind m.1 in
        let parts = and_parts (scalars_pass l.holds (member_of (site_at t p view) n) v) (members_pass l.holds (site_at t p view) ms) held in
        let one = subst (λ site. scalars_pass l.holds site v ≡ true) (member_site t p view n m.0 is) parts.0 in (
          name_writable p n m.0 is,
          subst (λ q. IsWritable w (node_at q v)) (sym (member_place (kind_of t p) n m.0 p is)) (value_writable v m.0.place (member_view n m.0) false m.2 one),
          members_writable ms p view members kind fits.1 parts.1,
        )

-- the body ends where the input does, as a document ends
body_ends : {L : Type 0} (w : Writes L) (frames : Frames L) → WritesFrames w frames → (k : Kind) (i : List ℕ) → EndsAs frames k i 0 (length i)
body_ends w frames law document i = law.follows_lie i 0 (length i) (omega arith) (drop_all (length i) i (omega arith))
body_ends w frames law _ i = tt

-- a value that fits its place, whose scalars and documents the wire holds and that nests no deeper than may be read stands in
-- the body that is written for it
pub written_stands : {L : Type 0} (w : Writes L) (frames : Frames L) (l : Leaves L) (r : Rules L) → WritesFrames w frames → WritesLeaves w l → ReadsLeaves l r
    → (l.holds.documents ≡ true → WritesDocuments w l × ReadsDocuments l r) → (t : Table) (p : Place) (view : View) (v : Value) → TellsApart r.name_of t → Fits t p v → scalars_pass l.holds (site_at t p view) v ≡ true
    → nesting v ≤ r.max_depth → w.IsBody (body_of w l r.name_of t p v)
    → (relations frames r).stands (body_of w l r.name_of t p v) t p 0 0 v (length (body_of w l r.name_of t p v))
written_stands w frames l r law leaves reads docs t p view v named fits held deep is_body = (
  written_node l r.name_of t p v,
  body_lies w frames law (written_node l r.name_of t p v) (value_writable w l leaves (λ h. (docs h).0) r.name_of t named v p view false fits held) is_body,
  node_means l r reads (λ h. (docs h).1) t named p view 0 v fits held (omega (arith, deep)),
  body_ends w frames law (kind_of t p) (body_of w l r.name_of t p v),
)
