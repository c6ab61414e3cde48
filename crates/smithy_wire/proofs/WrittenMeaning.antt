-- The node as which a value of a place is written means the value, where the wire holds its scalars and the depth leaves
-- room for it.
use Rattle.std.specs.Prelude.{◌≡◌, ◌≤◌, ◌+◌, ◌&&◌, ℕ, ℤ, suc, List, Bool, true, false, Option, Some, None, option_and_then, slice_get, refl, if◌then◌else◌}
use Rattle.std.proofs.Common.{sym, ap, ◌∙◌, arith, subst}
use Rattle.std.proofs.lemmas.Bool.{and_parts}
use Rattle.smithy_types.specs.Document.{Document}
use Rattle.smithy_declarations.specs.declared.place.Place.{Place}
use Rattle.smithy_declarations.specs.Table.{Table, Member, ListShape, MapShape, Kind, structure_of, union_of, list_of, map_of, kind_of, members_of, place_in, where_document, IsSparse, IsDocument}
use Rattle.smithy_declarations.specs.Value.{ScalarValue, Value, scalar_value, list, map, structure, union, null_element, document_value, Values, no_values, value, MapEntries, no_map_entries, map_entry, MemberValues, no_member_values, member_value, nesting, elements_nesting, entries_nesting, members_nesting}
use Rattle.smithy_declarations.specs.Documents.{document_nesting}
use Rattle.smithy_shapes.specs.Site.{View, member_view, element_view, value_view, nameless, member_of}
use Rattle.smithy_shapes.specs.ScalarTest.{scalars_pass, elements_pass, entries_pass, members_pass}
use Rattle.smithy_shapes.specs.Container.{Entry, element_of, container_of}
use Rattle.smithy_shapes.specs.Fits.{FitsOr, ElementsFit, EntriesFit, MembersFit, Fits}
use Rattle.smithy_shapes.proofs.ChildLemmas.{SayElements, list_said, SayEntries, map_said, Sets, SayMembers, structure_said, union_said}
use Rattle.smithy_shapes.proofs.NamedLemmas.{named_itself}
use Rattle.smithy_shapes.specs.Lemmas.Kinds.{document_place_is, list_kind, map_kind, structure_kind, union_kind}
use Rattle.smithy_shapes.proofs.ScalarLemmas.{scalar_kind}
use Rattle.smithy_shapes.proofs.SiteLemmas.{site_at, element_site_at, value_site_at, element_fit, entry_fit, member_fit, variant_fit}
use Rattle.smithy_wire.specs.Node.{Form, as_array, as_object, Node, leaf, container, Nodes, no_nodes, node, is_null}
use Rattle.smithy_wire.specs.Rules.{settled, Rules, at_depth, position_in, drops_null, is_absent}
use Rattle.smithy_wire.specs.Documents.{document_meaning}
use Rattle.smithy_wire.specs.Meaning.{leaf_meaning, is_in, entry_at, meaning, entries}
use Rattle.smithy_wire.specs.Written.{Leaves, written_document, scalar_node, child_place, name_at, written_node, element_nodes, entry_nodes, member_nodes, TellsApart, ReadsLeaves, ReadsDocuments}
use Rattle.smithy_wire.specs.Lemmas.Places.{form_is_container, elsewhere, document_kind}
use Rattle.smithy_wire.proofs.WrittenDocuments.{shallow_within, written_node_is, document_value_means}

-- ---- places and names

-- the member of a structure or a union at a position
pub record IsMember (k : Kind) (n : ℕ) (m : Member) : Type 0 where
  pub found : slice_get (members_of k) n ≡ Some m
  pub placed : place_in k (Some n) ≡ Some m.place

pub structure_member : (k : Kind) (members : List Member) (n : ℕ) (m : Member) → k ≡ structure_of members → slice_get members n ≡ Some m → IsMember k n m
structure_member k members n m kind found = record { found = rw kind found; placed = rw (kind, found) refl }

pub union_member : (k : Kind) (members : List Member) (n : ℕ) (m : Member) → k ≡ union_of members → slice_get members n ≡ Some m → IsMember k n m
union_member k members n m kind found = record { found = rw kind found; placed = rw (kind, found) refl }

-- its place, and its name
pub member_place : (k : Kind) (n : ℕ) (m : Member) (other : Place) → IsMember k n m → child_place k (Some n) other ≡ m.place
member_place k n m other is = rw is.placed refl

pub member_name : (name_of : Member → List ℕ) (k : Kind) (n : ℕ) (m : Member) → IsMember k n m → name_at name_of k n ≡ name_of m
member_name name_of k n m is = rw is.found refl

-- and its site
pub member_site : (t : Table) (p : Place) (view : View) (n : ℕ) (m : Member) → IsMember (kind_of t p) n m
    → member_of (site_at t p view) n ≡ site_at t m.place (member_view n m)
member_site t p view n m is = rw is.found refl

-- the member of a union whose value fits
pub variant_member : (t : Table) (k : Kind) (members : List Member) (n : ℕ) (v : Value) → k ≡ union_of members
    → (q : Place) × (place_in k (Some n) ≡ Some q) × Fits t q v → (m : Member) × IsMember k n m × Fits t m.place v
variant_member t k members n v kind fits =
    let m = variant_fit t members n v (subst (λ k. (q : Place) × (place_in k (Some n) ≡ Some q) × Fits t q v) kind fits) in
    (m.0, union_member k members n m.0 kind m.1, m.2)

-- a null that a member keeps is there
kept_stays : {L : Type 0} (r : Rules L) (k : Kind) (n : ℕ) (q : Place) → place_in k (Some n) ≡ Some q → r.keeps_null (Some q) ≡ true → drops_null r k (Some n) ≡ false
kept_stays r (structure_of members) n q placed keeps = rw (placed, keeps) refl
kept_stays r (union_of members) n q placed keeps = rw (placed, keeps) refl
kept_stays r _ n q placed keeps = refl

and_false : (a b : Bool) → b ≡ false → (a && b) ≡ false
and_false true b h = h
and_false false b h = refl

module _ {L : Type 0} (l : Leaves L) (r : Rules L) (reads : ReadsLeaves l r) (docs : l.holds.documents ≡ true → ReadsDocuments l r) (t : Table)
    (named : TellsApart r.name_of t) where
  abbrev node_at : Place → Value → Node L
  node_at p v = written_node l r.name_of t p v

  -- the node says the value as an element does
  abbrev Says : Bool → ℕ → Place → Value → Type 0
  Says nulls d p v = element_of nulls (is_null (node_at p v)) (meaning r t p d (node_at p v)) ≡ Some v

  -- where no null may stand, it means the value
  says_alone : (nil : Bool) (mean : Option Value) (v : Value) → element_of false nil mean ≡ Some v → mean ≡ Some v
  says_alone true mean v h = h
  says_alone false mean v h = h

  -- and where it can't be one, too
  says_plain : (nulls nil : Bool) (mean : Option Value) (v : Value) → (nulls ≡ true → ⊥) → mean ≡ Some v → element_of nulls nil mean ≡ Some v
  says_plain true nil mean v dense h = absurd (dense refl)
  says_plain false true mean v dense h = h
  says_plain false false mean v dense h = h

  -- a member whose value fits and is held is there: it is no null, or a document that is kept
  is_there : (k : Kind) (n : ℕ) (m : Member) (view : View) (key : Option (List ℕ)) (v : Value) → IsMember k n m → Fits t m.place v
      → scalars_pass l.holds (site_at t m.place view) v ≡ true → position_in r k key ≡ Some n → is_absent r k key (node_at m.place v) ≡ false
  is_there k n m view key (scalar_value x) is fits held at = let s = scalar_kind (kind_of t m.place) x fits in rw s.1 refl
  is_there k n m view key (list vs) is fits held at = refl
  is_there k n m view key (map es) is fits held at = refl
  is_there k n m view key (structure ms) is fits held at = refl
  is_there k n m view key (union n' v) is fits held at = refl
  is_there k n m view key null_element is fits held at = cc
  is_there k n m view key (document_value d) is fits held at =
      and_false (is_null (written_document l d)) (drops_null r k (position_in r k key))
      (ap (drops_null r k) at ∙ kept_stays r k n m.place is.placed ((docs held).null_is_kept m.place (document_place_is t m.place fits.0)))

  scalar_says : (p : Place) (nulls : Bool) (d : ℕ) (x : ScalarValue) → Fits t p (scalar_value x) → l.holds.scalar p.time x ≡ true → Says nulls d p (scalar_value x)
  scalar_says p nulls d x fits held =
      let s = scalar_kind (kind_of t p) x fits in
      let x' = l.leaf_of s.0 p.time x in
      ap (λ k. element_of nulls (is_null (scalar_node l k p.time x)) (meaning r t p d (scalar_node l k p.time x))) s.1
      ∙ (ap (λ k. where_document k (document_meaning r d (leaf x')) (leaf_meaning r k p.time x')) s.1 ∙ ap (settled r.limits null_element) (reads.scalar_means s.0 p.time x s.2 held))

  document_says : (p : Place) (nulls : Bool) (d : ℕ) (v : Document ℤ) → Fits t p (document_value v) → l.holds.documents ≡ true
      → (nulls ≡ true → IsDocument (kind_of t p) → ⊥) → d + document_nesting v ≤ r.max_depth → Says nulls d p (document_value v)
  document_says p nulls d v fits held dense deep =
      says_plain nulls (is_null (written_document l v)) (meaning r t p d (written_document l v)) (document_value v) (λ sparse. dense sparse fits.0)
      (ap (meaning r t p d) (written_node_is l v held) ∙ document_value_means l r reads (docs held) t p v d (document_kind (kind_of t p) fits.0) fits.1 deep)

  -- ---- containers

  container_means : (p : Place) (k : Kind) (f : Form) (d : ℕ) (xs : Nodes L) (v : Value) → kind_of t p ≡ k → is_in k f ≡ true → suc d ≤ r.max_depth
      → container_of k (entries r t p f (suc d) xs) ≡ Some v → meaning r t p d (container f xs) ≡ Some v
  container_means p k f d xs v kind within deep said =
      let es = entries r t p f (suc d) xs in
      let inner = if is_in (kind_of t p) f then container_of (kind_of t p) es else None in
      elsewhere (kind_of t p) (document_meaning r d (container f xs)) (at_depth r (suc d) inner) (form_is_container (kind_of t p) f (ap (λ k. is_in k f) kind ∙ within))
      ∙ (ap (λ b. if b then inner else None) (shallow_within r.limits r.max_depth (suc d) deep)
      ∙ (ap (λ k. if is_in k f then container_of k es else None) kind ∙ (ap (λ b. if b then container_of k es else None) within ∙ said)))

  -- the entry of a member, inside a structure or a union of this kind
  abbrev member_entry : Kind → ℕ → ℕ → Node L → Entry
  member_entry k d n x = entry_at r k as_object d (Some (l.key_of (name_at r.name_of k n))) x (λ q. meaning r t q d x)

  -- sets the member at its position
  member_sets : (p : Place) (n : ℕ) (m : Member) (d : ℕ) (v : Value) → IsMember (kind_of t p) n m → Fits t m.place v
      → scalars_pass l.holds (site_at t m.place (member_view n m)) v ≡ true → meaning r t m.place d (node_at m.place v) ≡ Some v
      → Sets n v (member_entry (kind_of t p) d n (node_at (child_place (kind_of t p) (Some n) p) v))
  member_sets p n m d v is fits held mean =
      let k = kind_of t p in
      let x = node_at m.place v in
      let name : name_at r.name_of k n ≡ r.name_of m = member_name r.name_of k n m is in
      let read : r.text_of (l.key_of (name_at r.name_of k n)) ≡ Some (r.name_of m) =
      ap (λ key. r.text_of (l.key_of key)) name ∙ reads.key_means (r.name_of m) (named.names_are_texts p n m is.found) in
      let itself : position_in r k (Some (r.name_of m)) ≡ Some n = named_itself r.name_of (members_of k) (named.names_differ p) n m is.found in
      let position : position_in r k (r.text_of (l.key_of (name_at r.name_of k n))) ≡ Some n = ap (position_in r k) read ∙ itself in
      subst (λ q. Sets n v (member_entry k d n (node_at q v))) (sym (member_place k n m p is))
      (record {
        key = r.name_of m;
        has_key = read;
        there = is_there k n m (member_view n m) (r.text_of (l.key_of (name_at r.name_of k n))) v is fits held position;
        position = position;
        meaning = ap (λ o. option_and_then (λ q. meaning r t q d x) (place_in k o)) position ∙ (ap (option_and_then (λ q. meaning r t q d x)) is.placed ∙ mean);
      })

  mutual
    value_says : (v : Value) (p : Place) (view : View) (nulls : Bool) (d : ℕ) → FitsOr t p nulls v → scalars_pass l.holds (site_at t p view) v ≡ true
        → (nulls ≡ true → IsDocument (kind_of t p) → ⊥) → d + nesting v ≤ r.max_depth → Says nulls d p v
    value_says (scalar_value x) p view nulls d fits held dense deep = scalar_says p nulls d x fits held
    value_says null_element p view nulls d fits held dense deep = rw fits refl
    value_says (document_value v) p view nulls d fits held dense deep = document_says p nulls d v fits held dense deep
    value_says (list vs) p view nulls d fits held dense deep =
        let c = list_kind (kind_of t p) fits.0 in
        let all = subst (λ site. elements_pass l.holds site vs ≡ true) (element_site_at t p view c.0 c.1) held in
        let said = elements_say vs p c.0 (nameless (element_view c.0)) (suc d) c.1 (subst (λ k. ElementsFit t k vs) c.1 fits.1) all (omega (arith, deep)) in
        container_means p (list_of c.0) as_array d (element_nodes l r.name_of t (child_place (kind_of t p) None p) vs) (list vs) c.1 refl (omega (arith, deep))
        (subst (λ q. container_of (list_of c.0) (entries r t p as_array (suc d) (element_nodes l r.name_of t q vs)) ≡ Some (list vs))
        (sym (ap (λ k. child_place k None p) c.1)) (list_said c.0 vs _ said))
    value_says (map es) p view nulls d fits held dense deep =
        let c = map_kind (kind_of t p) fits.0 in
        let all = subst (λ site. entries_pass l.holds site es ≡ true) (value_site_at t p view c.0 c.1) held in
        let said = entries_say es p c.0 (nameless (value_view c.0)) (suc d) c.1 (subst (λ k. EntriesFit t k es) c.1 fits.1) all (omega (arith, deep)) in
        container_means p (map_of c.0) as_object d (entry_nodes l r.name_of t (child_place (kind_of t p) None p) es) (map es) c.1 refl (omega (arith, deep))
        (subst (λ q. container_of (map_of c.0) (entries r t p as_object (suc d) (entry_nodes l r.name_of t q es)) ≡ Some (map es))
        (sym (ap (λ k. child_place k None p) c.1)) (map_said c.0 es _ fits.2 said))
    value_says (union n v) p view nulls d fits held dense deep =
        let s = union_kind (kind_of t p) fits.0 in
        let m = variant_member t (kind_of t p) s.0 n v s.1 fits.1 in
        let one = subst (λ site. scalars_pass l.holds site v ≡ true) (member_site t p view n m.0 m.1) held in
        let mean = says_alone (is_null (node_at m.0.place v)) (meaning r t m.0.place (suc d) (node_at m.0.place v)) v
        (value_says v m.0.place (member_view n m.0) false (suc d) m.2 one (λ sparse. cc) (omega (arith, deep))) in
        container_means p (union_of s.0) as_object d
        (node (Some (l.key_of (name_at r.name_of (kind_of t p) n))) (node_at (child_place (kind_of t p) (Some n) p) v) no_nodes) (union n v) s.1 refl (omega (arith, deep))
        (union_said s.0 n v _ (member_sets p n m.0 (suc d) v m.1 m.2 one mean))
    value_says (structure ms) p view nulls d fits held dense deep =
        let s = structure_kind (kind_of t p) fits.0 in
        let said = members_say ms p view s.0 (suc d) s.1 (subst (λ k. MembersFit t k ms) s.1 fits.1) held (omega (arith, deep)) in
        container_means p (structure_of s.0) as_object d (member_nodes l r.name_of t p ms) (structure ms) s.1 refl (omega (arith, deep))
        (structure_said s.0 ms _ fits.2 said)

    elements_say : (vs : Values) (p : Place) (c : ListShape) (view : View) (d : ℕ) → kind_of t p ≡ list_of c → ElementsFit t (list_of c) vs
        → elements_pass l.holds (site_at t c.place view) vs ≡ true → d + elements_nesting vs ≤ r.max_depth → SayElements c.is_sparse vs (entries r t p as_array d (element_nodes l r.name_of t c.place vs))
    elements_say no_values p c view d kind fits held deep = tt
    elements_say (value v vs) p c view d kind fits held deep =
        let x = node_at c.place v in
        let parts = and_parts (scalars_pass l.holds (site_at t c.place view) v) (elements_pass l.holds (site_at t c.place view) vs) held in (
          ap (λ k. element_of c.is_sparse (is_null x) (option_and_then (λ q. meaning r t q d x) (place_in k (position_in r k None)))) kind
              ∙ value_says v c.place view c.is_sparse d (element_fit t c v vs fits) parts.0
              (λ sparse. named.sparse_without_documents p c.place None (subst IsSparse (sym kind) sparse) (rw kind refl)) (omega (arith, deep)),
          elements_say vs p c view d kind fits.1 parts.1 (omega (arith, deep)),
        )

    entries_say : (es : MapEntries) (p : Place) (c : MapShape) (view : View) (d : ℕ) → kind_of t p ≡ map_of c → EntriesFit t (map_of c) es
        → entries_pass l.holds (site_at t c.place view) es ≡ true → d + entries_nesting es ≤ r.max_depth → SayEntries c.is_sparse es (entries r t p as_object d (entry_nodes l r.name_of t c.place es))
    entries_say no_map_entries p c view d kind fits held deep = tt
    entries_say (map_entry key v es) p c view d kind fits held deep =
        let x = node_at c.place v in
        let parts = and_parts (scalars_pass l.holds (site_at t c.place view) v) (entries_pass l.holds (site_at t c.place view) es) held in (
          reads.key_means key fits.0,
          ap (λ k. element_of c.is_sparse (is_null x) (option_and_then (λ q. meaning r t q d x) (place_in k (position_in r k (r.text_of (l.key_of key)))))) kind
              ∙ value_says v c.place view c.is_sparse d (entry_fit t c key v es fits) parts.0
              (λ sparse. named.sparse_without_documents p c.place None (subst IsSparse (sym kind) sparse) (rw kind refl)) (omega (arith, deep)),
          entries_say es p c view d kind fits.2 parts.1 (omega (arith, deep)),
        )

    members_say : (ms : MemberValues) (p : Place) (view : View) (members : List Member) (d : ℕ) → kind_of t p ≡ structure_of members
        → MembersFit t (structure_of members) ms → members_pass l.holds (site_at t p view) ms ≡ true → d + members_nesting ms ≤ r.max_depth → SayMembers ms (entries r t p as_object d (member_nodes l r.name_of t p ms))
    members_say no_member_values p view members d kind fits held deep = tt
    members_say (member_value n v ms) p view members d kind fits held deep =
        let m = member_fit t members n v ms fits in
        let is = structure_member (kind_of t p) members n m.0 kind m.1 in
        let parts = and_parts (scalars_pass l.holds (member_of (site_at t p view) n) v) (members_pass l.holds (site_at t p view) ms) held in
        let one = subst (λ site. scalars_pass l.holds site v ≡ true) (member_site t p view n m.0 is) parts.0 in
        let mean = says_alone (is_null (node_at m.0.place v)) (meaning r t m.0.place d (node_at m.0.place v)) v
        (value_says v m.0.place (member_view n m.0) false d m.2 one (λ sparse. cc) (omega (arith, deep))) in
        (member_sets p n m.0 d v is m.2 one mean, members_say ms p view members d kind fits.1 parts.1 (omega (arith, deep)))

  -- at its place, so many containers deep
  pub node_means : (p : Place) (view : View) (d : ℕ) (v : Value) → Fits t p v → scalars_pass l.holds (site_at t p view) v ≡ true → d + nesting v ≤ r.max_depth
      → meaning r t p d (written_node l r.name_of t p v) ≡ Some v
  node_means p view d v fits held deep = says_alone (is_null (node_at p v)) (meaning r t p d (node_at p v)) v (value_says v p view false d fits held (λ sparse. cc) deep)
