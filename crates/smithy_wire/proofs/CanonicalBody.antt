-- The body that a wire defines for a value at a site is the one that is written for the value's node.
use Rattle.std.specs.Prelude.{◌≡◌, ℕ, ℤ, List, [], ◌++◌, Bool, true, false, Some, None, refl}
use Rattle.std.proofs.Common.{sym, ap, ◌∙◌, subst, append_assoc}
use Rattle.smithy_types.specs.Document.{Document}
use Rattle.smithy_declarations.specs.declared.place.Place.{Place}
use Rattle.smithy_declarations.specs.declared.shape_type.Scalar.{Scalar}
use Rattle.smithy_declarations.specs.Table.{Table, Member, ListShape, MapShape, structure_of, list_of, map_of, kind_of}
use Rattle.smithy_shapes.specs.Site.{Site, View, member_view, element_view, value_view, nameless, element_of, value_of, member_of}
use Rattle.smithy_declarations.specs.Value.{ScalarValue, Value, scalar_value, list, map, structure, union, null_element, document_value, Values, no_values, value, MapEntries, no_map_entries, map_entry, MemberValues, no_member_values, member_value}
use Rattle.smithy_shapes.specs.Fits.{FitsOr, ElementsFit, EntriesFit, MembersFit}
use Rattle.smithy_shapes.specs.Lemmas.Kinds.{list_kind, map_kind, structure_kind, union_kind}
use Rattle.smithy_shapes.proofs.ScalarLemmas.{scalar_kind}
use Rattle.smithy_shapes.proofs.SiteLemmas.{site_at, element_site_at, value_site_at, element_fit, entry_fit, member_fit}
use Rattle.smithy_wire.specs.Node.{as_array, as_object}
use Rattle.smithy_wire.specs.Written.{Leaves, written_document, scalar_node, child_place, name_at, element_nodes, entry_nodes, member_nodes}
use Rattle.smithy_wire.specs.Writes.{Writes, bytes_of, nodes_bytes, body_of}
use Rattle.smithy_wire.proofs.WrittenMeaning.{IsMember, structure_member, member_place, member_name, member_site, variant_member}

-- what a wire defines: the bytes of a value at a site, and of its children from the first or another on
pub record Canonical : Type 0 where
  pub body : Site → Value → List ℕ
  pub elements : Bool → Site → Values → List ℕ
  pub entries : Bool → Site → MapEntries → List ℕ
  pub members : Bool → Site → MemberValues → List ℕ
  -- before the value of a member, the first or another
  pub key : Bool → View → List ℕ

-- which are those that it writes
pub record IsWritten {L : Type 0} (w : Writes L) (l : Leaves L) (name_of : Member → List ℕ) (c : Canonical) : Type 0 where
  pub scalar_is : (s : Scalar) (site : Site) (x : ScalarValue) → c.body site (scalar_value x) ≡ w.leaf_bytes (l.leaf_of s site.place.time x)
  pub document_is : (site : Site) (v : Document ℤ) → c.body site (document_value v) ≡ bytes_of w (written_document l v)
  pub null_is : (site : Site) → c.body site null_element ≡ w.null_bytes
  pub list_is : (site : Site) (vs : Values) → c.body site (list vs) ≡ w.opening as_array ++ (c.elements true (element_of site) vs ++ w.ending as_array)
  pub no_element_is : (is_first : Bool) (site : Site) → c.elements is_first site no_values ≡ []
  pub element_is : (is_first : Bool) (site : Site) (v : Value) (vs : Values)
      → c.elements is_first site (value v vs) ≡ w.entry_bytes as_array is_first None ++ (c.body site v ++ c.elements false site vs)
  pub map_is : (site : Site) (es : MapEntries) → c.body site (map es) ≡ w.opening as_object ++ (c.entries true (value_of site) es ++ w.ending as_object)
  pub no_map_entry_is : (is_first : Bool) (site : Site) → c.entries is_first site no_map_entries ≡ []
  pub map_entry_is : (is_first : Bool) (site : Site) (key : List ℕ) (v : Value) (es : MapEntries)
      → c.entries is_first site (map_entry key v es) ≡ w.entry_bytes as_object is_first (Some (l.key_of key)) ++ (c.body site v ++ c.entries false site es)
  pub union_is : (site : Site) (n : ℕ) (v : Value)
      → c.body site (union n v) ≡ w.opening as_object ++ (c.key true (member_of site n).view ++ (c.body (member_of site n) v ++ w.ending as_object))
  pub structure_is : (site : Site) (ms : MemberValues) → c.body site (structure ms) ≡ w.opening as_object ++ (c.members true site ms ++ w.ending as_object)
  pub no_member_is : (is_first : Bool) (site : Site) → c.members is_first site no_member_values ≡ []
  pub member_is : (is_first : Bool) (site : Site) (n : ℕ) (v : Value) (ms : MemberValues)
      → c.members is_first site (member_value n v ms) ≡ c.key is_first (member_of site n).view ++ (c.body (member_of site n) v ++ c.members false site ms)
  pub key_is : (is_first : Bool) (n : ℕ) (m : Member) → c.key is_first (member_view n m) ≡ w.entry_bytes as_object is_first (Some (l.key_of (name_of m)))

-- an entry, those behind it, and the end of their container
entry_is : (entries key key' child child' more end rest : List ℕ) → entries ≡ key ++ (child ++ more) → key ≡ key' → child ≡ child' → more ++ end ≡ rest
    → entries ++ end ≡ key' ++ (child' ++ rest)
entry_is entries key key' child child' more end rest is same_key same_child same_rest =
    rw (is, same_key, same_child, ← same_rest) (simp append_assoc)

module _ {L : Type 0} (w : Writes L) (l : Leaves L) (name_of : Member → List ℕ) (c : Canonical) (law : IsWritten w l name_of c) (t : Table) where
  abbrev Same : Site → Place → Value → Type 0
  Same site p v = c.body site v ≡ body_of w l name_of t p v

  -- what stands before a member, and its value, where the member is known
  abbrev name_bytes : Bool → Place → ℕ → List ℕ
  name_bytes is_first p n = w.entry_bytes as_object is_first (Some (l.key_of (name_at name_of (kind_of t p) n)))

  name_is : (is_first : Bool) (p : Place) (view : View) (n : ℕ) (m : Member) → IsMember (kind_of t p) n m
      → c.key is_first (member_of (site_at t p view) n).view ≡ name_bytes is_first p n
  name_is is_first p view n m is =
      ap (λ (s : Site). c.key is_first s.view) (member_site t p view n m is) ∙ law.key_is is_first n m
      ∙ sym (ap (λ key. w.entry_bytes as_object is_first (Some (l.key_of key))) (member_name name_of (kind_of t p) n m is))

  child_is : (p : Place) (view : View) (n : ℕ) (m : Member) (v : Value) → IsMember (kind_of t p) n m → Same (site_at t m.place (member_view n m)) m.place v
      → c.body (member_of (site_at t p view) n) v ≡ body_of w l name_of t (child_place (kind_of t p) (Some n) p) v
  child_is p view n m v is same =
      ap (λ s. c.body s v) (member_site t p view n m is) ∙ same ∙ sym (ap (λ q. body_of w l name_of t q v) (member_place (kind_of t p) n m p is))

  mutual
    pub same_body : (v : Value) (p : Place) (view : View) (nulls : Bool) → FitsOr t p nulls v → Same (site_at t p view) p v
    same_body (scalar_value x) p view nulls fits =
        let s = scalar_kind (kind_of t p) x fits in
        law.scalar_is s.0 (site_at t p view) x ∙ sym (ap (λ k. bytes_of w (scalar_node l k p.time x)) s.1)
    same_body (document_value v) p view nulls fits = law.document_is (site_at t p view) v
    same_body null_element p view nulls fits = law.null_is (site_at t p view)
    same_body (list vs) p view nulls fits =
        let k = list_kind (kind_of t p) fits.0 in
        law.list_is (site_at t p view) vs
        ∙ (ap (λ site. w.opening as_array ++ (c.elements true site vs ++ w.ending as_array)) (element_site_at t p view k.0 k.1)
        ∙ (ap (λ bytes. w.opening as_array ++ bytes) (elements_same vs true k.0 (nameless (element_view k.0)) (subst (λ k. ElementsFit t k vs) k.1 fits.1))
        ∙ sym (ap (λ k. w.opening as_array ++ nodes_bytes w as_array true (element_nodes l name_of t (child_place k None p) vs)) k.1)))
    same_body (map es) p view nulls fits =
        let k = map_kind (kind_of t p) fits.0 in
        law.map_is (site_at t p view) es
        ∙ (ap (λ site. w.opening as_object ++ (c.entries true site es ++ w.ending as_object)) (value_site_at t p view k.0 k.1)
        ∙ (ap (λ bytes. w.opening as_object ++ bytes) (entries_same es true k.0 (nameless (value_view k.0)) (subst (λ k. EntriesFit t k es) k.1 fits.1))
        ∙ sym (ap (λ k. w.opening as_object ++ nodes_bytes w as_object true (entry_nodes l name_of t (child_place k None p) es)) k.1)))
    same_body (union n v) p view nulls fits =
        let k = union_kind (kind_of t p) fits.0 in
        let m = variant_member t (kind_of t p) k.0 n v k.1 fits.1 in
        law.union_is (site_at t p view) n v
        ∙ (ap (λ key. w.opening as_object ++ (key ++ (c.body (member_of (site_at t p view) n) v ++ w.ending as_object))) (name_is true p view n m.0 m.1)
        ∙ ap (λ bytes. w.opening as_object ++ (name_bytes true p n ++ (bytes ++ w.ending as_object)))
        (child_is p view n m.0 v m.1 (same_body v m.0.place (member_view n m.0) false m.2)))
    same_body (structure ms) p view nulls fits =
        let k = structure_kind (kind_of t p) fits.0 in
        law.structure_is (site_at t p view) ms
        ∙ ap (λ bytes. w.opening as_object ++ bytes) (members_same ms true p view k.0 k.1 (subst (λ k. MembersFit t k ms) k.1 fits.1))

    elements_same : (vs : Values) (is_first : Bool) (k : ListShape) (view : View) → ElementsFit t (list_of k) vs
        → c.elements is_first (site_at t k.place view) vs ++ w.ending as_array ≡ nodes_bytes w as_array is_first (element_nodes l name_of t k.place vs)
    elements_same no_values is_first k view fits = ap (λ none. none ++ w.ending as_array) (law.no_element_is is_first (site_at t k.place view))
    elements_same (value v vs) is_first k view fits =
        entry_is (c.elements is_first (site_at t k.place view) (value v vs)) (w.entry_bytes as_array is_first None) _ _ _ _ (w.ending as_array) _
        (law.element_is is_first (site_at t k.place view) v vs) refl
        (same_body v k.place view k.is_sparse (element_fit t k v vs fits)) (elements_same vs false k view fits.1)

    entries_same : (es : MapEntries) (is_first : Bool) (k : MapShape) (view : View) → EntriesFit t (map_of k) es
        → c.entries is_first (site_at t k.place view) es ++ w.ending as_object ≡ nodes_bytes w as_object is_first (entry_nodes l name_of t k.place es)
    entries_same no_map_entries is_first k view fits = ap (λ none. none ++ w.ending as_object) (law.no_map_entry_is is_first (site_at t k.place view))
    entries_same (map_entry key v es) is_first k view fits =
        entry_is (c.entries is_first (site_at t k.place view) (map_entry key v es)) (w.entry_bytes as_object is_first (Some (l.key_of key))) _ _ _ _ (w.ending as_object) _
        (law.map_entry_is is_first (site_at t k.place view) key v es) refl
        (same_body v k.place view k.is_sparse (entry_fit t k key v es fits)) (entries_same es false k view fits.2)

    members_same : (ms : MemberValues) (is_first : Bool) (p : Place) (view : View) (members : List Member) → kind_of t p ≡ structure_of members
        → MembersFit t (structure_of members) ms
        → c.members is_first (site_at t p view) ms ++ w.ending as_object ≡ nodes_bytes w as_object is_first (member_nodes l name_of t p ms)
    members_same no_member_values is_first p view members kind fits = ap (λ none. none ++ w.ending as_object) (law.no_member_is is_first (site_at t p view))
    members_same (member_value n v ms) is_first p view members kind fits =
        let m = member_fit t members n v ms fits in
        let is = structure_member (kind_of t p) members n m.0 kind m.1 in
        entry_is (c.members is_first (site_at t p view) (member_value n v ms)) _ _ _ _ _ (w.ending as_object) _
        (law.member_is is_first (site_at t p view) n v ms)
        (name_is is_first p view n m.0 is) (child_is p view n m.0 v is (same_body v m.0.place (member_view n m.0) false m.2))
        (members_same ms false p view members kind fits.1)
