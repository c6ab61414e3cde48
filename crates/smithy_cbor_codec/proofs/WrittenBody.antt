-- The canonical encoding of a value lies as the value's node, with or without the lengths of lists and maps.
use Rattle.std.proofs.Common.{◌≡◌, ◌≤◌, ◌<◌, ◌+◌, ◌^◌, ℕ, suc, length, List, [], ◌∷◌, ◌++◌, Bool, true, false, Some, None, sym, ap, subst, arith, append_assoc}
use Rattle.smithy_declarations.specs.declared.place.Place.{Place}
use Rattle.smithy_declarations.specs.Table.{Table, Member, ListShape, MapShape, structure_of, list_of, map_of, kind_of}
use Rattle.smithy_shapes.specs.Site.{Site, View, member_view, element_view, value_view, nameless}
use Rattle.smithy_declarations.specs.Value.{Value, scalar_value, list, map, structure, union, null_element, document_value, Values, no_values, value, MapEntries, no_map_entries, map_entry, MemberValues, no_member_values, member_value}
use Rattle.smithy_shapes.specs.Fits.{FitsOr, ElementsFit, EntriesFit, MembersFit}
use Rattle.smithy_shapes.specs.Lemmas.Kinds.{list_kind, map_kind, structure_kind, union_kind}
use Rattle.smithy_shapes.proofs.ScalarLemmas.{scalar_kind}
use Rattle.smithy_shapes.proofs.SiteLemmas.{site_at, element_site_at, value_site_at, element_fit, entry_fit, member_fit}
use Rattle.smithy_schema.specs.Writing.{count_of, entry_count}
use Rattle.cbor_item.specs.Item.{Item}
use Rattle.cbor_item.specs.WellFormed.{break}
use Rattle.smithy_wire.specs.Node.{as_array, as_object, Node, container, Nodes, no_nodes, node}
use Rattle.smithy_wire.specs.Frames.{NodesLie}
use Rattle.smithy_wire.specs.Written.{scalar_node, child_place, name_at, written_node, element_nodes, entry_nodes, member_nodes}
use Rattle.smithy_wire.specs.Writes.{IsWritable, AreWritable, Stand}
use Rattle.smithy_wire.proofs.WrittenMeaning.{IsMember, structure_member, member_place, member_name, member_site, variant_member}
use Rattle.smithy_wire.proofs.WrittenPlaces.{parts}
use Rattle.smithy_cbor.specs.Written.{text_bytes}
use Rattle.smithy_cbor_body.specs.Canonical.{key_bytes, canonical_cbor, element_bytes, entry_bytes, member_bytes}
use Rattle.smithy_cbor_body.specs.Lengths.{told_length, head_of, ending_of, container_bytes}
use Rattle.smithy_cbor_values.specs.Standing.{mark_with, Follows, cbor_frames}
use Rattle.smithy_cbor_body.proofs.WrittenLeaves.{leaf_of, text_item, cbor_leaves, scalar_is_written}
use Rattle.smithy_cbor_body.proofs.WrittenPlaces.{IsEncoded, cbor_writes, LiesWritten, left_mark, can_say, null_lies, leaf_lies, container_lies, element_lies, entry_lies, ends_lie}

-- the same bytes, in another grouping
group_entry : (key x more end : List ℕ) → (key ++ (x ++ more)) ++ end ≡ key ++ (x ++ (more ++ end))
group_entry key x more end = simp append_assoc

abbrev name_of : Member → List ℕ
name_of m = m.name

module _ (told : Bool) (t : Table) (i : List ℕ) (small : length i < 2 ^ 64) where
  abbrev node_at : Place → Value → Node Item
  node_at p v = written_node cbor_leaves name_of t p v

  -- a member with its name, and what lies behind it
  member_lies : (p : Place) (n : ℕ) (m : Member) (v : Value) (xs : Nodes Item) (depth b a c e : ℕ) → IsMember (kind_of t p) n m
      → IsEncoded (text_item (name_at name_of (kind_of t p) n)) → Stand (text_bytes m.name) i b a → LiesWritten i depth (node_at m.place v) a c
      → NodesLie (cbor_frames true) as_object i depth xs c (mark_with None) e
      → NodesLie (cbor_frames true) as_object i depth (node (Some (text_item (name_at name_of (kind_of t p) n))) (node_at (child_place (kind_of t p) (Some n) p) v) xs) b (mark_with None) e
  member_lies p n m v xs depth b a c e is encoded stand one more =
      let name = member_name name_of (kind_of t p) n m is in
      subst (λ s. NodesLie (cbor_frames true) as_object i depth (node (Some (text_item s)) (node_at (child_place (kind_of t p) (Some n) p) v) xs) b (mark_with None) e) (sym name)
      (subst (λ q. NodesLie (cbor_frames true) as_object i depth (node (Some (text_item m.name)) (node_at q v) xs) b (mark_with None) e) (sym (member_place (kind_of t p) n m p is))
      (entry_lies false 0 (text_item m.name) (node_at m.place v) xs depth i b a c e (subst (λ s. IsEncoded (text_item s)) name encoded) small stand one more))

  mutual
    pub value_lies : (v : Value) (p : Place) (view : View) (nulls : Bool) (depth a e : ℕ) → FitsOr t p nulls v → IsWritable cbor_writes (node_at p v)
        → Stand (canonical_cbor told (site_at t p view) v) i a e → Follows depth i e → LiesWritten i depth (node_at p v) a e
    value_lies (scalar_value x) p view nulls depth a e fits can stand follows =
        let s = scalar_kind (kind_of t p) x fits in
        let is = ap (λ k. scalar_node cbor_leaves k p.time x) s.1 in
        subst (λ y. LiesWritten i depth y a e) (sym is)
        (leaf_lies (leaf_of s.0 p.time x) depth i a e (subst (IsWritable cbor_writes) is can) small
        (subst (λ bytes. Stand bytes i a e) (scalar_is_written s.0 p.time x) stand) follows)
    value_lies (document_value d) p view nulls depth a e fits can stand follows = absurd can
    value_lies null_element p view nulls depth a e fits can stand follows = null_lies depth i a e stand follows
    value_lies (list vs) p view nulls depth a e fits can stand follows =
        let k = list_kind (kind_of t p) fits.0 in
        let place = ap (λ k. child_place k None p) k.1 in
        let length = told_length told (count_of vs) in
        let inside = element_bytes told (site_at t k.0.place (nameless (element_view k.0))) vs in
        let here = subst (λ (s : Site). Stand (container_bytes 4 length (element_bytes told s vs)) i a e) (element_site_at t p view k.0 k.1) stand in
        let part = parts (head_of 4 length) (inside ++ ending_of length) i a e here in
        let nodes = elements_lie vs k.0 (nameless (element_view k.0)) (count_of vs) depth part.middle e (subst (λ k. ElementsFit t k vs) k.1 fits.1)
        (subst (λ q. AreWritable cbor_writes as_array (element_nodes cbor_leaves name_of t q vs)) place can) part.back in
        subst (λ q. LiesWritten i depth (container as_array (element_nodes cbor_leaves name_of t q vs)) a e) (sym place)
        (container_lies as_array length (element_nodes cbor_leaves name_of t k.0.place vs) depth i a part.middle e
        (can_say told (count_of vs) (omega (arith, nodes.1, stand.2, small))) part.front nodes.0 (omega (arith, part.back.1)) follows)
    value_lies (map es) p view nulls depth a e fits can stand follows =
        let k = map_kind (kind_of t p) fits.0 in
        let place = ap (λ k. child_place k None p) k.1 in
        let length = told_length told (entry_count es) in
        let inside = entry_bytes told (site_at t k.0.place (nameless (value_view k.0))) es in
        let here = subst (λ (s : Site). Stand (container_bytes 5 length (entry_bytes told s es)) i a e) (value_site_at t p view k.0 k.1) stand in
        let part = parts (head_of 5 length) (inside ++ ending_of length) i a e here in
        let nodes = entries_lie es k.0 (nameless (value_view k.0)) (entry_count es) depth part.middle e (subst (λ k. EntriesFit t k es) k.1 fits.1)
        (subst (λ q. AreWritable cbor_writes as_object (entry_nodes cbor_leaves name_of t q es)) place can) part.back in
        subst (λ q. LiesWritten i depth (container as_object (entry_nodes cbor_leaves name_of t q es)) a e) (sym place)
        (container_lies as_object length (entry_nodes cbor_leaves name_of t k.0.place es) depth i a part.middle e
        (can_say told (entry_count es) (omega (arith, nodes.1, stand.2, small))) part.front nodes.0 (omega (arith, part.back.1)) follows)
    value_lies (union n v) p view nulls depth a e fits can stand follows =
        let k = union_kind (kind_of t p) fits.0 in
        let m = variant_member t (kind_of t p) k.0 n v k.1 fits.1 in
        let here = subst (λ (s : Site). Stand (container_bytes 5 None (key_bytes s.view ++ canonical_cbor told s v)) i a e) (member_site t p view n m.0 m.1) stand in
        let key = text_bytes m.0.name in
        let inside = canonical_cbor told (site_at t m.0.place (member_view n m.0)) v in
        let part = parts (head_of 5 None) ((key ++ inside) ++ break ∷ []) i a e here in
        let entry = parts key (inside ++ break ∷ []) i part.middle e (subst (λ bytes. Stand bytes i part.middle e) (append_assoc key inside (break ∷ [])) part.back) in
        let child = parts inside (break ∷ []) i entry.middle e entry.back in
        let one = value_lies v m.0.place (member_view n m.0) false (suc depth) entry.middle child.middle m.2
        (subst (λ q. IsWritable cbor_writes (node_at q v)) (member_place (kind_of t p) n m.0 p m.1) can.1) child.front tt in
        container_lies as_object None _ depth i a part.middle e tt part.front
        (member_lies p n m.0 v no_nodes (suc depth) part.middle entry.middle child.middle e m.1 can.0 entry.front one (ends_lie false 0 i child.middle e child.back))
        (omega (arith, part.back.1)) follows
    value_lies (structure ms) p view nulls depth a e fits can stand follows =
        let k = structure_kind (kind_of t p) fits.0 in
        let part = parts (head_of 5 None) (member_bytes told (site_at t p view) ms ++ break ∷ []) i a e stand in
        container_lies as_object None (member_nodes cbor_leaves name_of t p ms) depth i a part.middle e tt part.front
        (members_lie ms p view k.0 depth part.middle e k.1 (subst (λ k. MembersFit t k ms) k.1 fits.1) can part.back)
        (omega (arith, part.back.1)) follows

    -- elements lie, and take a byte at least each
    elements_lie : (vs : Values) (k : ListShape) (view : View) (total depth b e : ℕ) → ElementsFit t (list_of k) vs
        → AreWritable cbor_writes as_array (element_nodes cbor_leaves name_of t k.place vs)
        → Stand (element_bytes told (site_at t k.place view) vs ++ ending_of (told_length told total)) i b e
        → NodesLie (cbor_frames true) as_array i (suc depth) (element_nodes cbor_leaves name_of t k.place vs) b (left_mark told (count_of vs)) e × (b + count_of vs ≤ e)
    elements_lie no_values k view total depth b e fits can stand = (ends_lie told total i b e stand, omega (arith, stand.1))
    elements_lie (value v vs) k view total depth b e fits can stand =
        let one_bytes = canonical_cbor told (site_at t k.place view) v in
        let more_bytes = element_bytes told (site_at t k.place view) vs in
        let end = ending_of (told_length told total) in
        let part = parts one_bytes (more_bytes ++ end) i b e (subst (λ bytes. Stand bytes i b e) (append_assoc one_bytes more_bytes end) stand) in
        let one = value_lies v k.place view k.is_sparse (suc depth) b part.middle (element_fit t k v vs fits) can.1 part.front tt in
        let more = elements_lie vs k view total depth part.middle e fits.1 can.2 part.back in (
          element_lies told (count_of vs) (node_at k.place v) (element_nodes cbor_leaves name_of t k.place vs) (suc depth) i b part.middle e part.front.2 one more.0,
          omega (arith, one.ahead, more.1),
        )

    -- entries lie, and take a byte at least each
    entries_lie : (es : MapEntries) (k : MapShape) (view : View) (total depth b e : ℕ) → EntriesFit t (map_of k) es
        → AreWritable cbor_writes as_object (entry_nodes cbor_leaves name_of t k.place es)
        → Stand (entry_bytes told (site_at t k.place view) es ++ ending_of (told_length told total)) i b e
        → NodesLie (cbor_frames true) as_object i (suc depth) (entry_nodes cbor_leaves name_of t k.place es) b (left_mark told (entry_count es)) e × (b + entry_count es ≤ e)
    entries_lie no_map_entries k view total depth b e fits can stand = (ends_lie told total i b e stand, omega (arith, stand.1))
    entries_lie (map_entry key v es) k view total depth b e fits can stand =
        let one_bytes = canonical_cbor told (site_at t k.place view) v in
        let more_bytes = entry_bytes told (site_at t k.place view) es in
        let end = ending_of (told_length told total) in
        let entry = parts (text_bytes key) (one_bytes ++ (more_bytes ++ end)) i b e (subst (λ bytes. Stand bytes i b e) (group_entry (text_bytes key) one_bytes more_bytes end) stand) in
        let child = parts one_bytes (more_bytes ++ end) i entry.middle e entry.back in
        let one = value_lies v k.place view k.is_sparse (suc depth) entry.middle child.middle (entry_fit t k key v es fits) can.1 child.front tt in
        let more = entries_lie es k view total depth child.middle e fits.2 can.2 child.back in (
          entry_lies told (entry_count es) (text_item key) (node_at k.place v) (entry_nodes cbor_leaves name_of t k.place es) (suc depth) i b entry.middle child.middle e can.0 small entry.front one more.0,
          omega (arith, entry.front.1, one.ahead, more.1),
        )

    members_lie : (ms : MemberValues) (p : Place) (view : View) (members : List Member) (depth b e : ℕ) → kind_of t p ≡ structure_of members
        → MembersFit t (structure_of members) ms → AreWritable cbor_writes as_object (member_nodes cbor_leaves name_of t p ms)
        → Stand (member_bytes told (site_at t p view) ms ++ break ∷ []) i b e
        → NodesLie (cbor_frames true) as_object i (suc depth) (member_nodes cbor_leaves name_of t p ms) b (mark_with None) e
    members_lie no_member_values p view members depth b e kind fits can stand = ends_lie false 0 i b e stand
    members_lie (member_value n v ms) p view members depth b e kind fits can stand =
        let m = member_fit t members n v ms fits in
        let is = structure_member (kind_of t p) members n m.0 kind m.1 in
        let key = text_bytes m.0.name in
        let one_bytes = canonical_cbor told (site_at t m.0.place (member_view n m.0)) v in
        let more_bytes = member_bytes told (site_at t p view) ms in
        let here = subst (λ (s : Site). Stand ((key_bytes s.view ++ (canonical_cbor told s v ++ more_bytes)) ++ break ∷ []) i b e) (member_site t p view n m.0 is) stand in
        let entry = parts key (one_bytes ++ (more_bytes ++ break ∷ [])) i b e (subst (λ bytes. Stand bytes i b e) (group_entry key one_bytes more_bytes (break ∷ [])) here) in
        let child = parts one_bytes (more_bytes ++ break ∷ []) i entry.middle e entry.back in
        let one = value_lies v m.0.place (member_view n m.0) false (suc depth) entry.middle child.middle m.2
        (subst (λ q. IsWritable cbor_writes (node_at q v)) (member_place (kind_of t p) n m.0 p is) can.1) child.front tt in
        member_lies p n m.0 v (member_nodes cbor_leaves name_of t p ms) (suc depth) b entry.middle child.middle e is can.0 entry.front one
        (members_lie ms p view members depth child.middle e kind fits.1 can.2 child.back)
