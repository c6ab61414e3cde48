-- An item lies where its node lies, and every node that lies is one of an item.
use Rattle.std.specs.Prelude.{◌≡◌, ◌==◌, ◌<◌, ℕ, suc, length, List, Option, Some, None, Bool, true, false, ◌&&◌, cond, refl}
use Rattle.std.specs.Option.{option_map_or}
use Rattle.std.proofs.Common.{sym, ◌∙◌, ap, arith, subst}
use Rattle.std.proofs.lemmas.Bool.{and_parts}
use Rattle.smithy_schema.specs.Reading.{Mark}
use Rattle.cbor_item.specs.Item.{Item, unsigned, negative, byte_string, text_string, array, map, tag, simple, float, Items, no_items, item, Pairs, no_pairs, pair}
use Rattle.cbor_item.specs.WellFormed.{IsItemAt}
use Rattle.smithy_cbor.specs.Scalar.{null_value}
use Rattle.smithy_cbor_values.specs.Meaning.{node_of, item_nodes, pair_nodes}
use Rattle.smithy_cbor_values.specs.Standing.{mark_with, Follows, end_depth, cbor_frames}
use Rattle.smithy_cbor_values.specs.Private.ArrayPlaces.{ItemsLie, items_array, array_items}
use Rattle.smithy_cbor_values.specs.Private.MapPlaces.{PairsLie, pairs_map, map_pairs}
use Rattle.smithy_cbor_values.specs.Private.FirstBytes.{null_begins_item, null_there, null_ends}
use Rattle.smithy_cbor_values.specs.Private.Wire.{cbor_is_wire, inside_follows}
use Rattle.smithy_wire.specs.Node.{Form, as_array, as_object, Node, null_node, leaf, container, missing, Nodes, no_nodes, node, all_pass, nodes_pass}
use Rattle.smithy_wire.specs.Frames.{Lies, NodesLie}
use Rattle.smithy_wire.specs.Wire.{no_value}
use Rattle.smithy_wire.specs.Lemmas.Nodes.{sort_of, lies_ahead}

simple_lies : (strict : Bool) (n : ℕ) (b : Bool) (i : List ℕ) (d a e : ℕ) → (n == null_value) ≡ b → IsItemAt (simple n) i a e → Follows (end_depth strict d) i e
    → Lies (cbor_frames strict) i d (cond b null_node (leaf (simple n))) a e
simple_lies strict n true i d a e is at follows = (null_begins_item (simple n) i a e at ∙ is, (null_ends (simple n) i a e at is).1, follows)
simple_lies strict n false i d a e is at follows = (ap (λ z. cond z null_node (leaf (simple n))) is, at, follows)

mutual
  pub item_lies : (strict : Bool) (d : ℕ) (x : Item) (i : List ℕ) (a e : ℕ) → IsItemAt x i a e → Follows (end_depth strict d) i e → Lies (cbor_frames strict) i d (node_of x) a e
  item_lies strict d (unsigned n) i a e at follows = (refl, at, follows)
  item_lies strict d (negative n) i a e at follows = (refl, at, follows)
  item_lies strict d (byte_string extent chunks) i a e at follows = (refl, at, follows)
  item_lies strict d (text_string extent chunks) i a e at follows = (refl, at, follows)
  item_lies strict d (array extent xs) i a e at follows =
      let (due, b, opens, lie) = array_items extent xs i a e at in
      (b, mark_with due, (due, refl, opens), items_lie strict d xs (mark_with due) i b e lie, follows)
  item_lies strict d (map extent ps) i a e at follows =
      let (due, b, opens, lie) = map_pairs extent ps i a e at in
      (b, mark_with due, (due, refl, opens), pairs_lie strict d ps (mark_with due) i b e lie, follows)
  item_lies strict d (tag n x) i a e at follows = (refl, at, follows)
  item_lies strict d (simple n) i a e at follows = simple_lies strict n (n == null_value) i d a e refl at follows
  item_lies strict d (float digits) i a e at follows = (refl, at, follows)

  items_lie : (strict : Bool) (d : ℕ) (xs : Items) (m : Mark) (i : List ℕ) (b e : ℕ) → ItemsLie xs m i b e → NodesLie (cbor_frames strict) as_array i (suc d) (item_nodes xs) b m e
  items_lie strict d no_items m i b e lie = lie
  items_lie strict d (item x xs) m i b e (n, f, entry, at, lie) = (b, n, f, (refl, refl, entry), item_lies strict (suc d) x i b f at (inside_follows strict d i f), items_lie strict d xs n i f e lie)

  pairs_lie : (strict : Bool) (d : ℕ) (ps : Pairs) (m : Mark) (i : List ℕ) (b e : ℕ) → PairsLie ps m i b e → NodesLie (cbor_frames strict) as_object i (suc d) (pair_nodes ps) b m e
  pairs_lie strict d no_pairs m i b e lie = lie
  pairs_lie strict d (pair k x ps) m i b e (n, c, f, entry, key, at, lie) = (c, n, f, (entry, (k, key, refl)), item_lies strict (suc d) x i c f at (inside_follows strict d i f), pairs_lie strict d ps n i f e lie)

-- where nothing is missing in nodes, nothing is in the first, nor in the others
apart : (key : Option Item) (y : Node Item) (ys : Nodes Item) → nodes_pass (λ x. true) (node key y ys) ≡ true → (all_pass (λ x. true) y ≡ true) × (nodes_pass (λ x. true) ys ≡ true)
apart key y ys h =
    let both = and_parts (option_map_or (λ (x : Item). true) key true && all_pass (λ (x : Item). true) y) (nodes_pass (λ (x : Item). true) ys) h in
    ((and_parts (option_map_or (λ (x : Item). true) key true) (all_pass (λ (x : Item). true) y) both.0).1, both.1)

same_nodes : (k l : Option Item) (x y : Node Item) (xs ys : Nodes Item) → l ≡ k → x ≡ y → xs ≡ ys → node k x xs ≡ node l y ys
same_nodes k l x y xs ys key first others = rw (key, first, others) refl

mutual
  pub lies_item : (strict : Bool) (d : ℕ) (y : Node Item) (i : List ℕ) (a e : ℕ) → all_pass (λ x. true) y ≡ true → Lies (cbor_frames strict) i d y a e
      → (x : Item) × IsItemAt x i a e × Follows (end_depth strict d) i e × (node_of x ≡ y)
  lies_item strict d null_node i a e full (begins, end, follows) = (simple null_value, subst (IsItemAt (simple null_value) i a) (sym end) (null_there i a begins), follows, refl)
  lies_item strict d (leaf x) i a e full (is, at, follows) = (x, at, follows, is)
  lies_item strict d (container as_array ys) i a e full (b, m, (due, is, opens), lie, follows) =
      let xs = lie_items strict d ys m i b e full lie in
      let there = subst (λ (n : Mark). ItemsLie xs.0 n i b e) is xs.2 in
      let whole = items_array due xs.0 i a b e opens there in
      (array whole.0 xs.0, whole.1, follows, ap (container as_array) xs.1)
  lies_item strict d (container as_object ys) i a e full (b, m, (due, is, opens), lie, follows) =
      let ps = lie_pairs strict d ys m i b e full lie in
      let there = subst (λ (n : Mark). PairsLie ps.0 n i b e) is ps.2 in
      let whole = pairs_map due ps.0 i a b e opens there in
      (map whole.0 ps.0, whole.1, follows, ap (container as_object) ps.1)
  lies_item strict d missing i a e full h = cc

  lie_items : (strict : Bool) (d : ℕ) (ys : Nodes Item) (m : Mark) (i : List ℕ) (b e : ℕ) → nodes_pass (λ x. true) ys ≡ true → NodesLie (cbor_frames strict) as_array i (suc d) ys b m e
      → (xs : Items) × (item_nodes xs ≡ ys) × ItemsLie xs m i b e
  lie_items strict d no_nodes m i b e full lie = (no_items, refl, lie)
  lie_items strict d (node key y ys) m i b e full (c, n, f, (none, same, entry), lies, lie) =
      let x = lies_item strict (suc d) y i c f (apart key y ys full).0 lies in
      let rest = lie_items strict d ys n i f e (apart key y ys full).1 lie in
      (item x.0 rest.0, same_nodes None key (node_of x.0) y (item_nodes rest.0) ys none x.3 rest.1, (n, f, entry, subst (λ z. IsItemAt x.0 i z f) same x.1, rest.2))

  lie_pairs : (strict : Bool) (d : ℕ) (ys : Nodes Item) (m : Mark) (i : List ℕ) (b e : ℕ) → nodes_pass (λ x. true) ys ≡ true → NodesLie (cbor_frames strict) as_object i (suc d) ys b m e
      → (ps : Pairs) × (pair_nodes ps ≡ ys) × PairsLie ps m i b e
  lie_pairs strict d no_nodes m i b e full lie = (no_pairs, refl, lie)
  lie_pairs strict d (node key y ys) m i b e full (c, n, f, (entry, (k, there, is)), lies, lie) =
      let x = lies_item strict (suc d) y i c f (apart key y ys full).0 lies in
      let rest = lie_pairs strict d ys n i f e (apart key y ys full).1 lie in
      (pair k x.0 rest.0, same_nodes (Some k) key (node_of x.0) y (pair_nodes rest.0) ys is x.3 rest.1, (n, c, f, entry, there, x.1, rest.2))

-- ---- strictly, nothing is missing in an input that isn't empty

keys_pass : (key : Option Item) → option_map_or (λ (x : Item). true) key true ≡ true
keys_pass None = refl
keys_pass (Some k) = refl

mutual
  pub all_there : (d : ℕ) (y : Node Item) (i : List ℕ) (a e : ℕ) → 0 < length i → Lies (cbor_frames true) i d y a e → all_pass (λ x. true) y ≡ true
  all_there d null_node i a e some lies = refl
  all_there d (leaf x) i a e some lies = refl
  all_there d (container as_array ys) i a e some (b, m, opens, lie, follows) = each_there d ys as_array m i b e some lie
  all_there d (container as_object ys) i a e some (b, m, opens, lie, follows) = each_there d ys as_object m i b e some lie
  all_there d missing i a e some (rest, end) = absurd (omega (arith, some, rest.0, rest.1 refl))

  each_there : (d : ℕ) (ys : Nodes Item) (f : Form) (m : Mark) (i : List ℕ) (b e : ℕ) → 0 < length i → NodesLie (cbor_frames true) f i (suc d) ys b m e → nodes_pass (λ x. true) ys ≡ true
  each_there d no_nodes f m i b e some lie = refl
  each_there d (node key y ys) f m i b e some (c, n, g, entry, lies, lie) =
      rw (keys_pass key, all_there (suc d) y i c g some lies, each_there d ys f n i g e some lie) refl

-- what lies in an empty input is missing there
pub lies_full : (d : ℕ) (y : Node Item) (i : List ℕ) (a e : ℕ) → Lies (cbor_frames true) i d y a e → (sort_of y ≡ no_value → ⊥) → 0 < length i
lies_full d y i a e lies there =
    let ahead = lies_ahead (cbor_frames true) (cbor_is_wire true) i d y a e lies there in omega (arith, ahead.0, ahead.1)

passes : (b : Bool) (n : ℕ) → all_pass (λ (y : Item). true) (cond b null_node (leaf (simple n))) ≡ true
passes true n = refl
passes false n = refl

mutual
  -- nothing in an item is missing
  pub none_missing : (x : Item) → all_pass (λ y. true) (node_of x) ≡ true
  none_missing (unsigned n) = refl
  none_missing (negative n) = refl
  none_missing (byte_string extent chunks) = refl
  none_missing (text_string extent chunks) = refl
  none_missing (array extent xs) = none_in_items xs
  none_missing (map extent ps) = none_in_pairs ps
  none_missing (tag n x) = refl
  none_missing (simple n) = passes (n == null_value) n
  none_missing (float digits) = refl

  none_in_items : (xs : Items) → nodes_pass (λ y. true) (item_nodes xs) ≡ true
  none_in_items no_items = refl
  none_in_items (item x xs) = rw (none_missing x) (none_in_items xs)

  none_in_pairs : (ps : Pairs) → nodes_pass (λ y. true) (pair_nodes ps) ≡ true
  none_in_pairs no_pairs = refl
  none_in_pairs (pair k x ps) = rw (none_missing x) (none_in_pairs ps)
