-- A tree of JSON lies where its node lies, by its tokens, and every node that lies is one of a tree, where its tokens are in the
-- grammar of RFC 8259.
use Rattle.std.specs.Prelude.{◌≡◌, ◌&&◌, ℕ, suc, length, List, [], Option, Some, None, true, false, refl}
use Rattle.std.specs.Option.{option_map_or}
use Rattle.std.proofs.Common.{sym, ap, arith, subst}
use Rattle.std.proofs.lemmas.Bool.{and_parts}
use Rattle.smithy_schema.specs.Reading.{Mark}
use Rattle.smithy_json_grammar.specs.Tree.{Json, null, boolean, number, string, array, object, Elements, no_elements, element, Members, no_members, member, nesting, elements_nesting, members_nesting}
use Rattle.smithy_json_grammar.specs.Grammar.{IsStringText}
use Rattle.smithy_json_values.specs.LexicalGrammar.{rfc_8259, is_skipped_in}
use Rattle.smithy_json_values.specs.Scalar.{JsonScalar, a_boolean, a_number, a_string, tree_of}
use Rattle.smithy_json_values.specs.Meaning.{node_of, element_nodes, member_nodes}
use Rattle.smithy_json_values.specs.Standing.{TreeLies, fresh_mark, entry_mark, json_frames}
use Rattle.smithy_json_values.specs.Private.ArrayPlaces.{ElementsLie, child_lies, lies_inside, elements_text, text_elements}
use Rattle.smithy_json_values.specs.Private.ObjectPlaces.{MembersLie, members_text, text_members}
use Rattle.smithy_json_values.specs.Private.ValuePlaces.{no_end}
use Rattle.smithy_json_values.specs.Private.TokenGrammar.{tree_is_token, token_is_tree, skipped_in, skipped_is, null_token, token_null, names_token, token_names}
use Rattle.smithy_json_values.specs.Private.Wire.{json_is_wire}
use Rattle.smithy_wire.specs.Node.{as_array, as_object, Node, null_node, leaf, container, missing, Nodes, no_nodes, node, nesting as node_nesting, nodes_nesting, all_pass, nodes_pass}
use Rattle.smithy_wire.specs.Frames.{Lies, NodesLie}
use Rattle.smithy_wire.specs.Wire.{no_value}
use Rattle.smithy_wire.specs.Lemmas.Nodes.{sort_of, lies_ahead}

-- the token of a scalar, as a node
scalar_lies : (d : ℕ) (x : JsonScalar) (i : List ℕ) (a e : ℕ) → TreeLies 1 (tree_of x) i a e
    → json_frames.scalar i d x a e × (is_skipped_in rfc_8259 x ≡ true)
scalar_lies d x i a e h = let token = tree_is_token x i d a e h in (token.0, skipped_in x token.1)

mutual
  -- each token in it is in the grammar
  pub tree_lies : (d : ℕ) (x : Json) (i : List ℕ) (a e : ℕ) → TreeLies d x i a e
      → Lies json_frames i d (node_of x) a e × (all_pass (is_skipped_in rfc_8259) (node_of x) ≡ true)
  tree_lies d null i a e h = (null_token i d a e h, refl)
  tree_lies d (boolean b) i a e h = scalar_lies d (a_boolean b) i a e h
  tree_lies d (number raw) i a e h = scalar_lies d (a_number raw) i a e h
  tree_lies d (string raw) i a e h = scalar_lies d (a_string raw) i a e h
  tree_lies d (array es) i a e h =
      let (b, opens, lie) = text_elements d es i a e (omega (arith, h.0.0, h.0.1)) h in
      let inside = elements_lie d es fresh_mark i b e lie in
      ((b, fresh_mark, (refl, opens), inside.0, h.1), inside.1)
  tree_lies d (object ms) i a e h =
      let (b, opens, lie) = text_members d ms i a e (omega (arith, h.0.0, h.0.1)) h in
      let inside = members_lie d ms fresh_mark i b e lie in
      ((b, fresh_mark, (refl, opens), inside.0, h.1), inside.1)

  elements_lie : (d : ℕ) (es : Elements) (m : Mark) (i : List ℕ) (b e : ℕ) → ElementsLie es m.entered i b e
      → NodesLie json_frames as_array i (suc d) (element_nodes es) b m e × (nodes_pass (is_skipped_in rfc_8259) (element_nodes es) ≡ true)
  elements_lie d no_elements m i b e lie = (lie, refl)
  elements_lie d (element x es) m i b e (c, f, separated, lies, lie) =
      let child = tree_lies (suc d) x i c f (lies_inside d x i c f lies) in
      let rest = elements_lie d es entry_mark i f e lie in
      ((c, entry_mark, f, (refl, refl, separated, no_end i x c f lies.0), child.0, rest.0), rw (child.1, rest.1) refl)

  members_lie : (d : ℕ) (ms : Members) (m : Mark) (i : List ℕ) (b e : ℕ) → MembersLie ms m.entered i b e
      → NodesLie json_frames as_object i (suc d) (member_nodes ms) b m e × (nodes_pass (is_skipped_in rfc_8259) (member_nodes ms) ≡ true)
  members_lie d no_members m i b e lie = (lie, refl)
  members_lie d (member raw x ms) m i b e (c, f, names, lies, lie) =
      let name = names_token i m.entered b raw c names in
      let passes : is_skipped_in rfc_8259 (a_string raw) ≡ true = skipped_in (a_string raw) name.1 in
      let child = tree_lies (suc d) x i c f (lies_inside d x i c f lies) in
      let rest = members_lie d ms entry_mark i f e lie in
      ((c, entry_mark, f, (raw, refl, refl, name.0), child.0, rest.0), rw (passes, child.1, rest.1) refl)

leaf_tree : (d : ℕ) (x : JsonScalar) (i : List ℕ) (a e : ℕ) → TreeLies 1 (tree_of x) i a e → TreeLies d (tree_of x) i a e × (node_of (tree_of x) ≡ leaf x)
leaf_tree d (a_boolean b) i a e h = (h, refl)
leaf_tree d (a_number raw) i a e h = (h, refl)
leaf_tree d (a_string raw) i a e h = (h, refl)

-- the text of a key that is in the grammar
key_in : (key : Option JsonScalar) (raw : List ℕ) → key ≡ Some (a_string raw) → option_map_or (is_skipped_in rfc_8259) key true ≡ true → IsStringText raw
key_in key raw name passes = skipped_is (a_string raw) (rw name at passes)

same_node : (k l : Option JsonScalar) (x y : Node JsonScalar) (xs ys : Nodes JsonScalar) → k ≡ l → x ≡ y → xs ≡ ys → node k x xs ≡ node l y ys
same_node k l x y xs ys h i j = rw (h, i, j) refl

mutual
  pub lies_tree : (d : ℕ) (y : Node JsonScalar) (i : List ℕ) (a e : ℕ) → all_pass (is_skipped_in rfc_8259) y ≡ true → Lies json_frames i d y a e
      → (x : Json) × TreeLies d x i a e × (node_of x ≡ y)
  lies_tree d null_node i a e good h = (null, token_null i d a e h, refl)
  lies_tree d (leaf x) i a e good h = let t = leaf_tree d x i a e (token_is_tree x i d a e h (skipped_is x good)) in (tree_of x, t.0, t.1)
  lies_tree d (container as_array ys) i a e good (b, m, (is, opens), lie, follows) =
      let es = lie_elements d ys m i b e good lie in
      let there = subst (λ (n : Mark). ElementsLie es.0 n.entered i b e) is es.2 in
      (array es.0, elements_text d es.0 i a b e opens there follows, ap (container as_array) es.1)
  lies_tree d (container as_object ys) i a e good (b, m, (is, opens), lie, follows) =
      let ms = lie_members d ys m i b e good lie in
      let there = subst (λ (n : Mark). MembersLie ms.0 n.entered i b e) is ms.2 in
      (object ms.0, members_text d ms.0 i a b e opens there follows, ap (container as_object) ms.1)
  lies_tree d missing i a e good h = absurd (let no : false ≡ true = good in cc)

  lie_elements : (d : ℕ) (ys : Nodes JsonScalar) (m : Mark) (i : List ℕ) (b e : ℕ) → nodes_pass (is_skipped_in rfc_8259) ys ≡ true
      → NodesLie json_frames as_array i (suc d) ys b m e → (es : Elements) × (element_nodes es ≡ ys) × ElementsLie es m.entered i b e
  lie_elements d no_nodes m i b e good lie = (no_elements, refl, lie)
  lie_elements d (node key y ys) m i b e good (c, n, f, (none, is, separated, real), lies, lie) =
      let parts = and_parts (option_map_or (is_skipped_in rfc_8259) key true && all_pass (is_skipped_in rfc_8259) y) (nodes_pass (is_skipped_in rfc_8259) ys) good in
      let own = and_parts (option_map_or (is_skipped_in rfc_8259) key true) (all_pass (is_skipped_in rfc_8259) y) parts.0 in
      let x = lies_tree (suc d) y i c f own.1 lies in
      let rest = lie_elements d ys n i f e parts.1 lie in (
        element x.0 rest.0,
        same_node None key (node_of x.0) y (element_nodes rest.0) ys (sym none) x.2 rest.1,
        (c, f, separated, child_lies d x.0 i c f x.1, subst (λ (k : Mark). ElementsLie rest.0 k.entered i f e) is rest.2),
      )

  lie_members : (d : ℕ) (ys : Nodes JsonScalar) (m : Mark) (i : List ℕ) (b e : ℕ) → nodes_pass (is_skipped_in rfc_8259) ys ≡ true
      → NodesLie json_frames as_object i (suc d) ys b m e → (ms : Members) × (member_nodes ms ≡ ys) × MembersLie ms m.entered i b e
  lie_members d no_nodes m i b e good lie = (no_members, refl, lie)
  lie_members d (node key y ys) m i b e good (c, n, f, (raw, name, is, tokens), lies, lie) =
      let parts = and_parts (option_map_or (is_skipped_in rfc_8259) key true && all_pass (is_skipped_in rfc_8259) y) (nodes_pass (is_skipped_in rfc_8259) ys) good in
      let own = and_parts (option_map_or (is_skipped_in rfc_8259) key true) (all_pass (is_skipped_in rfc_8259) y) parts.0 in
      let names = token_names i m.entered b raw c tokens (key_in key raw name own.0) in
      let x = lies_tree (suc d) y i c f own.1 lies in
      let rest = lie_members d ys n i f e parts.1 lie in (
        member raw x.0 rest.0,
        same_node (Some (a_string raw)) key (node_of x.0) y (member_nodes rest.0) ys (sym name) x.2 rest.1,
        (c, f, names, child_lies d x.0 i c f x.1, subst (λ (k : Mark). MembersLie rest.0 k.entered i f e) is rest.2),
      )

-- what lies in an empty input is missing there
pub lies_full : (d : ℕ) (y : Node JsonScalar) (i : List ℕ) (a e : ℕ) → Lies json_frames i d y a e → (sort_of y ≡ no_value → ⊥) → i ≡ [] → ⊥
lies_full d y i a e lies there empty =
    omega (arith, ap length empty, lies_ahead json_frames json_is_wire i d y a e lies there)

mutual
  -- a node nests as deep as its tree
  pub same_nesting : (x : Json) → node_nesting (node_of x) ≡ nesting x
  same_nesting null = refl
  same_nesting (boolean b) = refl
  same_nesting (number raw) = refl
  same_nesting (string raw) = refl
  same_nesting (array es) = ap suc (same_in_elements es)
  same_nesting (object ms) = ap suc (same_in_members ms)

  same_in_elements : (es : Elements) → nodes_nesting (element_nodes es) ≡ elements_nesting es
  same_in_elements no_elements = refl
  same_in_elements (element x es) = rw (same_nesting x, same_in_elements es) refl

  same_in_members : (ms : Members) → nodes_nesting (member_nodes ms) ≡ members_nesting ms
  same_in_members no_members = refl
  same_in_members (member raw x ms) = rw (same_nesting x, same_in_members ms) refl
