-- Whole inputs: what spells a value is what stands at their start, with nothing but white space behind it.
use Rattle.std.proofs.Common.{◌≡◌, ◌↔◌, ℕ, zero, suc, length, List, [], drop, Some, refl, sym, ◌∙◌, ap, arith, inl, inr}
use Rattle.std.proofs.lemmas.List.{drop_all}
use Rattle.smithy_declarations.specs.declared.place.Place.{Place}
use Rattle.smithy_declarations.specs.Table.{Table, Kind, document, structure_of, kind_of, IsStructure, IsContainer}
use Rattle.smithy_declarations.specs.Value.{Value, structure, no_member_values}
use Rattle.smithy_shapes.specs.Lemmas.Options.{same_some, chosen}
use Rattle.smithy_json_grammar.specs.Tree.{Json, null, boolean, number, string, array, object}
use Rattle.smithy_json_grammar.specs.Grammar.{IsWs, IsValue, IsJsonText}
use Rattle.smithy_json_values.specs.Settings.{Settings, is_shallow}
use Rattle.smithy_json_values.specs.Scalar.{JsonScalar, a_boolean, a_number, a_string}
use Rattle.smithy_json_values.specs.Meaning.{node_of, rules_of, json_meaning}
use Rattle.smithy_json_values.specs.Spelling.{json_spells}
use Rattle.smithy_json_values.specs.LexicalGrammar.{rfc_8259}
use Rattle.smithy_json_values.specs.Private.TokenLaws.{lawful}
use Rattle.smithy_json_values.specs.Standing.{Follows, TreeLies, json_frames, standard_rules, standard_relations}
use Rattle.smithy_json_values.specs.Private.Lexical.{ws_is_boundary}
use Rattle.smithy_json_values.specs.Private.BytePlaces.{settle}
use Rattle.smithy_json_values.specs.Private.ValuePlaces.{one_tree}
use Rattle.smithy_json_values.specs.Private.NodePlaces.{tree_lies, lies_tree, lies_full}
use Rattle.smithy_json_values.specs.Private.TokenMeaning.{sound}
use Rattle.smithy_json_values.specs.Private.TokenRules.{same_meaning}
use Rattle.smithy_wire.specs.Node.{Node, null_node, leaf, container, missing}
use Rattle.smithy_wire.specs.Meaning.{missing_meaning, meaning}
use Rattle.smithy_wire.specs.Frames.{Lies, EndsAs}
use Rattle.smithy_wire.specs.Wire.{no_value}
use Rattle.smithy_wire.specs.Lemmas.Nodes.{sort_of}
use Rattle.smithy_wire.specs.Lemmas.Places.{null_is_no_container, leaf_means_nothing}

-- ---- texts

-- only white space may follow any value, and may follow it at each depth
ws_follows : (d : ℕ) (x : Json) (s : List ℕ) → IsWs s → Follows d x s
ws_follows d null s h = ws_is_boundary s h
ws_follows d (boolean b) s h = ws_is_boundary s h
ws_follows d (number raw) s h = ws_is_boundary s h
ws_follows d (string raw) s h = ws_is_boundary s h
ws_follows zero (array es) s h = h
ws_follows zero (object ms) s h = h
ws_follows (suc d) (array es) s h = ws_is_boundary s h
ws_follows (suc d) (object ms) s h = ws_is_boundary s h

-- a whole text lies at the start, with white space behind it
pub text_lies : (i : List ℕ) (x : Json) → IsJsonText x i → (e : ℕ) × TreeLies 0 x i 0 e × IsWs (drop e i)
text_lies i x h =
    let s = settle (IsValue x) i 0 h.0 h.1 h.2 (omega arith) h.3 h.4 h.5 in
    (s.at, (s.lies, rw s.rest (ws_follows 0 x h.2 h.6)), rw s.rest h.6)

-- and back
pub lies_text : (i : List ℕ) (x : Json) (e : ℕ) → TreeLies 0 x i 0 e → IsWs (drop e i) → IsJsonText x i
lies_text i x e h ws = let l = h.0.2 in (l.0, l.1, drop e i, l.2, l.3, l.4, ws)

-- bytes are the text of one tree
pub one_text : (i : List ℕ) (x y : Json) → IsJsonText x i → IsJsonText y i → x ≡ y
one_text i x y h k =
    let a = text_lies i x h in
    let b = text_lies i y k in
    (one_tree 0 0 x y i 0 a.0 b.0 a.1 b.1).0

-- ---- values

-- what is missing is a structure without members
missing_says : (k : Kind) → IsStructure k → missing_meaning k ≡ Some (structure no_member_values)
missing_says (structure_of members) h = refl
missing_says _ h = absurd h

missing_is : (k : Kind) (v : Value) → missing_meaning k ≡ Some v → IsStructure k × (v ≡ structure no_member_values)
missing_is (structure_of members) v h = (tt, sym (same_some (structure no_member_values) v h))
missing_is _ v h = cc

-- behind it comes only white space, as behind a document
ends_alone : (k : Kind) (i : List ℕ) (e : ℕ) → IsWs (drop e i) → EndsAs json_frames k i 0 e
ends_alone document i e h = h
ends_alone _ i e h = tt

-- what the input spells stands at its start
pub spells_stands : (c : Settings) (t : Table) (p : Place) (i : List ℕ) (v : Value) → json_spells c t p i v
    → (e : ℕ) × (standard_relations c).stands i t p 0 0 v e
spells_stands c t p i v (inl h) =
    let l = text_lies i h.0 h.1 in
    let node = tree_lies 0 h.0 i 0 l.0 l.1 in
    (l.0, (node_of h.0, node.0, same_meaning c t p 0 (node_of h.0) node.1 ∙ h.2, ends_alone (kind_of t p) i l.0 l.2))
spells_stands c t p i v (inr h) =
    let means : meaning (standard_rules c) t p 0 missing ≡ Some v = rw h.2 (missing_says (kind_of t p) h.1 ∙ ap Some (sym h.3)) in
    (0, (missing, ((h.0, refl), refl), means, ends_alone (kind_of t p) i 0 (rw h.0 tt)))

-- what stands at the start of the input, with only white space behind it, is spelled by it
stands_alone : (c : Settings) (t : Table) (p : Place) (i : List ℕ) (v : Value) (e : ℕ)
    → ((x : Json) → TreeLies 0 x i 0 e → json_meaning c t p 0 x ≡ Some v → IsWs (drop e i)) → (standard_relations c).stands i t p 0 0 v e → json_spells c t p i v
stands_alone c t p i v e behind (y, lies, means, ends) = of y lies means
  where
    there : (y : Node JsonScalar) → (sort_of y ≡ no_value → ⊥) → Lies json_frames i 0 y 0 e → meaning (standard_rules c) t p 0 y ≡ Some v → json_spells c t p i v
    there y is lies means =
        let passes = sound c i (lies_full 0 y i 0 e lies is) t p 0 y 0 e v lies means in
        let x = lies_tree 0 y i 0 e passes lies in
        let says : json_meaning c t p 0 x.0 ≡ Some v = ap (meaning (rules_of c) t p 0) x.2 ∙ sym (same_meaning c t p 0 y passes) ∙ means in
        inl (x.0, lies_text i x.0 e x.1 (behind x.0 x.1 says), says)

    of : (y : Node JsonScalar) → Lies json_frames i 0 y 0 e → meaning (standard_rules c) t p 0 y ≡ Some v → json_spells c t p i v
    of null_node lies means = there null_node (λ h. cc) lies means
    of (leaf x) lies means = there (leaf x) (λ h. cc) lies means
    of (container f xs) lies means = there (container f xs) (λ h. cc) lies means
    of missing lies means =
        let deep = chosen (is_shallow c 1) (missing_meaning (kind_of t p)) v means in
        let is = missing_is (kind_of t p) v deep.1 in
        inr (lies.0.0, is.0, deep.0, is.1)

-- so is what stands from its start to its end
pub stands_whole : (c : Settings) (t : Table) (p : Place) (i : List ℕ) (v : Value) → (standard_relations c).stands i t p 0 0 v (length i) → json_spells c t p i v
stands_whole c t p i v h =
    stands_alone c t p i v (length i) (λ x lies means. let none : drop (length i) i ≡ [] = drop_all (length i) i (omega arith) in rw none tt) h

-- behind a container outside of all others comes only white space
behind_container : (c : Settings) (t : Table) (p : Place) (i : List ℕ) (v : Value) (e : ℕ) (x : Json) → IsContainer (kind_of t p)
    → TreeLies 0 x i 0 e → json_meaning c t p 0 x ≡ Some v → IsWs (drop e i)
behind_container c t p i v e null box lies means = absurd (null_is_no_container (rules_of c) t p 0 v box means)
behind_container c t p i v e (boolean b) box lies means = absurd (leaf_means_nothing (rules_of c) t p 0 (a_boolean b) v box means)
behind_container c t p i v e (number raw) box lies means = absurd (leaf_means_nothing (rules_of c) t p 0 (a_number raw) v box means)
behind_container c t p i v e (string raw) box lies means = absurd (leaf_means_nothing (rules_of c) t p 0 (a_string raw) v box means)
behind_container c t p i v e (array es) box lies means = lies.1
behind_container c t p i v e (object ms) box lies means = lies.1

-- so what stands at the start of the input is spelled by it, at a place of a container
pub stands_spells : (c : Settings) (t : Table) (p : Place) (i : List ℕ) (v : Value) (e : ℕ) → IsContainer (kind_of t p)
    → (standard_relations c).stands i t p 0 0 v e → json_spells c t p i v
stands_spells c t p i v e box h = stands_alone c t p i v e (λ x lies means. behind_container c t p i v e x box lies means) h

-- a structure is a container
pub structure_is_container : (k : Kind) → IsStructure k → IsContainer k
structure_is_container (structure_of members) h = h
structure_is_container _ h = absurd h

-- so what an input spells at the place of a structure is what stands at its start
pub spells_is_stands : (c : Settings) (t : Table) (p : Place) (i : List ℕ) (v : Value) → IsStructure (kind_of t p)
    → json_spells c t p i v ↔ ((e : ℕ) × (standard_relations c).stands i t p 0 0 v e)
spells_is_stands c t p i v kind =
    (spells_stands c t p i v, λ h. stands_spells c t p i v h.0 (structure_is_container (kind_of t p) kind) h.1)

-- at most one value is spelled
pub one_spelled : (c : Settings) (t : Table) (p : Place) (i : List ℕ) (v u : Value) → json_spells c t p i v → json_spells c t p i u → v ≡ u
one_spelled c t p i v u h k =
    let a = spells_stands c t p i v h in
    let b = spells_stands c t p i u k in
    (lawful rfc_8259 c).same_value i t p 0 0 v u a.0 b.0 a.1 b.1
