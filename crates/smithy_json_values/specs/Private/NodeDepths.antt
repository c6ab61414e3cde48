-- A node that lies inside of some containers lies inside of any number of them, by what comes behind it.
use Rattle.std.specs.Prelude.{ℕ, zero, suc, List, drop, Bool, true, false}
use Rattle.smithy_schema.specs.Reading.{Mark}
use Rattle.smithy_json_grammar.specs.Grammar.{IsWs}
use Rattle.smithy_json_values.specs.Scalar.{JsonScalar}
use Rattle.smithy_json_values.specs.Tokens.{BoundaryBy, EndsContainer}
use Rattle.smithy_json_values.specs.LexicalGrammar.{LexicalGrammar, frames_of}
use Rattle.smithy_json_values.specs.Private.Lexical.{ws_is_boundary}
use Rattle.smithy_wire.specs.Frames.{Lies, NodesLie}
use Rattle.smithy_wire.specs.Node.{Form, Node, null_node, leaf, container, missing, Nodes, no_nodes, node}

module _ (g : LexicalGrammar) (i : List ℕ) where
  mutual
    pub deeper : (d n : ℕ) (x : Node JsonScalar) (a e : ℕ) → Lies (frames_of g) i (suc d) x a e → Lies (frames_of g) i (suc n) x a e
    deeper d n null_node a e h = h
    deeper d n (leaf x) a e h = h
    deeper d n (container f xs) a e (b, m, opens, lie, follows) = (b, m, opens, nodes_deeper (suc d) (suc n) f xs b m e lie, follows)
    deeper d n missing a e h = h

    nodes_deeper : (d n : ℕ) (f : Form) (xs : Nodes JsonScalar) (b : ℕ) (m : Mark) (e : ℕ) → NodesLie (frames_of g) f i (suc d) xs b m e
        → NodesLie (frames_of g) f i (suc n) xs b m e
    nodes_deeper d n f no_nodes b m e h = h
    nodes_deeper d n f (node key x xs) b m e (c, o, h, entry, lies, lie) =
        (c, o, h, entry, deeper d n x c h lies, nodes_deeper d n f xs h o e lie)

  -- the same where what may follow a container at the other depth comes behind it
  pub lies_with : (d n : ℕ) (x : Node JsonScalar) (a e : ℕ) → EndsContainer (BoundaryBy g.is_strict) n (drop e i) → Lies (frames_of g) i d x a e → Lies (frames_of g) i n x a e
  lies_with d n null_node a e ends h = h
  lies_with d n (leaf x) a e ends h = h
  lies_with d n (container f xs) a e ends (b, m, opens, lie, follows) = (b, m, opens, nodes_deeper d n f xs b m e lie, ends)
  lies_with d n missing a e ends h = h

blanks_bound : (strict : Bool) (s : List ℕ) → IsWs s → BoundaryBy strict s
blanks_bound true s h = ws_is_boundary s h
blanks_bound false s h = tt

pub ends_inside : (strict : Bool) (d : ℕ) (s : List ℕ) → EndsContainer (BoundaryBy strict) d s → BoundaryBy strict s
ends_inside strict zero s h = blanks_bound strict s h
ends_inside strict (suc d) s h = h
