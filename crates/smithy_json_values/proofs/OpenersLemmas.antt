-- How many brackets are open while a value is skipped that begins at `start`. By the bytes from `start` on alone at least as many
-- are open at once as the skipper has open, together with the brackets that open from the skipper's place on. Each move of the
-- skipper keeps this. So where a bracket comes too deep for the skipper, the bytes go as deep.
use Rattle.std.proofs.Common.{◌≡◌, ◌≤◌, ◌<◌, ◌+◌, ◌-◌, ℕ, suc, List, drop, Bool, true, false, arith}
use Rattle.smithy_json_grammar.specs.Ascii.{begin_array, end_array, begin_object, end_object}
use Rattle.smithy_json_grammar.specs.Tree.{Json}
use Rattle.smithy_json_grammar.specs.Grammar.{IsValue}
use Rattle.smithy_json_values.specs.Scalar.{JsonScalar}
use Rattle.smithy_json_values.specs.Standing.{Lies, IsByte, IsSeparated, Names}
use Rattle.smithy_json_values.specs.Tokens.{NameTokens}
use Rattle.smithy_json_values.specs.LexicalGrammar.{LexicalGrammar, frames_of, NodeLies}
use Rattle.smithy_json_values.specs.Openers.{json_openers}
use Rattle.smithy_json_values.specs.Private.OpenersAtPlaces.{across_null, across_token, across_begin_array, across_begin_object, across_value, across_separator, across_name, across_name_token, across_end_array, across_end_object}
use Rattle.smithy_json_values.specs.Private.Wire.{opening_adds, entry_takes_none, end_takes_one}
use Rattle.smithy_schema.specs.Reading.{Mark}
use Rattle.smithy_wire.specs.Node.{Form, Node, null_node, leaf, container, missing, Nodes, no_nodes, node, all_pass, nodes_pass}
use Rattle.smithy_wire.specs.Frames.{Lies as LiesAsNode, NodesLie}
use Rattle.smithy_json_values.proofs.OpenContainers.{node_parts}

-- a node that passes a test takes away no bracket that opens behind it
module _ (g : LexicalGrammar) (test : JsonScalar → Bool) (i : List ℕ) where
  abbrev from : ℕ → ℕ
  from a = json_openers (drop a i)

  mutual
    pub node_takes_none : (d : ℕ) (x : Node JsonScalar) (a e : ℕ) → LiesAsNode (frames_of g) i d x a e → all_pass test x ≡ true → from e ≤ from a
    node_takes_none d null_node a e h passes = omega (arith, across_null i a e h.0)
    node_takes_none d (leaf x) a e h passes = omega (arith, across_token i x a e h.0)
    node_takes_none d (container f xs) a e (b, m, opens, lie, follows) passes =
        let inside = nodes_take_one (suc d) f xs b m e lie passes in
        omega (arith, inside, opening_adds f i a b opens.1)
    node_takes_none d missing a e h passes = absurd (let no : false ≡ true = passes in cc)

    nodes_take_one : (d : ℕ) (f : Form) (xs : Nodes JsonScalar) (b : ℕ) (m : Mark) (e : ℕ) → NodesLie (frames_of g) f i d xs b m e → nodes_pass test xs ≡ true
        → from e ≤ suc (from b)
    nodes_take_one d f no_nodes b m e h passes = end_takes_one f i b e h
    nodes_take_one d f (node key x xs) b m e (c, n, k, entry, lies, lie) passes =
        let parts = node_parts test key x xs passes in
        let value = node_takes_none d x c k lies parts.1 in
        let rest = nodes_take_one d f xs k n e lie parts.2 in
        omega (arith, rest, value, entry_takes_none f i b m key c n entry)

module _ (i : List ℕ) (start : ℕ) where
  -- the loop invariant, for a skipper that has come to `here` and has `count` containers open
  abbrev pub OpensInAll : ℕ → ℕ → Type 0
  OpensInAll count here = count + json_openers (drop here i) ≤ json_openers (drop start i)

  -- nothing is open at the start
  pub nothing_opened : OpensInAll 0 start
  nothing_opened = omega arith

  -- where a bracket comes at the greatest depth, the bytes reach that depth
  pub reaches_depth : (max depth count here : ℕ) → OpensInAll count here → max ≤ depth + count → max ≤ depth + json_openers (drop start i)
  reaches_depth max depth count here h full = omega (arith, h, full)

  -- ---- moves from `here` to `next`

  module _ (count here next : ℕ) (h : OpensInAll count here) where
    -- past white space and an opening bracket
    pub past_begin_array : Lies (IsByte begin_array) i here next → OpensInAll (count + 1) next
    past_begin_array lies = let adds = across_begin_array i here next lies in omega (arith, h, adds)

    pub past_begin_object : Lies (IsByte begin_object) i here next → OpensInAll (count + 1) next
    past_begin_object lies = let adds = across_begin_object i here next lies in omega (arith, h, adds)

    -- past white space and a value, as a scalar is
    pub past_value : (x : Json) → Lies (IsValue x) i here next → OpensInAll count next
    past_value x lies = let takes = across_value i x here next lies in omega (arith, h, takes)

    pub past_node : (g : LexicalGrammar) (test : JsonScalar → Bool) (d : ℕ) (x : Node JsonScalar) → NodeLies g test d x i here next → OpensInAll count next
    past_node g test d x lies =
        let takes = node_takes_none g test i d x here next lies.0 lies.1 in omega (arith, h, takes)

    -- to an element: past white space and a comma, unless it is the first
    pub past_separator : (entered : Bool) → IsSeparated entered i here next → OpensInAll count next
    past_separator entered separated =
        let same = across_separator i entered here next separated in omega (arith, h, same)

    -- to a member's value: past the comma, unless it is the first, the name and its colon
    pub past_name : (entered : Bool) (raw : List ℕ) → Names entered i here raw next → OpensInAll count next
    past_name entered raw names =
        let same = across_name i entered here raw next names in omega (arith, h, same)

    pub past_name_token : (entered : Bool) (raw : List ℕ) → NameTokens entered i here raw next → OpensInAll count next
    past_name_token entered raw names =
        let same = across_name_token i entered here raw next names in omega (arith, h, same)

    -- past white space and the closing bracket of a container that is open
    pub past_end_array : 0 < count → Lies (IsByte end_array) i here next → OpensInAll (count - 1) next
    past_end_array some lies = let takes = across_end_array i here next lies in omega (arith, h, takes, some)

    pub past_end_object : 0 < count → Lies (IsByte end_object) i here next → OpensInAll (count - 1) next
    past_end_object some lies = let takes = across_end_object i here next lies in omega (arith, h, takes, some)
