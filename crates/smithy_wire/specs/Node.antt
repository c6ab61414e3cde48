-- A body's tree without the bytes that its wire spends on it. L is what the wire has for scalars and keys: a
-- node of JSON and one of CBOR differ in nothing else.
use Rattle.std.specs.Prelude.{ℕ, suc, max, Bool, true, false, ◌&&◌, Option}
use Rattle.std.specs.Option.{option_map_or}

-- what a container is on the wire: an array, or an object (of CBOR a map)
pub data Form : Type 0 where
  as_array as_object : Form

mutual
  -- what stands where a value is due
  pub data Node (L : Type 0) : Type 0 where
    null_node : Node L
    leaf : L → Node L
    container : Form → Nodes L → Node L
    -- nothing: the input ends there, and a structure is one without members
    missing : Node L

  -- the children of a container: each with its key, or without one in an array
  pub data Nodes (L : Type 0) : Type 0 where
    no_nodes : Nodes L
    node : Option L → Node L → Nodes L → Nodes L

abbrev mutual
  -- how many containers stand inside one another
  pub nesting : {L : Type 0} → Node L → ℕ
  nesting (container f xs) = suc (nodes_nesting xs)
  nesting _ = 0

  -- the greatest of the children
  pub nodes_nesting : {L : Type 0} → Nodes L → ℕ
  nodes_nesting no_nodes = 0
  nodes_nesting (node key x xs) = max (nesting x) (nodes_nesting xs)

abbrev mutual
  -- each scalar and each key passes a test, and no value is missing
  pub all_pass : {L : Type 0} → (L → Bool) → Node L → Bool
  all_pass test null_node = true
  all_pass test (leaf x) = test x
  all_pass test (container f xs) = nodes_pass test xs
  all_pass test missing = false

  pub nodes_pass : {L : Type 0} → (L → Bool) → Nodes L → Bool
  nodes_pass test no_nodes = true
  nodes_pass test (node key x xs) = option_map_or test key true && all_pass test x && nodes_pass test xs

-- the node is a null
abbrev pub is_null : {L : Type 0} → Node L → Bool
is_null null_node = true
is_null _ = false
