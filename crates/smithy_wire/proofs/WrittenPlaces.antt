-- What is written for a node lies as the node.
use Rattle.std.specs.Prelude.{◌≡◌, ◌+◌, ℕ, suc, length, drop, List, [], ◌++◌, Bool, true, false, refl}
use Rattle.std.proofs.Common.{sym, ap, ◌∙◌, arith, append_assoc, subst}
use Rattle.std.proofs.Math.Seq.{drop-append_seam}
use Rattle.std.proofs.lemmas.List.{drop-drop, length-append, append-nil, drop_all}
use Rattle.smithy_wire.specs.Node.{Form, Node, null_node, leaf, container, missing, Nodes, no_nodes, node}
use Rattle.smithy_wire.specs.Frames.{Frames, Lies, NodesLie}
use Rattle.smithy_wire.specs.Writes.{Writes, bytes_of, nodes_bytes, IsWritable, AreWritable, Stand, Follows, WritesFrames}

-- where two parts stand one after the other
pub record Parts (xs ys : List ℕ) (i : List ℕ) (a e : ℕ) : Type 0 where
  pub middle : ℕ
  pub front : Stand xs i a middle
  pub back : Stand ys i middle e

-- what stands in two parts stands as these
pub parts : (xs ys : List ℕ) (i : List ℕ) (a e : ℕ) → Stand (xs ++ ys) i a e → Parts xs ys i a e
parts xs ys i a e h =
    let apart : drop a i ≡ xs ++ (ys ++ drop e i) = h.0 ∙ append_assoc xs ys (drop e i) in
    let rest : drop (a + length xs) i ≡ ys ++ drop e i =
    sym (drop-drop (length xs) a i) ∙ (ap (drop (length xs)) apart ∙ drop-append_seam xs (ys ++ drop e i)) in
    let ends : e ≡ (a + length xs) + length ys = omega (arith, h.1, length-append xs ys) in
    let within = h.2 in
    record {
      middle = a + length xs;
      front = (rw rest apart, refl, omega (arith, ends, within));
      back = (rest, ends, h.2);
    }

module _ {L : Type 0} (w : Writes L) (frames : Frames L) (law : WritesFrames w frames) (i : List ℕ) (is_body : w.IsBody i) where
  -- a node begins as a value may
  begins : (x : Node L) (a e : ℕ) → IsWritable w x → Stand (bytes_of w x) i a e → w.MayBegin (drop a i)
  begins null_node a e can stand = law.null_begins i a e stand
  begins (leaf x) a e can stand = law.scalar_begins i x a e can is_body stand
  begins (container f xs) a e can stand =
      let part = parts (w.opening f) (nodes_bytes w f true xs) i a e stand in law.opening_begins f i a part.middle part.front
  begins missing a e can stand = absurd can

  -- another entry or the end may follow a child
  follow : (f : Form) (xs : Nodes L) (r : List ℕ) → w.MayFollow (nodes_bytes w f false xs ++ r)
  follow f no_nodes r = law.ending_follows f r
  follow f (node key x xs) r =
      subst w.MayFollow (sym (append_assoc (w.entry_bytes f false key) (bytes_of w x ++ nodes_bytes w f false xs) r))
      (law.entry_follows f key ((bytes_of w x ++ nodes_bytes w f false xs) ++ r))

  mutual
    pub node_lies : (x : Node L) (d a e : ℕ) → IsWritable w x → Stand (bytes_of w x) i a e → Follows w d (drop e i) → Lies frames i d x a e
    node_lies null_node d a e can stand follows = law.null_lies i d a e stand follows
    node_lies (leaf x) d a e can stand follows = law.scalar_lies i d x a e can is_body stand follows
    node_lies (container f xs) d a e can stand follows =
        let part = parts (w.opening f) (nodes_bytes w f true xs) i a e stand in (
          part.middle,
          w.mark_at true,
          law.opens_lie f i a part.middle part.front,
          nodes_lie xs f true d part.middle e can part.back,
          law.follows_lie i d e stand.2 follows,
        )
    node_lies missing d a e can stand follows = absurd can

    nodes_lie : (xs : Nodes L) (f : Form) (first : Bool) (d b e : ℕ) → AreWritable w f xs → Stand (nodes_bytes w f first xs) i b e
        → NodesLie frames f i (suc d) xs b (w.mark_at first) e
    nodes_lie no_nodes f first d b e can stand = law.ends_lie f first i b e stand
    nodes_lie (node key x xs) f first d b e (is_key, one, more) stand =
        let entry = parts (w.entry_bytes f first key) (bytes_of w x ++ nodes_bytes w f false xs) i b e stand in
        let child = parts (bytes_of w x) (nodes_bytes w f false xs) i entry.middle e entry.back in (
          entry.middle,
          w.mark_at false,
          child.middle,
          law.entry_lies f first key i b entry.middle is_key is_body entry.front (begins x entry.middle child.middle one child.front),
          node_lies x (suc d) entry.middle child.middle one child.front (subst w.MayFollow (sym child.back.0) (follow f xs (drop e i))),
          nodes_lie xs f false d child.middle e more child.back,
        )

-- a node lies in its own bytes
pub body_lies : {L : Type 0} (w : Writes L) (frames : Frames L) → WritesFrames w frames → (x : Node L) → IsWritable w x → w.IsBody (bytes_of w x)
    → Lies frames (bytes_of w x) 0 x 0 (length (bytes_of w x))
body_lies w frames law x can is_body =
    let i = bytes_of w x in
    let none : drop (length i) i ≡ [] = drop_all (length i) i (omega arith) in
    node_lies w frames law i is_body x 0 0 (length i) can (sym (append-nil i) ∙ ap (λ r. i ++ r) (sym none), omega arith, omega arith) none
