-- How a wire frames its nodes: where arrays and objects open, go on and end. It knows no table and no value, and
-- the relations of reading follow from it. Numbers are depths (of open containers) and positions in the input i.
use Rattle.std.specs.Prelude.{◌≡◌, ◌⊎◌, ◌<◌, ◌≤◌, ℕ, zero, suc, List, Option, Some, None, Bool, true, false}
use Rattle.smithy_types.specs.Document.{Document}
use Rattle.smithy_types.specs.declared.number.Number.{Number}
use Rattle.smithy_declarations.specs.declared.shape_type.TimestampFormat.{TimestampFormat}
use Rattle.smithy_declarations.specs.Table.{Kind, document, kind_of, IsStructure}
use Rattle.smithy_schema.specs.Reading.{Mark, Relations}
use Rattle.smithy_wire.specs.Node.{Form, as_array, as_object, Node, null_node, leaf, container, missing, Nodes, no_nodes, node}
use Rattle.smithy_wire.specs.Rules.{Answer, uncarried, Rules, is_shallow, may_skip, key_text, position_in, drops_null, is_mark, is_dropped}
use Rattle.smithy_wire.specs.Documents.{held_document}
use Rattle.smithy_wire.specs.Meaning.{IsTooWide, IsUncarried, is_in, meaning}

-- what a wire tells of bytes
pub record Frames (L : Type 0) : Type 1 where
  -- from a to e is a null, a scalar, inside so many containers
  pub null : List ℕ → ℕ → ℕ → ℕ → Type 0
  pub scalar : List ℕ → ℕ → L → ℕ → ℕ → Type 0
  -- a container opens at a, and its inside at b with a mark
  pub opens : Form → List ℕ → ℕ → ℕ → Mark → Type 0
  -- from b on with a mark another entry comes, with this key or without one, and its value at c
  pub entry : Form → List ℕ → ℕ → Mark → Option L → ℕ → Mark → Type 0
  -- from b on with a mark nothing more comes, and the container ends at e
  pub ends : Form → List ℕ → ℕ → Mark → ℕ → Type 0
  -- a container whose inside has this depth may end at e
  pub follows : List ℕ → ℕ → ℕ → Type 0
  -- from a to e the input is over, and a structure may be missing there
  pub is_over : List ℕ → ℕ → ℕ → Type 0
  -- the mark inside of one that is missing
  pub over_mark : Mark
  -- how much is left to read in a container, how a null begins, and how many containers the bytes open at most
  pub left : List ℕ → ℕ → Mark → ℕ
  pub begins_null : List ℕ → ℕ → Bool
  pub openers : List ℕ → ℕ

abbrev mutual
  -- from a to e lies a node, inside so many containers
  pub Lies : {L : Type 0} → Frames L → List ℕ → ℕ → Node L → ℕ → ℕ → Type 0
  Lies w i d null_node a e = w.null i d a e
  Lies w i d (leaf x) a e = w.scalar i d x a e
  Lies w i d (container f xs) a e =
      (b : ℕ) × (m : Mark) × w.opens f i a b m × NodesLie w f i (suc d) xs b m e × w.follows i (suc d) e
  Lies w i d missing a e = w.is_over i a e

  -- from b on with a mark these nodes lie, and the container ends at e
  pub NodesLie : {L : Type 0} → Frames L → Form → List ℕ → ℕ → Nodes L → ℕ → Mark → ℕ → Type 0
  NodesLie w f i d no_nodes b m e = w.ends f i b m e
  NodesLie w f i d (node key x xs) b m e =
      (c : ℕ) × (n : Mark) × (g : ℕ) × w.entry f i b m key c n × Lies w i d x c g × NodesLie w f i d xs g n e

-- ---- what a reader sees of it

-- a key is told: an object's key has to be a text
abbrev pub IsTold : Form → Option (List ℕ) → Type 0
IsTold as_array key = Unit {0}
IsTold as_object None = ⊥
IsTold as_object (Some text) = Unit {0}

-- from b on with a mark one entry is dropped, and it ends at e with another mark
pub record Drops {L : Type 0} (w : Frames L) (r : Rules L) (k : Kind) (f : Form) (i : List ℕ) (d b : ℕ) (m : Mark) (e : ℕ) (n : Mark) : Type 0 where
  pub key : Option L
  pub at : ℕ
  pub child : Node L
  pub entry : w.entry f i b m key at n
  pub told : IsTold f (key_text r f key)
  pub lies : Lies w i d child at e
  pub dropped : is_dropped r k d (key_text r f key) child ≡ true

-- so many entries are dropped from b on, one after another
abbrev pub DropsAll : {L : Type 0} → Frames L → Rules L → Kind → Form → ℕ → List ℕ → ℕ → ℕ → Mark → ℕ → Mark → Type 0
DropsAll w r k f zero i d b m e n = (b ≡ e) × (m ≡ n)
DropsAll w r k f (suc count) i d b m e n =
    (c : ℕ) × (j : Mark) × Drops w r k f i d b m c j × DropsAll w r k f count i d c j e n

-- behind entries that are dropped comes one that a reader hands on: no mark, and no null that is dropped
pub record StepsIn {L : Type 0} (w : Frames L) (r : Rules L) (k : Kind) (f : Form) (i : List ℕ) (d b : ℕ) (m : Mark) (text : Option (List ℕ)) (c : ℕ) (n : Mark) : Type 0 where
  pub count : ℕ
  pub at : ℕ
  pub mark : Mark
  pub drops : DropsAll w r k f count i d b m at mark
  pub key : Option L
  pub entry : w.entry f i at mark key c n
  pub told : IsTold f text
  pub names : key_text r f key ≡ text
  pub unmarked : is_mark r k text ≡ false
  pub stays : (e : ℕ) → w.null i d c e → drops_null r k (position_in r k text) ≡ false

-- behind entries that are dropped nothing more comes
abbrev pub EndsIn : {L : Type 0} → Frames L → Rules L → Kind → Form → List ℕ → ℕ → ℕ → Mark → ℕ → Type 0
EndsIn w r k f i d b m e =
    (count : ℕ) × (at : ℕ) × (j : Mark) × DropsAll w r k f count i d b m at j × w.ends f i at j e

-- ---- documents

-- a document inside so many containers ends as a container there does
abbrev pub EndsAs : {L : Type 0} → Frames L → Kind → List ℕ → ℕ → ℕ → Type 0
EndsAs w document i d e = w.follows i (suc d) e
EndsAs w _ i d e = Unit {0}

-- From a on lies a scalar that no document carries, and ends at e; where the wire carries no documents, whatever lies there
-- is no document.
abbrev pub LiesUncarried : {L : Type 0} → Frames L → Option (L → Answer (Document Number)) → List ℕ → ℕ → ℕ → Type 0
LiesUncarried {L = L} w None i a e = Unit {0}
LiesUncarried {L = L} w (Some says) i a e =
    (d c : ℕ) × (x : L) × (a ≤ c) × w.scalar i d x c e × (says x ≡ uncarried)

-- what a place of the kind can't carry: the scalar from a to e, or something in a document
abbrev pub UncarriedAt : {L : Type 0} → Frames L → Rules L → Kind → Option TimestampFormat → List ℕ → ℕ → ℕ → ℕ → Type 0
UncarriedAt {L = L} w r document time i d a e = LiesUncarried w r.documents i a e
UncarriedAt {L = L} w r k time i d a e = (x : L) × w.scalar i d x a e × IsUncarried r k time x

-- ---- the relations of reading, once for all wires

abbrev pub relations : {L : Type 0} → Frames L → Rules L → Relations
relations {L = L} w r = record {
  allows = λ d. is_shallow r (suc d) ≡ true;
  position = λ t p key. position_in r (kind_of t p) (Some key);
  stands = λ i t p d a v e.
      (x : Node L) × Lies w i d x a e × (meaning r t p d x ≡ Some v) × EndsAs w (kind_of t p) i d e;
  documents = λ i d a x e.
      (y : Node L) × Lies w i d y a e × (held_document r d y ≡ Some x) × w.follows i (suc d) e;
  nulls = λ i d a e. w.null i d a e;
  skips = λ i d a e. (x : Node L) × Lies w i d x a e × (may_skip r d x ≡ true);
  exceeds = λ i t p d a e. (x : L) × w.scalar i d x a e × IsTooWide r (kind_of t p) p.time x;
  uncarried = λ i t p d a e. UncarriedAt w r (kind_of t p) p.time i d a e;
  mismatches = λ i t p a. r.mismatches (kind_of t p) p.time i a;
  opens = λ i t p d a b m.
      ((f : Form) × (is_in (kind_of t p) f ≡ true) × w.opens f i a b m)
      ⊎ (IsStructure (kind_of t p) × w.is_over i a b × (m ≡ w.over_mark));
  steps = λ i t p d b m key c n. (f : Form) × (is_in (kind_of t p) f ≡ true) × StepsIn w r (kind_of t p) f i d b m key c n;
  closes = λ i t p d b m e.
      ((f : Form) × (is_in (kind_of t p) f ≡ true) × EndsIn w r (kind_of t p) f i d b m e × w.follows i d e)
      ⊎ (IsStructure (kind_of t p) × w.is_over i b e × (m ≡ w.over_mark) × (0 < d));
  left = w.left;
  begins_null = w.begins_null;
  openers = w.openers;
  limits_skips = r.skips_count;
}
