-- How a wire writes its nodes: the bytes that a container opens with, the bytes before each entry, and the bytes of its end.
use Rattle.std.specs.Prelude.{◌≡◌, ◌≤◌, ◌+◌, ℕ, ℤ, zero, suc, length, drop, List, [], ◌++◌, Bool, true, false, Option, Some, None, IsUtf8}
use Rattle.smithy_types.specs.Document.{is_document_number}
use Rattle.smithy_declarations.specs.declared.place.Place.{Place}
use Rattle.smithy_declarations.specs.declared.shape_type.Scalar.{Scalar}
use Rattle.smithy_declarations.specs.declared.shape_type.Scalar.TheVariants as scalars
use Rattle.smithy_declarations.specs.declared.shape_type.TimestampFormat.{TimestampFormat}
use Rattle.smithy_declarations.specs.Table.{Table, Member}
use Rattle.smithy_declarations.specs.Value.{ScalarValue, boolean, whole, text, Value}
use Rattle.smithy_shapes.specs.Fits.{is_of}
use Rattle.smithy_schema.specs.Reading.{Mark}
use Rattle.smithy_wire.specs.Node.{Form, as_array, as_object, Node, null_node, leaf, container, missing, Nodes, no_nodes, node}
use Rattle.smithy_wire.specs.Frames.{Frames}
use Rattle.smithy_wire.specs.Written.{Leaves, written_node}

-- what a wire writes, and when
pub record Writes (L : Type 0) : Type 1 where
  pub null_bytes : List ℕ
  pub leaf_bytes : L → List ℕ
  pub opening : Form → List ℕ
  -- the bytes before the value of an entry, which is the first one or another, with its key
  pub entry_bytes : Form → Bool → Option L → List ℕ
  pub ending : Form → List ℕ
  -- the mark of a container before its first entry or another
  pub mark_at : Bool → Mark
  -- the scalars, keys and bodies that can be written
  pub IsScalar : L → Type 0
  pub IsKey : L → Type 0
  pub IsBody : List ℕ → Type 0
  -- what a value begins with, and what may follow a value inside a container
  pub MayBegin : List ℕ → Type 0
  pub MayFollow : List ℕ → Type 0

abbrev mutual
  -- the bytes that are written for a node
  pub bytes_of : {L : Type 0} → Writes L → Node L → List ℕ
  bytes_of w null_node = w.null_bytes
  bytes_of w (leaf x) = w.leaf_bytes x
  bytes_of w (container f xs) = w.opening f ++ nodes_bytes w f true xs
  bytes_of w missing = []

  -- the bytes of the entries of a container, of which the next is the first one or another, and of the container's end
  pub nodes_bytes : {L : Type 0} → Writes L → Form → Bool → Nodes L → List ℕ
  nodes_bytes w f first no_nodes = w.ending f
  nodes_bytes w f first (node key x xs) = w.entry_bytes f first key ++ (bytes_of w x ++ nodes_bytes w f false xs)

-- the body that is written for a value of a place
abbrev pub body_of : {L : Type 0} → Writes L → Leaves L → (Member → List ℕ) → Table → Place → Value → List ℕ
body_of w l name_of t p v = bytes_of w (written_node l name_of t p v)

-- ---- what can be written

-- a key stands in objects alone
abbrev pub IsKeyOf : {L : Type 0} → Writes L → Form → Option L → Type 0
IsKeyOf w as_array None = Unit {0}
IsKeyOf w as_array (Some k) = ⊥
IsKeyOf w as_object None = ⊥
IsKeyOf w as_object (Some k) = w.IsKey k

abbrev mutual
  -- each scalar and each key can be written, and nothing is missing
  pub IsWritable : {L : Type 0} → Writes L → Node L → Type 0
  IsWritable w null_node = Unit {0}
  IsWritable w (leaf x) = w.IsScalar x
  IsWritable w (container f xs) = AreWritable w f xs
  IsWritable w missing = ⊥

  -- each scalar and each key in the entries of a container can be written, and nothing is missing
  pub AreWritable : {L : Type 0} → Writes L → Form → Nodes L → Type 0
  AreWritable w f no_nodes = Unit {0}
  AreWritable w f (node key x xs) = IsKeyOf w f key × IsWritable w x × AreWritable w f xs

-- ---- what a wire proves

-- from a to e stand these bytes
abbrev pub Stand : List ℕ → List ℕ → ℕ → ℕ → Type 0
Stand bytes i a e = (drop a i ≡ bytes ++ drop e i) × (e ≡ a + length bytes) × (e ≤ length i)

-- what may follow a value inside so many containers: outside of all others nothing
abbrev pub Follows : {L : Type 0} → Writes L → ℕ → List ℕ → Type 0
Follows w zero rest = rest ≡ []
Follows w (suc d) rest = w.MayFollow rest

-- what is written lies as the wire frames it
pub record WritesFrames {L : Type 0} (w : Writes L) (frames : Frames L) : Type 0 where
  pub null_lies : (i : List ℕ) (d a e : ℕ) → Stand w.null_bytes i a e → Follows w d (drop e i) → frames.null i d a e
  pub scalar_lies : (i : List ℕ) (d : ℕ) (x : L) (a e : ℕ) → w.IsScalar x → w.IsBody i → Stand (w.leaf_bytes x) i a e → Follows w d (drop e i)
      → frames.scalar i d x a e
  pub opens_lie : (f : Form) (i : List ℕ) (a b : ℕ) → Stand (w.opening f) i a b → frames.opens f i a b (w.mark_at true)
  pub entry_lies : (f : Form) (first : Bool) (key : Option L) (i : List ℕ) (b c : ℕ) → IsKeyOf w f key → w.IsBody i
      → Stand (w.entry_bytes f first key) i b c → w.MayBegin (drop c i) → frames.entry f i b (w.mark_at first) key c (w.mark_at false)
  pub ends_lie : (f : Form) (first : Bool) (i : List ℕ) (b e : ℕ) → Stand (w.ending f) i b e → frames.ends f i b (w.mark_at first) e
  pub follows_lie : (i : List ℕ) (d e : ℕ) → e ≤ length i → Follows w d (drop e i) → frames.follows i (suc d) e
  -- values begin as they may, and so does what comes behind a child
  pub null_begins : (i : List ℕ) (a e : ℕ) → Stand w.null_bytes i a e → w.MayBegin (drop a i)
  pub scalar_begins : (i : List ℕ) (x : L) (a e : ℕ) → w.IsScalar x → w.IsBody i → Stand (w.leaf_bytes x) i a e → w.MayBegin (drop a i)
  pub opening_begins : (f : Form) (i : List ℕ) (a b : ℕ) → Stand (w.opening f) i a b → w.MayBegin (drop a i)
  pub entry_follows : (f : Form) (key : Option L) (r : List ℕ) → w.MayFollow (w.entry_bytes f false key ++ r)
  pub ending_follows : (f : Form) (r : List ℕ) → w.MayFollow (w.ending f ++ r)

-- what a wire has for the scalars that it holds, and for keys, can be written
pub record WritesLeaves {L : Type 0} (w : Writes L) (l : Leaves L) : Type 0 where
  pub scalar_is : (s : Scalar) (time : Option TimestampFormat) (x : ScalarValue) → is_of s x ≡ true → l.holds.scalar time x ≡ true
      → w.IsScalar (l.leaf_of s time x)
  pub key_is : (key : List ℕ) → IsUtf8 key → w.IsKey (l.key_of key)

-- what a wire proves that writes documents: what it has for a document without parts can be written
pub record WritesDocuments {L : Type 0} (w : Writes L) (l : Leaves L) : Type 0 where
  pub boolean_is : (b : Bool) → w.IsScalar (l.leaf_of scalars.Boolean None (boolean b))
  pub number_is : (n : ℤ) → is_document_number n ≡ true → w.IsScalar (l.leaf_of scalars.BigInteger None (whole n))
  pub text_is : (s : List ℕ) → IsUtf8 s → w.IsScalar (l.leaf_of scalars.String None (text s))
