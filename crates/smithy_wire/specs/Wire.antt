-- What a wire proves of its framing: none of it speaks of tables, kinds or values but the last record.
use Rattle.std.specs.Prelude.{◌≡◌, ◌⊎◌, ◌<◌, ◌≤◌, ℕ, suc, length, drop, List, [], Option, Some, true, false, IsUtf8}
use Rattle.smithy_types.specs.Document.{Document, whole_document}
use Rattle.smithy_types.specs.declared.number.Number.{Number}
use Rattle.smithy_declarations.specs.declared.place.Place.{Place}
use Rattle.smithy_declarations.specs.declared.shape_type.Scalar.{Scalar}
use Rattle.smithy_shapes.specs.Limits.{kept}
use Rattle.smithy_declarations.specs.Table.{Table, scalar, kind_of}
use Rattle.smithy_declarations.specs.Value.{Value, null_element}
use Rattle.smithy_declarations.specs.Documents.{document_nesting, DocumentFits}
use Rattle.smithy_shapes.specs.Fits.{Fits}
use Rattle.smithy_schema.specs.Reading.{Mark, IsBehind as IsPassed}
use Rattle.smithy_wire.specs.Node.{Form, as_object}
use Rattle.smithy_wire.specs.Rules.{Answer, means, settled, Rules}
use Rattle.smithy_wire.specs.Frames.{Frames}

-- what a value can be by how it begins
pub data Sort : Type 0 where
  a_null : Sort
  a_scalar : Sort
  a_container : Form → Sort
  no_value : Sort

-- a child that begins at c ends at e, in the input
abbrev pub IsBehind : {L : Type 0} → Frames L → List ℕ → ℕ → ℕ → Type 0
IsBehind w i c e = ((c < e) ⊎ w.is_over i c e) × (e ≤ length i)

-- all that the laws of reading need of a framing
pub record IsWire {L : Type 0} (w : Frames L) : Type 0 where
  -- ---- what is determined
  pub same_null : (i : List ℕ) (d a e f : ℕ) → w.null i d a e → w.null i d a f → e ≡ f
  pub same_scalar : (i : List ℕ) (d : ℕ) (x y : L) (a e f : ℕ) → w.scalar i d x a e → w.scalar i d y a f → (x ≡ y) × (e ≡ f)
  pub same_opens : (s : Form) (i : List ℕ) (a b c : ℕ) (m n : Mark) → w.opens s i a b m → w.opens s i a c n → (b ≡ c) × (m ≡ n)
  pub same_entry : (s : Form) (i : List ℕ) (b : ℕ) (m : Mark) (k l : Option L) (c e : ℕ) (n o : Mark) → w.entry s i b m k c n → w.entry s i b m l e o
      → (k ≡ l) × (c ≡ e) × (n ≡ o)
  pub same_ends : (s : Form) (i : List ℕ) (b : ℕ) (m : Mark) (e f : ℕ) → w.ends s i b m e → w.ends s i b m f → e ≡ f
  pub entry_or_end : (s : Form) (i : List ℕ) (b : ℕ) (m : Mark) (k : Option L) (c e : ℕ) (n : Mark) → w.entry s i b m k c n → w.ends s i b m e → ⊥
  -- ---- how a value begins
  pub sort_at : List ℕ → ℕ → Sort
  pub null_sort : (i : List ℕ) (d a e : ℕ) → w.null i d a e → sort_at i a ≡ a_null
  pub scalar_sort : (i : List ℕ) (d : ℕ) (x : L) (a e : ℕ) → w.scalar i d x a e → sort_at i a ≡ a_scalar
  pub opens_sort : (s : Form) (i : List ℕ) (a b : ℕ) (m : Mark) → w.opens s i a b m → sort_at i a ≡ a_container s
  pub over_sort : (i : List ℕ) (a e : ℕ) → w.is_over i a e → sort_at i a ≡ no_value
  pub null_begins : (i : List ℕ) (d a e : ℕ) → w.null i d a e → w.begins_null i a ≡ true
  pub others_begin : (i : List ℕ) (a : ℕ) → (sort_at i a ≡ a_null → ⊥) → w.begins_null i a ≡ false
  -- ---- what follows: inside a container a null and a scalar end as a container does
  pub null_follows : (i : List ℕ) (d a e : ℕ) → w.null i (suc d) a e → w.follows i (suc (suc d)) e
  pub scalar_follows : (i : List ℕ) (d : ℕ) (x : L) (a e : ℕ) → w.scalar i (suc d) x a e → w.follows i (suc (suc d)) e
  -- ---- where the input ends
  pub empty_is_over : w.is_over [] 0 0
  pub over_is_end : (i : List ℕ) (a e : ℕ) → w.is_over i a e → (a ≤ e) × (e ≡ length i)
  pub over_stays : (i : List ℕ) (a e : ℕ) → w.is_over i a e → w.is_over i e e
  pub no_entry_over : (i : List ℕ) (b e : ℕ) (k : Option L) (c : ℕ) (n : Mark) → w.is_over i b e → w.entry as_object i b w.over_mark k c n → ⊥
  pub no_end_over : (i : List ℕ) (b e f : ℕ) → w.is_over i b e → w.ends as_object i b w.over_mark f → ⊥
  pub opens_inside : (s : Form) (i : List ℕ) (a b : ℕ) (m : Mark) → w.opens s i a b m → m ≡ w.over_mark → ⊥
  pub entry_inside : (s : Form) (i : List ℕ) (b : ℕ) (m : Mark) (k : Option L) (c : ℕ) (n : Mark) → w.entry s i b m k c n → n ≡ w.over_mark → ⊥
  -- ---- positions rise
  pub null_ahead : (i : List ℕ) (d a e : ℕ) → w.null i d a e → (a < e) × (e ≤ length i)
  pub scalar_ahead : (i : List ℕ) (d : ℕ) (x : L) (a e : ℕ) → w.scalar i d x a e → (a < e) × (e ≤ length i)
  pub opens_ahead : (s : Form) (i : List ℕ) (a b : ℕ) (m : Mark) → w.opens s i a b m → (a < b) × (b ≤ length i)
  pub entry_ahead : (s : Form) (i : List ℕ) (b : ℕ) (m : Mark) (k : Option L) (c : ℕ) (n : Mark) → w.entry s i b m k c n → b ≤ c
  pub ends_ahead : (s : Form) (i : List ℕ) (b : ℕ) (m : Mark) (e : ℕ) → b ≤ length i → w.ends s i b m e → (b ≤ e) × (e ≤ length i)
  pub nearer : (s : Form) (i : List ℕ) (b : ℕ) (m : Mark) (k : Option L) (c e : ℕ) (n : Mark) → w.entry s i b m k c n → IsPassed i c e
      → w.left i e n < w.left i b m
  -- after an entry another one takes a byte
  pub next_entry : (s : Form) (i : List ℕ) (b : ℕ) (m : Mark) (k : Option L) (c : ℕ) (n : Mark) (f : ℕ) (l : Option L) (g : ℕ) (o : Mark) → w.entry s i b m k c n
      → w.entry s i f n l g o → f < length i
  pub entry_falls : (s : Form) (i : List ℕ) (b : ℕ) (m : Mark) (k : Option L) (c : ℕ) (n : Mark) → w.entry s i b m k c n → w.left i c n ≤ w.left i b m
  pub left_falls : (i : List ℕ) (a e : ℕ) (m : Mark) → a < e → e ≤ length i → w.left i e m < w.left i a m

-- the bytes alone bound how many containers are open
pub record BoundsOpeners {L : Type 0} (w : Frames L) : Type 0 where
  pub over_is_empty : (i : List ℕ) (a e : ℕ) → w.is_over i a e → 0 < length i → ⊥
  pub over_takes_none : (i : List ℕ) (a e : ℕ) → w.is_over i a e → w.openers (drop e i) ≤ w.openers (drop a i)
  pub null_takes_none : (i : List ℕ) (d a e : ℕ) → w.null i d a e → w.openers (drop e i) ≤ w.openers (drop a i)
  pub scalar_takes_none : (i : List ℕ) (d : ℕ) (x : L) (a e : ℕ) → w.scalar i d x a e → w.openers (drop e i) ≤ w.openers (drop a i)
  pub opening_adds : (s : Form) (i : List ℕ) (a b : ℕ) (m : Mark) → w.opens s i a b m → suc (w.openers (drop b i)) ≤ w.openers (drop a i)
  pub entry_takes_none : (s : Form) (i : List ℕ) (b : ℕ) (m : Mark) (k : Option L) (c : ℕ) (n : Mark) → w.entry s i b m k c n
      → w.openers (drop c i) ≤ w.openers (drop b i)
  pub end_takes_one : (s : Form) (i : List ℕ) (b : ℕ) (m : Mark) (e : ℕ) → w.ends s i b m e → w.openers (drop e i) ≤ suc (w.openers (drop b i))

-- What a scalar that lies somewhere means as a kind is a value of it, with the limits kept: where they are lifted, what is
-- too wide or isn't carried means a null. What it means as a document is one without parts. And the text of a key is in UTF-8.
pub record RulesFit {L : Type 0} (w : Frames L) (r : Rules L) : Type 0 where
  pub says_fits : (i : List ℕ) (d : ℕ) (x : L) (a e : ℕ) → w.scalar i d x a e
      → (t : Table) (p : Place) (s : Scalar) (v : Value) → kind_of t p ≡ scalar s
      → r.limits ≡ kept
      → settled r.limits null_element (r.says s p.time x) ≡ Some v → Fits t p v
  pub document_fits : (i : List ℕ) (d : ℕ) (x : L) (a e : ℕ) → w.scalar i d x a e
      → (says : L → Answer (Document Number)) (v : Document Number) → r.documents ≡ Some says → says x ≡ means v
      → DocumentFits (whole_document v) × (document_nesting v ≡ 1)
  pub key_fits : (i : List ℕ) (b : ℕ) (m : Mark) (key : L) (c : ℕ) (n : Mark) (text : List ℕ)
      → w.entry as_object i b m (Some key) c n → r.text_of key ≡ Some text → IsUtf8 text
