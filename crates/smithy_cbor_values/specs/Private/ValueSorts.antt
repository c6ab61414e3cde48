-- What an item can be by its first byte: a null, a scalar or a container.
use Rattle.std.specs.Prelude.{◌≡◌, ◌<◌, ◌/◌, ◌==◌, ℕ, length, drop, List, [], ◌∷◌, ◌++◌, slice_range, Bool, true, false, cond, if◌then◌else◌, refl}
use Rattle.std.proofs.Common.{sym, ◌∙◌, ap, arith}
use Rattle.std.proofs.lemmas.Bool.Decides.{nat_tests}
use Rattle.cbor_item.specs.Head.{HeadRead, BeginsWithHead}
use Rattle.cbor_item.proofs.HeadLemmas.{head_is_only}
use Rattle.cbor_item.proofs.FirstByte.{item_major, major_of, not_empty}
use Rattle.cbor_item.specs.Item.{Item, unsigned, negative, byte_string, text_string, array, map, tag, simple, float}
use Rattle.cbor_item.specs.WellFormed.{IsEncodingOf, IsItemAt}
use Rattle.smithy_cbor.specs.Scalar.{null_value}
use Rattle.smithy_cbor_values.specs.Meaning.{node_of}
use Rattle.smithy_cbor_values.specs.Standing.{begins_with, null_byte, major_in}
use Rattle.smithy_cbor_values.specs.Private.ItemPlaces.{item_front}
use Rattle.smithy_cbor_values.specs.Private.FirstBytes.{is_null, null_begins_item}
use Rattle.smithy_wire.specs.Node.{Form, as_array, as_object, null_node, leaf}
use Rattle.smithy_wire.specs.Wire.{Sort, a_null, a_scalar, a_container, no_value}

abbrev byte_sort : ℕ → Sort
byte_sort b = if b / 32 == 4 then a_container as_array else if b / 32 == 5 then a_container as_object else a_scalar

abbrev pub cbor_sort : List ℕ → Sort
cbor_sort [] = no_value
cbor_sort (b ∷ rest) = if b == null_byte then a_null else byte_sort b

pub others_begin : (s : List ℕ) → (cbor_sort s ≡ a_null → ⊥) → begins_with null_byte s ≡ false
others_begin [] h = refl
others_begin (b ∷ rest) h = by (b == null_byte) h
  where
    by : (n : Bool) → (cond n a_null (byte_sort b) ≡ a_null → ⊥) → n ≡ false
    by true h = absurd (h refl)
    by false h = refl

pub null_sort : (s : List ℕ) → begins_with null_byte s ≡ true → cbor_sort s ≡ a_null
null_sort [] h = cc
null_sort (b ∷ rest) h = rw h refl

-- an item that is neither null nor a container
scalar_major : (x : Item) → node_of x ≡ leaf x → (major_of x ≡ 4 → ⊥) × (major_of x ≡ 5 → ⊥) × (is_null x ≡ false)
unfolding major_of
scalar_major (unsigned n) h = (λ e. omega (arith, e), λ e. omega (arith, e), refl)
scalar_major (negative n) h = (λ e. omega (arith, e), λ e. omega (arith, e), refl)
scalar_major (byte_string extent chunks) h = (λ e. omega (arith, e), λ e. omega (arith, e), refl)
scalar_major (text_string extent chunks) h = (λ e. omega (arith, e), λ e. omega (arith, e), refl)
scalar_major (array extent xs) h = cc
scalar_major (map extent ps) h = cc
scalar_major (tag n x) h = (λ e. omega (arith, e), λ e. omega (arith, e), refl)
scalar_major (simple n) h = (λ e. omega (arith, e), λ e. omega (arith, e), real (n == null_value) h)
  where
    real : (b : Bool) → cond b null_node (leaf (simple n)) ≡ leaf (simple n) → b ≡ false
    real true h = cc
    real false h = refl
scalar_major (float digits) h = (λ e. omega (arith, e), λ e. omega (arith, e), refl)

scalar_first : (b major : ℕ) → b / 32 ≡ major → (major ≡ 4 → ⊥) → (major ≡ 5 → ⊥) → (b == null_byte) ≡ false → cbor_sort (b ∷ []) ≡ a_scalar
scalar_first b major h four five null =
    let no_array : (b / 32 == 4) ≡ false = grind (arith, nat_tests) in
    let no_map : (b / 32 == 5) ≡ false = grind (arith, nat_tests) in
    rw (null, no_array, no_map) refl

scalar_bytes : (x : Item) (s r : List ℕ) → IsEncodingOf x s → node_of x ≡ leaf x → begins_with null_byte (s ++ r) ≡ false → cbor_sort (s ++ r) ≡ a_scalar
scalar_bytes x [] r h is null = absurd (not_empty x h)
scalar_bytes x (b ∷ s) r h is null =
    let m = scalar_major x is in scalar_first b (major_of x) (item_major x b s h) m.0 m.1 null

pub scalar_sort : (i : List ℕ) (x : Item) (a e : ℕ) → node_of x ≡ leaf x → IsItemAt x i a e → cbor_sort (drop a i) ≡ a_scalar
scalar_sort i x a e is at =
    let front = item_front x i a e at in
    let null : begins_with null_byte (slice_range i a e ++ drop e i) ≡ false =
    sym (ap (begins_with null_byte) front) ∙ (null_begins_item x i a e at ∙ (scalar_major x is).2) in
    ap cbor_sort front ∙ scalar_bytes x (slice_range i a e) (drop e i) at.1 is null

array_first : (b : ℕ) → 4 ≡ b / 32 → cbor_sort (b ∷ []) ≡ a_container as_array
array_first b h =
    let null : (b == null_byte) ≡ false = grind (arith, nat_tests) in
    let four : (b / 32 == 4) ≡ true = grind (arith, nat_tests) in
    rw (null, four) refl

map_first : (b : ℕ) → 5 ≡ b / 32 → cbor_sort (b ∷ []) ≡ a_container as_object
map_first b h =
    let null : (b == null_byte) ≡ false = grind (arith, nat_tests) in
    let four : (b / 32 == 4) ≡ false = grind (arith, nat_tests) in
    let five : (b / 32 == 5) ≡ true = grind (arith, nat_tests) in
    rw (null, four, five) refl

pub head_sort : (f : Form) (s : List ℕ) (h : HeadRead) → h.major ≡ major_in f → BeginsWithHead s h → 0 < length s → cbor_sort s ≡ a_container f
head_sort f [] h is begins some = absurd (omega (arith, some))
head_sort as_array (b ∷ s) h is begins some = array_first b (sym is ∙ ap (λ (k : HeadRead). k.major) (head_is_only b s h begins))
head_sort as_object (b ∷ s) h is begins some = map_first b (sym is ∙ ap (λ (k : HeadRead). k.major) (head_is_only b s h begins))
