-- What lies in a body of CBOR, by what the calls of the crate of values say of a place.
use Rattle.std.proofs.Common.{◌≡◌, ◌≤◌, ◌<◌, ◌+◌, ◌-◌, ◌^◌, ℕ, ℤ, suc, length, drop, List, Bool, true, false, ◌&&◌, Option, Some, None, refl, ◌∙◌, sym, ap, subst, arith}
use Rattle.std.specs.Prelude.{option_map, MatchOption, IfSome, IfNone, is_some, Result, Ok, Err, IfOk}
use Rattle.std.specs.Option.{option_map_or}
use Rattle.std.proofs.lemmas.Bool.{and_parts}
use Rattle.cbor_item.specs.Item.{Item}
use Rattle.cbor_item.specs.WellFormed.{IsEncodingOf, IsItemAt}
use Rattle.smithy_declarations.specs.declared.shape_type.Scalar.{Scalar}
use Rattle.smithy_declarations.specs.declared.shape_type.Scalar.TheVariants as scalars
use Rattle.smithy_declarations.specs.declared.shape_type.TimestampFormat.{TimestampFormat}
use Rattle.std.specs.declared.alloc.AllocError.{AllocError}
use Rattle.smithy_declarations.specs.Value.{ScalarValue, Value, whole, text, bytes, scalar_value}
use Rattle.smithy_schema.specs.Reading.{Mark}
use Rattle.smithy_shapes.specs.Lemmas.Options.{same_some}
use Rattle.smithy_shapes.proofs.ScalarLemmas.{fits_more}
use Rattle.smithy_cbor.specs.Scalar.{boolean_item, integer_of, text_of}
use Rattle.smithy_cbor.specs.Reading.{OpensAt}
use Rattle.smithy_cbor_values.specs.Meaning.{node_of}
use Rattle.smithy_cbor_values.specs.Scalar.{boolean_of, whole_of, blob_of, says}
use Rattle.smithy_cbor_values.specs.Standing.{null_byte, begins_with, mark_with, HasEntry, IsOver, Entry, IsScalarAt, cbor_frames}
use Rattle.smithy_cbor_values.specs.Private.ContainerBytes.{same_opens_at, inside_within}
use Rattle.smithy_cbor_values.specs.Private.Entries.{same_entry, same_over, entry_or_over}
use Rattle.smithy_cbor_values.specs.Private.Fits.{boolean_is, whole_is, blob_is}
use Rattle.smithy_cbor_values.specs.Private.ItemPlaces.{item_ahead, one_item}
use Rattle.smithy_cbor_values.specs.Private.NextInContainer.{IsEntryOrEnd}
use Rattle.smithy_cbor_values.specs.Private.NodePlaces.{item_lies, lies_item, none_missing}
use Rattle.smithy_cbor_values.specs.Private.ScalarAtPlace.{IsAt, IsWholeAt, HasTextAt, IsBlobAt, MeansAt, ExceedsAt, UncarriedAt, NothingAt, FindsWithin}
use Rattle.smithy_cbor_values.specs.Private.Skipping.{SkipsTo}
use Rattle.smithy_cbor_values.specs.Private.Wire.{cbor_is_wire}
use Rattle.smithy_cbor_values.proofs.SpellingLemmas.{encoding_stands}
use Rattle.smithy_wire.specs.declared.found.Found.{Found}
use Rattle.smithy_wire.specs.declared.found.Found.TheVariants as finds
use Rattle.smithy_wire.specs.declared.walk.Mark.{Mark as HeldMark}
use Rattle.smithy_wire.specs.Finding.{MatchFound}
use Rattle.smithy_wire.specs.Frames.{Lies, NodesLie}
use Rattle.smithy_wire.specs.Lemmas.Nodes.{sort_of, lies_sort, lies_begins, lies_ahead}
use Rattle.smithy_wire.specs.Narrowing.{IsNarrowed, IsWider}
use Rattle.smithy_wire.specs.Node.{Form, as_array, as_object, Node, null_node, leaf, container, missing, Nodes, no_nodes, node, all_pass, nodes_pass}
use Rattle.smithy_wire.specs.Rules.{answer_of}
use Rattle.smithy_wire.specs.Walking.{mark_of}
use Rattle.smithy_wire.proofs.ScalarReads.{narrow_found, narrow_none}
use Rattle.smithy_wire.specs.Wire.{IsWire, a_container, no_value}
use Rattle.smithy_lint.specs.declared.body.Beginning.TheVariants as begun
use Rattle.smithy_lint.specs.declared.body.Next.TheVariants as next
use Rattle.smithy_lint.specs.declared.finding.Kind.{Kind}
use Rattle.smithy_lint.specs.declared.finding.Kind.TheVariants.{Mismatch, Wide, NotCarried}
use Rattle.smithy_lint.specs.Private.Bodies.{HasValue, HasRest, HasKey, Begins, BeginsAs, GoesOn, IsVerdict, Ends, verdict}
use Rattle.smithy_lint.specs.Private.CborBodies.{cbor_holding}
use Rattle.smithy_lint.specs.Private.CborVerdicts.{IsFinding}
use Rattle.smithy_lint.specs.Private.Verdicts.{unless, finding_of}

-- a key at a place
abbrev HasKeyOf : Item → List ℕ → ℕ → Type 0
HasKeyOf k input at = (e : ℕ) × IsItemAt k input at e

abbrev wire : IsWire (cbor_frames true)
wire = cbor_is_wire true

-- where nothing is missing in nodes, nothing is in the first, nor in the others
apart : (key : Option Item) (x : Node Item) (xs : Nodes Item) → nodes_pass (λ _. true) (node key x xs) ≡ true → (all_pass (λ _. true) x ≡ true) × (nodes_pass (λ _. true) xs ≡ true)
apart key x xs h =
    let both = and_parts (option_map_or (λ (y : Item). true) key true && all_pass (λ (y : Item). true) x) (nodes_pass (λ (y : Item). true) xs) h in
    ((and_parts (option_map_or (λ (y : Item). true) key true) (all_pass (λ (y : Item). true) x) both.0).1, both.1)

-- what isn't missing
not_missing : (x : Node Item) → all_pass (λ _. true) x ≡ true → sort_of x ≡ no_value → ⊥
not_missing null_node pass h = cc
not_missing (leaf x) pass h = cc
not_missing (container f xs) pass h = cc
not_missing missing pass h = cc

-- what lies at a place is in the input
ahead : (input : List ℕ) (depth : ℕ) (x : Node Item) (at e : ℕ) → (cbor_holding input).value depth x at e → (at < e) × (e ≤ length input)
ahead input depth x at e (lies, pass) = lies_ahead (cbor_frames true) wire input depth x at e lies (not_missing x pass)

pub value_within : (input : List ℕ) (depth at : ℕ) → HasValue (cbor_holding input) depth at → at ≤ length input
value_within input depth at (x, e, h) = let a = ahead input depth x at e h in omega (arith, a.0, a.1)

pub key_within : (input : List ℕ) (at : ℕ) → HasKey (cbor_holding input) at → at ≤ length input
key_within input at (k, key) = let a = item_ahead k input at key.0 key.1 in omega (arith, a, key.1.0)

-- ---- how a value begins

begins_otherwise : (b : Bool) → b ≡ true → b ≡ false → ⊥
begins_otherwise b h k = cc

-- with a null
pub begins_null : (input : List ℕ) (at : ℕ) → begins_with null_byte (drop at input) ≡ true → Begins (cbor_holding input) at (begun.Null (at + 1))
begins_null input at first depth null_node e (lies, pass) = let same : at + 1 ≡ e = omega (arith, lies.1) in ap begun.Null same
begins_null input at first depth (leaf x) e (lies, pass) =
    absurd (begins_otherwise _ first (lies_begins (cbor_frames true) wire input depth (leaf x) at e lies refl))
begins_null input at first depth (container f xs) e (lies, pass) =
    absurd (begins_otherwise _ first (lies_begins (cbor_frames true) wire input depth (container f xs) at e lies refl))
begins_null input at first depth missing e (lies, pass) = absurd (cc)

-- the inside of a container, by its head
inside_of : (input : List ℕ) (f : Form) (major : ℕ) (due other : Option ℕ) (at inside b : ℕ) (depth : ℕ) (xs : Nodes Item) (m : Mark) (e : ℕ) → OpensAt major due input at inside
    → OpensAt major other input at b → m ≡ mark_with other → NodesLie (cbor_frames true) f input depth xs b m e → NodesLie (cbor_frames true) f input depth xs inside (mark_with due) e
inside_of input f major due other at inside b depth xs m e opens opened is lie =
    let same = same_opens_at major other due input at b inside opened opens in
    let P : ℕ → Mark → Type 0 = λ c n. NodesLie (cbor_frames true) f input depth xs c n e in
    subst (λ (c : ℕ). P c (mark_with due)) same.0 (subst (P b) (is ∙ ap mark_with same.1) lie)

-- with an array
pub begins_array : (input : List ℕ) (at inside : ℕ) (due : Option ℕ) (m : HeldMark) → mark_of m ≡ mark_with due → OpensAt 4 due input at inside
    → Begins (cbor_holding input) at (begun.Array inside m)
begins_array input at inside due m is opens depth x e (lies, pass) =
    of x (sym (lies_sort (cbor_frames true) wire input depth x at e lies) ∙ wire.opens_sort as_array input at inside (mark_with due) (due, refl, opens)) lies pass
  where
    of : (x : Node Item) → sort_of x ≡ a_container as_array → Lies (cbor_frames true) input depth x at e → all_pass (λ _. true) x ≡ true
        → BeginsAs (cbor_holding input) depth x e (begun.Array inside m)
    of null_node sort lies pass = absurd (cc)
    of (leaf y) sort lies pass = absurd (cc)
    of (container as_array xs) sort (b, n, (other, mark, opened), lie, follows) pass = (
      inside,
      m,
      refl,
      (
        inside_within 4 due input at inside opens,
        subst (λ (k : Mark). NodesLie (cbor_frames true) as_array input (suc depth) xs inside k e) (sym is)
            (inside_of input as_array 4 due other at inside b (suc depth) xs n e opens opened mark lie),
        pass,
      ),
    )
    of (container as_object xs) sort lies pass = absurd (cc)
    of missing sort lies pass = absurd (cc)

-- with a map
pub begins_map : (input : List ℕ) (at inside : ℕ) (due : Option ℕ) (m : HeldMark) → mark_of m ≡ mark_with due → OpensAt 5 due input at inside
    → Begins (cbor_holding input) at (begun.Object inside m)
begins_map input at inside due m is opens depth x e (lies, pass) =
    of x (sym (lies_sort (cbor_frames true) wire input depth x at e lies) ∙ wire.opens_sort as_object input at inside (mark_with due) (due, refl, opens)) lies pass
  where
    of : (x : Node Item) → sort_of x ≡ a_container as_object → Lies (cbor_frames true) input depth x at e → all_pass (λ _. true) x ≡ true
        → BeginsAs (cbor_holding input) depth x e (begun.Object inside m)
    of null_node sort lies pass = absurd (cc)
    of (leaf y) sort lies pass = absurd (cc)
    of (container as_object xs) sort (b, n, (other, mark, opened), lie, follows) pass = (
      inside,
      m,
      refl,
      (
        inside_within 5 due input at inside opens,
        subst (λ (k : Mark). NodesLie (cbor_frames true) as_object input (suc depth) xs inside k e) (sym is)
            (inside_of input as_object 5 due other at inside b (suc depth) xs n e opens opened mark lie),
        pass,
      ),
    )
    of (container as_array xs) sort lies pass = absurd (cc)
    of missing sort lies pass = absurd (cc)

-- with anything else
pub begins_scalar : (input : List ℕ) (at : ℕ) → begins_with null_byte (drop at input) ≡ false → ((due : Option ℕ) (b : ℕ) → OpensAt 4 due input at b → ⊥)
    → ((due : Option ℕ) (b : ℕ) → OpensAt 5 due input at b → ⊥) → Begins (cbor_holding input) at begun.Scalar
begins_scalar input at other no_array no_map depth null_node e (lies, pass) = absurd (begins_otherwise _ lies.0 other)
begins_scalar input at other no_array no_map depth (leaf x) e (lies, pass) = refl
begins_scalar input at other no_array no_map depth (container as_array xs) e ((b, m, (due, is, opens), lie, follows), pass) = absurd (no_array due b opens)
begins_scalar input at other no_array no_map depth (container as_object xs) e ((b, m, (due, is, opens), lie, follows), pass) = absurd (no_map due b opens)
begins_scalar input at other no_array no_map depth missing e (lies, pass) = absurd (cc)

-- ---- how a container goes on

entry_next : (f : Form) (input : List ℕ) (at : ℕ) (m : Mark) (k : Option Item) (c : ℕ) (n : Mark) → Entry f input at m k c n → HasEntry input at m n
entry_next as_array input at m k c n h = h.2
entry_next as_object input at m k c n h = h.0

-- it ends
pub goes_to_end : (f : Form) (input : List ℕ) (depth at : ℕ) (m : HeldMark) (end : ℕ) → IsOver input at (mark_with m.due) end → GoesOn (cbor_holding input) f depth at m (next.End end)
goes_to_end f input depth at m end over no_nodes e (within, lie, pass) = ap next.End (same_over input at (mark_with m.due) end e over lie)
goes_to_end f input depth at m end over (node name x xs) e (within, (c, n, g, entry, lies, lie), pass) =
    absurd (entry_or_over input at (mark_with m.due) n end (entry_next f input at (mark_of m) name c n entry) over)

-- it neither ends nor goes on
pub goes_nowhere : (f : Form) (input : List ℕ) (depth at : ℕ) (m : HeldMark) → IsEntryOrEnd input at m.due None → HasRest (cbor_holding input) f depth at m → ⊥
goes_nowhere f input depth at m neither (no_nodes, e, (within, lie, pass)) = neither.1 e lie
goes_nowhere f input depth at m neither (node name x xs, e, (within, (c, n, g, entry, lies, lie), pass)) =
    neither.0 n (entry_next f input at (mark_of m) name c n entry)

-- one element further
pub goes_to_element : (input : List ℕ) (depth at : ℕ) (m n : HeldMark) (left : Option ℕ) → mark_of n ≡ mark_with left
    → HasEntry input at (mark_with m.due) (mark_with left) → GoesOn (cbor_holding input) as_array depth at m (next.Entry at at n)
goes_to_element input depth at m n left is entry no_nodes e (within, lie, pass) = absurd (entry_or_over input at (mark_with m.due) (mark_with left) e entry lie)
goes_to_element input depth at m n left is entry (node name x xs) e (within, (c, o, g, (none, place, another), lies, lie), pass) =
    let parts = apart name x xs pass in
    let same : o ≡ mark_of n = same_entry input at (mark_with m.due) o (mark_with left) another entry ∙ sym is in
    let there : Lies (cbor_frames true) input depth x at g = subst (λ (b : ℕ). Lies (cbor_frames true) input depth x b g) place lies in
    let up = ahead input depth x at g (there, parts.0) in (
      at,
      at,
      n,
      g,
      refl,
      tt,
      (there, parts.0),
      (up.1, subst (λ (k : Mark). NodesLie (cbor_frames true) as_array input depth xs g k e) same lie, parts.1),
      omega (arith, up.0, up.1),
    )

-- one entry further, whose key ends at its value
pub goes_to_entry : (input : List ℕ) (depth at : ℕ) (m n : HeldMark) (left : Option ℕ) (value : ℕ) → mark_of n ≡ mark_with left
    → HasEntry input at (mark_with m.due) (mark_with left) → SkipsTo input at 1 value → GoesOn (cbor_holding input) as_object depth at m (next.Entry at value n)
goes_to_entry input depth at m n left value is entry skips no_nodes e (within, lie, pass) = absurd (entry_or_over input at (mark_with m.due) (mark_with left) e entry lie)
goes_to_entry input depth at m n left value is entry skips (node name x xs) e (within, (c, o, g, (another, (k, key, named)), lies, lie), pass) =
    let parts = apart name x xs pass in
    let same : o ≡ mark_of n = same_entry input at (mark_with m.due) o (mark_with left) another entry ∙ sym is in
    let place : c ≡ value = (one_item k skips.found input at c value key skips.stands).1 in
    let there : Lies (cbor_frames true) input depth x value g = subst (λ (b : ℕ). Lies (cbor_frames true) input depth x b g) place lies in
    let up = ahead input depth x value g (there, parts.0) in
    let before = item_ahead k input at c key in
    rw named (
      at,
      value,
      n,
      g,
      refl,
      (c, key),
      (there, parts.0),
      (up.1, subst (λ (k : Mark). NodesLie (cbor_frames true) as_object input depth xs g k e) same lie, parts.1),
      omega (arith, before, place, up.0, up.1),
    )

-- where an entry comes, its key is skipped
pub key_skips : (input : List ℕ) (depth at : ℕ) (m : HeldMark) (left : Option ℕ) → HasEntry input at (mark_with m.due) (mark_with left) → HasRest (cbor_holding input) as_object depth at m
    → ((e : ℕ) → SkipsTo input at 1 e → ⊥) → ⊥
key_skips input depth at m left entry (no_nodes, e, (within, lie, pass)) none = entry_or_over input at (mark_with m.due) (mark_with left) e entry lie
key_skips input depth at m left entry (node name x xs, e, (within, (c, o, g, (another, (k, key, named)), lies, lie), pass)) none =
    none c (record { found = k; stands = key; follows = tt })

-- ---- where a value ends

pub ends_there : (input : List ℕ) (depth at end : ℕ) → SkipsTo input at depth end → Ends (cbor_holding input) depth at end
ends_there input depth at end skips x e (lies, pass) =
    let (y, there, follows, is) = lies_item true depth x input at e pass lies in
    (one_item skips.found y input at end e skips.stands there).1

pub ends_somewhere : (input : List ℕ) (depth at : ℕ) → HasValue (cbor_holding input) depth at → ((e : ℕ) → SkipsTo input at depth e → ⊥) → ⊥
ends_somewhere input depth at (x, e, (lies, pass)) none =
    let (y, there, follows, is) = lies_item true depth x input at e pass lies in
    none e (record { found = y; stands = there; follows = follows })

-- ---- the text of a key

pub key_text_there : (input : List ℕ) (at : ℕ) (t : List ℕ) (e : ℕ) → HasTextAt t input at e → (k : Item) → HasKeyOf k input at → text_of k ≡ Some t
key_text_there input at t e has k (f, key) = ap text_of (one_item k has.found input at f e key has.stands).0 ∙ has.is

pub no_key_text : (input : List ℕ) (at : ℕ) → ((t : List ℕ) (e : ℕ) → HasTextAt t input at e → ⊥) → (k : Item) → HasKeyOf k input at → text_of k ≡ None
no_key_text input at none k (f, key) = of (text_of k) refl
  where
    of : (o : Option (List ℕ)) → text_of k ≡ o → o ≡ None
    of None is = refl
    of (Some t) is = absurd (none t f (record { found = k; stands = key; is = is }))

-- ---- what is found in a scalar

pub boolean_found : (input : List ℕ) (at depth : ℕ) (found : Option (Bool × ℕ)) → IfSome found (λ r. IsAt (boolean_item r.0) input at depth r.1)
    → IfNone found ((b : Bool) (e : ℕ) → IsAt (boolean_item b) input at depth e → ⊥) → IsFinding scalars.Boolean input at depth (unless (is_some found))
boolean_found input at depth (Some (b, end)) here none x e (is_leaf, there, follows) =
    let same : x ≡ boolean_item b = (one_item x (boolean_item b) input at e end there here.0).0 in
    sym (ap (λ y. verdict (answer_of (boolean_of y))) same ∙ back b)
  where
    back : (b : Bool) → verdict (answer_of (boolean_of (boolean_item b))) ≡ None
    back true = refl
    back false = refl
boolean_found input at depth None here none x e (is_leaf, there, follows) = of (boolean_of x) refl
  where
    of : (o : Option Value) → boolean_of x ≡ o → Some Mismatch ≡ verdict (answer_of o)
    of None is = refl
    of (Some v) is = let (b, same, value) = boolean_is x v is in absurd (none b e (subst (λ (y : Item). IsItemAt y input at e) same there, follows))

-- an integer of so many bits
pub whole_found : (bits : ℕ) (input : List ℕ) (at depth : ℕ) (found : Option (ℤ × ℕ)) → IfSome found (λ r. IsWholeAt bits r.0 input at depth r.1)
    → IfNone found ((n : ℤ) (e : ℕ) → IsWholeAt bits n input at depth e → ⊥) → (x : Item) (e : ℕ) → IsScalarAt input depth x at e
    → unless (is_some found) ≡ verdict (answer_of (whole_of bits x))
whole_found bits input at depth (Some (n, end)) here none x e (is_leaf, there, follows) =
    let same : x ≡ here.found = (one_item x here.found input at e end there here.stands).0 in
    let is : whole_of bits here.found ≡ Some (scalar_value (whole n)) = rw (here.is, here.fits) refl in
    sym (ap (λ y. verdict (answer_of (whole_of bits y))) same ∙ ap (λ o. verdict (answer_of o)) is)
whole_found bits input at depth None here none x e (is_leaf, there, follows) = of (whole_of bits x) refl
  where
    of : (o : Option Value) → whole_of bits x ≡ o → Some Mismatch ≡ verdict (answer_of o)
    of None is = refl
    of (Some v) is =
        let (n, number, fits, value) = whole_is bits x v is in
        absurd (none n e (record { found = x; stands = there; is = number; fits = fits; follows = follows }))

-- the same in fewer bits than were read
pub narrow_verdict : (bits : ℕ) → 2 ^ (bits - 1) ≤ 2 ^ 63 → (input : List ℕ) (at depth : ℕ) (broad found : Option (ℤ × ℕ)) → IfSome broad (λ r. IsWholeAt 64 r.0 input at depth r.1)
    → IfNone broad ((n : ℤ) (e : ℕ) → IsWholeAt 64 n input at depth e → ⊥) → IfSome found (IsNarrowed bits broad) → IfNone found (IsWider bits broad) → (x : Item) (e : ℕ)
    → IsScalarAt input depth x at e → unless (is_some found) ≡ verdict (answer_of (whole_of bits x))
narrow_verdict bits fewer input at depth broad found here none narrow wider =
    let At : ℕ → ℤ → ℕ → Type 0 = λ bits n e. IsWholeAt bits n input at depth e in
    whole_found bits input at depth found
    (narrow_found At bits broad found (λ n e h fits. record { found = h.found; stands = h.stands; is = h.is; fits = fits; follows = h.follows }) here narrow)
    (narrow_none At bits broad found (λ n e h. (record { found = h.found; stands = h.stands; is = h.is; fits = fits_more bits 64 n fewer h.fits; follows = h.follows }, h.fits))
    same_number here none wider)
  where
    same_number : (n m : ℤ) (e f : ℕ) → IsWholeAt 64 n input at depth e → IsWholeAt 64 m input at depth f → n ≡ m
    same_number n m e f h k = same_some n m (sym h.is ∙ ap integer_of (one_item h.found k.found input at e f h.stands k.stands).0 ∙ k.is)

pub text_found : {A : Type 0} (text_in : A → List ℕ) (input : List ℕ) (at depth : ℕ) (found : Option (A × ℕ))
    → MatchOption found ((t : List ℕ) (e : ℕ) → HasTextAt t input at e → ⊥) (λ r. HasTextAt (text_in r.0) input at r.1)
    → IsFinding scalars.String input at depth (unless (is_some found))
text_found text_in input at depth (Some (t, end)) has x e (is_leaf, there, follows) =
    let same : x ≡ has.found = (one_item x has.found input at e end there has.stands).0 in
    sym (ap (λ y. verdict (says scalars.String None y)) same ∙ ap (λ o. verdict (answer_of (option_map (λ s. scalar_value (text s)) o))) has.is)
text_found text_in input at depth None none x e (is_leaf, there, follows) = of (text_of x) refl
  where
    of : (o : Option (List ℕ)) → text_of x ≡ o → Some Mismatch ≡ verdict (answer_of (option_map (λ s. scalar_value (text s)) o))
    of None is = refl
    of (Some s) is = absurd (none s e (record { found = x; stands = there; is = is }))

pub blob_found : {A : Type 0} (bytes_in : A → List ℕ) (input : List ℕ) (at depth : ℕ) (found : Option (A × ℕ))
    → MatchOption found ((blob : List ℕ) (e : ℕ) → IsBlobAt blob input at depth e → ⊥) (λ r. IsBlobAt (bytes_in r.0) input at depth r.1)
    → IsFinding scalars.Blob input at depth (unless (is_some found))
blob_found bytes_in input at depth (Some (blob, end)) has x e (is_leaf, there, follows) =
    let same : x ≡ has.found = (one_item x has.found input at e end there has.stands).0 in
    let is : blob_of has.found ≡ Some (bytes_in blob) = rw (has.is, has.bytes) refl in
    sym (ap (λ y. verdict (says scalars.Blob None y)) same ∙ ap (λ o. verdict (answer_of (option_map (λ b. scalar_value (bytes b)) o))) is)
blob_found bytes_in input at depth None none x e (is_leaf, there, follows) = of (option_map (λ b. scalar_value (bytes b)) (blob_of x)) refl
  where
    of : (o : Option Value) → option_map (λ b. scalar_value (bytes b)) (blob_of x) ≡ o → Some Mismatch ≡ verdict (answer_of o)
    of None is = refl
    of (Some v) is =
        let (b, has, small, value) = blob_is x v is in
        absurd (none b e (record { found = x; stands = there; is = has; bytes = small; follows = follows }))

-- of a kind that a limit can leave, or that isn't always carried
module _ (s : Scalar) (input : List ℕ) (at depth : ℕ) where
  means_found : (v : ScalarValue) (end : ℕ) → MeansAt s input at depth v end → IsFinding s input at depth None
  means_found v end means x e (is_leaf, there, follows) =
      let same : x ≡ means.found = (one_item x means.found input at e end there means.lies.1).0 in
      sym (ap (λ y. verdict (says s None y)) same ∙ ap verdict means.is)

  nothing_found : NothingAt s input at depth → IsFinding s input at depth (Some Mismatch)
  nothing_found none x e lies = sym (ap verdict (none x e lies))

  exceeds_found : ExceedsAt s input at depth → IsFinding s input at depth (Some Wide)
  exceeds_found exceeds x e (is_leaf, there, follows) =
      let same : x ≡ exceeds.found = (one_item x exceeds.found input at e exceeds.e there exceeds.lies.1).0 in
      sym (ap (λ y. verdict (says s None y)) same ∙ ap verdict exceeds.is)

  uncarried_found : UncarriedAt s input at depth → IsFinding s input at depth (Some NotCarried)
  uncarried_found other x e (is_leaf, there, follows) =
      let same : x ≡ other.found = (one_item x other.found input at e other.e there other.lies.1).0 in
      sym (ap (λ y. verdict (says s None y)) same ∙ ap verdict other.is)

  pub number_found : {A : Type 0} (value : A → ScalarValue) (found : Found (A × ℕ)) → FindsWithin s value input at depth found → IsFinding s input at depth (finding_of found Wide)
  number_found value (finds.Value r) means = means_found (value r.0) r.1 means
  number_found value finds.Nothing none = nothing_found none
  number_found value finds.Beyond exceeds = exceeds_found exceeds

  pub date_found : {A : Type 0} (value : A → ScalarValue) (found : Found (A × ℕ))
      → MatchFound found (λ r. MeansAt s input at depth (value r.0) r.1) (NothingAt s input at depth) (UncarriedAt s input at depth)
      → IsFinding s input at depth (finding_of found NotCarried)
  date_found value (finds.Value r) means = means_found (value r.0) r.1 means
  date_found value finds.Nothing none = nothing_found none
  date_found value finds.Beyond other = uncarried_found other

-- a verdict is what is found in the scalar that lies there
pub verdict_there : (s : Scalar) (time : Option TimestampFormat) (input : List ℕ) (at depth : ℕ) (r : Result (Option Kind) AllocError) → IfOk r (IsFinding s input at depth)
    → IfOk r (IsVerdict (cbor_holding input) depth at (says s time))
verdict_there s time input at depth (Ok found) finds = λ x e h. finds x e h.0 ∙ ap verdict (timeless s x)
  where
    timeless : (s : Scalar) (x : Item) → says s None x ≡ says s time x
    timeless scalars.Boolean x = refl
    timeless scalars.Byte x = refl
    timeless scalars.Short x = refl
    timeless scalars.Integer x = refl
    timeless scalars.Long x = refl
    timeless scalars.String x = refl
    timeless scalars.Blob x = refl
    timeless scalars.Timestamp x = refl
    timeless scalars.BigInteger x = refl
    timeless scalars.BigDecimal x = refl
verdict_there s time input at depth (Err e) finds = tt

-- ---- the root

-- the node of an item lies where its encoding is the whole body
pub root_lies : (input : List ℕ) (x : Item) → IsEncodingOf x input → (cbor_holding input).value 0 (node_of x) 0 (length input)
root_lies input x encoded = (item_lies true 0 x input 0 (length input) (encoding_stands x input encoded) refl, none_missing x)
