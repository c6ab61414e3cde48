-- What the head at a place tells of an integer there.
use Rattle.std.proofs.Common.{◌≡◌, ◌≤◌, ◌⊎◌, ◌/◌, ◌++◌, ◌∷◌, ℕ, ℤ, List, [], drop, get_or, Some, sym, ◌∙◌, ap, inl, inr, arith}
use Rattle.std.specs.Prelude.{slice_range}
use Rattle.cbor_item.specs.declared.error.ItemError.TheVariants.{Truncated, NotWellFormed}
use Rattle.cbor_item.specs.Head.{ArgumentWidth, immediate, one, two, four, eight, head_bytes, IsHead, IsCutHead, IsBrokenHead}
use Rattle.cbor_item.specs.Item.{Item, unsigned, negative, byte_string, text_string, array, map, tag, simple, float}
use Rattle.cbor_item.specs.WellFormed.{IsItemAt}
use Rattle.cbor_item.proofs.FirstByte.{head_begins}
use Rattle.smithy_cbor.specs.Scalar.{integer_of}
use Rattle.smithy_cbor.specs.Reading.{IsIntegerAt, IsInteger}
use Rattle.smithy_cbor_values.specs.Private.ItemPlaces.{one_item, item_front}
use Rattle.smithy_cbor_values.proofs.HeadFaults.{no_wanted_head}
use Rattle.smithy_cbor_values.proofs.ScalarReads.{integer_head}

no_empty_head : (major n : ℕ) (w : ArgumentWidth) → [] ≡ head_bytes major w n → ⊥
no_empty_head major n immediate e = cc
no_empty_head major n one e = cc
no_empty_head major n two e = cc
no_empty_head major n four e = cc
no_empty_head major n eight e = cc

-- the first byte of a head tells its major type
first_of_head : (major n : ℕ) (bytes more : List ℕ) → IsHead major n bytes → get_or (bytes ++ more) 0 0 / 32 ≡ major
first_of_head major n [] more h = absurd (no_empty_head major n h.width h.spelled)
first_of_head major n (b ∷ rest) more h = (head_begins major n h.width b rest h.fits h.spelled).0

-- an integer begins with major type 0 or 1
pub integer_first : (i : Item) (z : ℤ) (input : List ℕ) (at e : ℕ) → integer_of i ≡ Some z → IsItemAt i input at e → get_or (drop at input) 0 0 / 32 ≤ 1
integer_first (unsigned n) z input at e is there =
    let first : get_or (drop at input) 0 0 / 32 ≡ 0 =
    ap (λ l. get_or l 0 0 / 32) (item_front (unsigned n) input at e there) ∙ first_of_head 0 n (slice_range input at e) (drop e input) there.1 in omega arith
integer_first (negative n) z input at e is there =
    let first : get_or (drop at input) 0 0 / 32 ≡ 1 =
    ap (λ l. get_or l 0 0 / 32) (item_front (negative n) input at e there) ∙ first_of_head 1 n (slice_range input at e) (drop e input) there.1 in omega arith
integer_first (byte_string extent chunks) z input at e is there = absurd (cc)
integer_first (text_string extent chunks) z input at e is there = absurd (cc)
integer_first (array extent es) z input at e is there = absurd (cc)
integer_first (map extent ps) z input at e is there = absurd (cc)
integer_first (tag n i) z input at e is there = absurd (cc)
integer_first (simple n) z input at e is there = absurd (cc)
integer_first (float digits) z input at e is there = absurd (cc)

-- where the bytes end before a head does, or begin none, no integer stands
pub no_integer_head : (input : List ℕ) (at : ℕ) → IsCutHead (drop at input) ⊎ IsBrokenHead (drop at input) → (z : ℤ) (e : ℕ) → IsIntegerAt z input at e → ⊥
no_integer_head input at (inl cut) z e (i, there, is) =
    let head = integer_head i z input at e is there in no_wanted_head IsInteger input at Truncated head.0 cut head.1 head.2
no_integer_head input at (inr broken) z e (i, there, is) =
    let head = integer_head i z input at e is there in no_wanted_head IsInteger input at NotWellFormed head.0 broken head.1 head.2

-- the integer at a place is determined
pub one_integer : (input : List ℕ) (at : ℕ) (y z : ℤ) (d e : ℕ) → IsIntegerAt y input at d → IsIntegerAt z input at e → y ≡ z
one_integer input at y z d e (i, here, says) (j, there, is) =
    let same = (one_item i j input at d e here there).0 in
    let numbers : Some y ≡ Some z = sym says ∙ ap integer_of same ∙ is in
    cc
