-- What stands behind the head of an integer, a byte string, a float and a tag.
use Rattle.std.proofs.Common.{◌≡◌, inl, inr, ℕ, suc, zero, ℤ, ◌+◌, ◌-◌, ◌≤◌, ◌<◌, List, [], ◌∷◌, length, take, drop, sym, ◌∙◌, ap, subst, arith, refl, Some, None, Option, length-drop, length-take}
use Rattle.std.specs.Prelude.{slice_range, All, IfOk, IfErr, MatchOption, Result, Ok, Err, FitsSigned}
use Rattle.std.specs.Option.{SomeIff}
use Rattle.std.specs.Int.{byte_at, bytes_high_first, to_be_bytes, w16, w32, w64, w128}
use Rattle.std.proofs.lemmas.Bool.{cases_lt}
use Rattle.std.proofs.lemmas.List.{take-append-drop}
use Rattle.cbor_item.specs.declared.error.ItemError.{ItemError}
use Rattle.cbor_item.specs.declared.error.ItemError.TheVariants.{Truncated}
use Rattle.cbor_item.specs.Head.{HeadRead, BeginsWithHead, IsHead, head_bytes, ArgumentWidth, immediate, one, two, four, eight}
use Rattle.cbor_item.specs.Item.{Item, unsigned, negative, definite, byte_string, text_string, array, map, tag, simple, float}
use Rattle.cbor_item.specs.WellFormed.{IsItemAt, IsEncodingOf}
use Rattle.cbor_item.proofs.FirstByte.{not_empty}
use Rattle.cbor_item.proofs.Ending.{one_chunk}
use Rattle.cbor_item.proofs.HeadLemmas.{head_is_some}
use Rattle.cbor_item.proofs.JoinLemmas.{range_parts}
use Rattle.cbor_item.proofs.StringLemmas.{head_is}
use Rattle.smithy_cbor.specs.Scalar.{integer_of, big_endian, bignum, big_integer_of}
use Rattle.smithy_cbor.specs.Reading.{IsIntegerAt, IsBigIntegerAt, IsDateAt, OpensAt, OpensBignum, IsBytesFault, IsNoBigInteger}
use Rattle.smithy_cbor.specs.Private.HeadNumber.{number_of}
use Rattle.smithy_cbor.proofs.HeadLemmas.{integer_there}

-- an integer
pub integer_read : (h : HeadRead) (major n : ℕ) (input : List ℕ) (at end : ℕ) (z : ℤ) → major ≤ 1 → at ≤ length input
    → BeginsWithHead (drop at input) h → h.major ≡ major → h.argument ≡ Some n → end ≡ at + h.length → z ≡ number_of major n → IsIntegerAt z input at end
integer_read h major n input at end z type inside begins is argument ends value =
    let i = integer_there major n h.length input at type inside (head_is h major (Some n) (drop at input) begins argument is) in
    (i.0, subst (λ (k : ℕ). IsItemAt i.0 input at k) (sym ends) i.1, i.2 ∙ ap Some (sym value))

-- an item doesn't end before it begins
pub item_ordered : (i : Item) (input : List ℕ) (at end : ℕ) → IsItemAt i input at end → at ≤ end
item_ordered i input at end (within, encoded) = elim (cases_lt end at) [
  | inl before ↦ absurd (not_empty i (subst (λ (l : List ℕ). IsEncodingOf i l) (nothing before) encoded))
  | inr ordered ↦ ordered
]
  where
    nothing : end < at → slice_range input at end ≡ []
    nothing before = let none : end - at ≡ 0 = omega arith in ap (λ n. take n (drop at input)) none

-- an item under a tag
pub tag_there : (number : ℕ) (i : Item) (input : List ℕ) (at body end : ℕ) → OpensAt 6 (Some number) input at body → IsItemAt i input body end
    → IsItemAt (tag number i) input at end
tag_there number i input at body end (longer, (fits, (low, spelled, long))) (within, encoded) =
    let ordered : body ≤ end = item_ordered i input body end (within, encoded) in
    (within, (slice_range input body end, encoded, (slice_range input at body, spelled, range_parts input at body end (omega arith) ordered within)))

-- a definite byte string whose bytes are there
pub bytes_there : (input : List ℕ) (at len announced start : ℕ) → at ≤ length input
    → BeginsWithHead (drop at input) (record { major = 2; argument = Some announced; length = len }) → start ≡ at + len → start + announced ≤ length input
    → IsItemAt (byte_string definite (slice_range input start (start + announced) ∷ [])) input at (start + announced)
bytes_there input at len announced start inside (fits, (low, spelled, long)) starts within =
    let chunk = slice_range input start (start + announced) in
    let size : length chunk ≡ announced = omega (arith, length-take ((start + announced) - start) (drop start input), length-drop start input) in
    let front : take len (drop at input) ≡ slice_range input at start = let long : len ≡ start - at = omega arith in ap (λ k. take k (drop at input)) long in
    let head : IsHead 2 (length chunk) (slice_range input at start) = subst (λ (n : ℕ). IsHead 2 n (slice_range input at start)) (sym size) (subst (IsHead 2 announced) front spelled) in
    (within, (refl, one_chunk 2 chunk (slice_range input at (start + announced)) (slice_range input at start, head, range_parts input at start (start + announced) (omega arith) (omega arith) within)))

-- a definite byte string that the end cuts off
pub bytes_cut : (input : List ℕ) (at len announced start : ℕ) → at ≤ length input
    → BeginsWithHead (drop at input) (record { major = 2; argument = Some announced; length = len }) → start ≡ at + len → length input - start < announced
    → IsBytesFault input at Truncated
bytes_cut input at len announced start inside (fits, (low, spelled, long)) starts short =
    let bytes = drop at input in
    inr (refl, (announced, drop len bytes, (take len bytes, spelled, sym (take-append-drop len bytes)), omega (arith, length-drop len bytes, length-drop at input)))

-- bytes of a number are below 256
byte_small : (i n : ℕ) → byte_at i n < 256
byte_small zero n = omega arith
byte_small (suc i) n = omega arith

bytes_small : (k n : ℕ) → All (λ b. b < 256) (bytes_high_first k n)
bytes_small zero n i d inside = absurd (omega arith)
bytes_small (suc k) n zero d inside = byte_small k n
bytes_small (suc k) n (suc i) d inside = bytes_small k n i d (omega arith)

-- a float
pub float_there : (h : HeadRead) (input : List ℕ) (at end : ℕ) → at ≤ length input → BeginsWithHead (drop at input) h → h.major ≡ 7 → 2 < h.length
    → end ≡ at + h.length → (digits : List ℕ) × IsItemAt (float digits) input at end
float_there h input at end inside begins type long ends = go h.argument h.length (head_is h 7 h.argument (drop at input) begins refl type) long ends
  where
    go : (argument : Option ℕ) (len : ℕ) → BeginsWithHead (drop at input) (record { major = 7; argument = argument; length = len }) → 2 < len
        → end ≡ at + len → (digits : List ℕ) × IsItemAt (float digits) input at end
    go None len (fits, (may, e)) long ends = absurd (omega (arith, ap length e, length-take len (drop at input)))
    go (Some n) len (fits, (low, spelled, short)) long ends = by spelled.width spelled.spelled
      where
        within : end ≤ length input
        within = omega (arith, length-drop at input)

        range : take len (drop at input) ≡ slice_range input at end
        range = let size : len ≡ end - at = omega arith in ap (λ k. take k (drop at input)) size

        size : length (take len (drop at input)) ≡ len
        size = omega (arith, length-take len (drop at input))

        by : (w : ArgumentWidth) → take len (drop at input) ≡ head_bytes 7 w n → (digits : List ℕ) × IsItemAt (float digits) input at end
        by immediate e = absurd (omega (arith, ap length e, size))
        by one e = absurd (omega (arith, ap length e, size))
        by two e = (to_be_bytes w16 n, (within, (bytes_small 2 n, inl (refl, sym range ∙ e))))
        by four e = (to_be_bytes w32 n, (within, (bytes_small 4 n, inr (inl (refl, sym range ∙ e)))))
        by eight e = (to_be_bytes w64 n, (within, (bytes_small 8 n, inr (inr (refl, sym range ∙ e)))))

-- what stands under tag 1
pub date_there : (input : List ℕ) (at body end : ℕ) (s : Option ℤ) → OpensAt 6 (Some 1) input at body
    → MatchOption s ((digits : List ℕ) × IsItemAt (float digits) input body end) (λ seconds. IsIntegerAt seconds input body end)
    → IsDateAt s input at end
date_there input at body end None opens (digits, there) = (digits, tag_there 1 (float digits) input at body end opens there)
date_there input at body end (Some seconds) opens (i, there, is) = (tag 1 i, tag_there 1 i input at body end opens there, is)

-- an integer is a big integer
integer_is_big : (i : Item) (z : ℤ) → integer_of i ≡ Some z → big_integer_of i ≡ Some z
integer_is_big (unsigned n) z is = is
integer_is_big (negative n) z is = is
integer_is_big (byte_string extent chunks) z is = absurd (cc)
integer_is_big (text_string extent chunks) z is = absurd (cc)
integer_is_big (array extent is') z is = absurd (cc)
integer_is_big (map extent ps) z is = absurd (cc)
integer_is_big (tag number i) z is = absurd (cc)
integer_is_big (simple n) z is = absurd (cc)
integer_is_big (float digits) z is = absurd (cc)

pub big_integer_there : (input : List ℕ) (at end : ℕ) (z : ℤ) → IsIntegerAt z input at end → IsBigIntegerAt z input at end
big_integer_there input at end z (i, there, is) = (i, there, integer_is_big i z is)

-- the head of a type and an argument
pub head_opens : (h : HeadRead) (major : ℕ) (argument : Option ℕ) (input : List ℕ) (at end : ℕ) → BeginsWithHead (drop at input) h → h.major ≡ major
    → h.argument ≡ argument → end ≡ at + h.length → OpensAt major argument input at end
head_opens h major argument input at end begins type is ends =
    let head = head_is h major argument (drop at input) begins is type in
    let some = head_is_some (drop at input) h begins in
    let size : h.length ≡ end - at = omega arith in
    (omega arith, subst (λ (k : ℕ). BeginsWithHead (drop at input) (record { major = major; argument = argument; length = k })) size head)

-- a bignum, by its tag and what its bytes say
pub bignum_there : (number major : ℕ) (input : List ℕ) (at body : ℕ) (r : Result (Option ℤ × ℕ) ItemError) → OpensAt 6 (Some number) input at body
    → ((n : ℕ) → bignum number n ≡ Some (number_of major n))
    → IfOk r (λ r. (chunk : List ℕ) × IsItemAt (byte_string definite (chunk ∷ [])) input body r.1
    × SomeIff r.0 (FitsSigned w128 (number_of major (big_endian chunk))) (number_of major (big_endian chunk)))
    → IfOk r (λ r. (z : ℤ) × IsBigIntegerAt z input at r.1 × SomeIff r.0 (FitsSigned w128 z) z)
bignum_there number major input at body (Ok (value, end)) opens says (chunk, there, iff) =
    let i = byte_string definite (chunk ∷ []) in
    (number_of major (big_endian chunk), (tag number i, tag_there number i input at body end opens there, says (big_endian chunk)), iff)
bignum_there number major input at body (Err e) opens says found = tt

-- what stands behind the tag of a bignum has a fault
pub bignum_fault : {A : Type 0} (input : List ℕ) (at body : ℕ) (r : Result A ItemError) → OpensBignum input at body → IfErr r (IsBytesFault input body)
    → IfErr r (IsNoBigInteger input at)
bignum_fault input at body (Ok x) opens fault = tt
bignum_fault input at body (Err e) opens fault = inr (body, opens, fault)
