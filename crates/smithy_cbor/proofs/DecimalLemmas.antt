-- The array of a decimal fraction, from its parts.
use Rattle.std.proofs.Common.{◌≡◌, inl, inr, ℕ, ℤ, ◌-◌, ◌≤◌, List, [], ◌∷◌, ◌++◌, length, take, drop, sym, ◌∙◌, ap, arith, refl, Some, None, Option, length-drop, append-nil}
use Rattle.std.specs.Prelude.{slice_range, IfOk, IfErr, Result, Ok, Err, FitsSigned}
use Rattle.std.specs.Option.{SomeIff}
use Rattle.std.specs.Int.{w128}
use Rattle.cbor_item.specs.declared.error.ItemError.{ItemError}
use Rattle.cbor_item.specs.Head.{initial_byte}
use Rattle.cbor_item.specs.Item.{Item, definite, indefinite, array, item, no_items, tag}
use Rattle.cbor_item.specs.WellFormed.{break, IsItemAt, AreEncodingsOf}
use Rattle.cbor_item.proofs.JoinLemmas.{range_parts}
use Rattle.smithy_cbor.specs.Scalar.{big_integer_of, both}
use Rattle.smithy_cbor.specs.Reading.{OpensAt, AreParts, AreNoParts, IsNoPair, IsDecimalAt}
use Rattle.smithy_cbor.specs.Private.DecimalPlaces.{ArePartsUntilBreak, IsPairAt}
use Rattle.smithy_cbor.proofs.TaggedLemmas.{item_ordered, tag_there}

-- two items, one after another
two_encoded : (e m : Item) (input : List ℕ) (at next end : ℕ) → IsItemAt e input at next → IsItemAt m input next end
    → AreEncodingsOf (item e (item m no_items)) (slice_range input at end)
two_encoded e m input at next end first second =
    let a = slice_range input at next in
    let b = slice_range input next end in
    (a, b, first.1, (b, [], second.1, refl, sym (append-nil b)), range_parts input at next end (item_ordered e input at next first) (item_ordered m input next end second) second.0)

-- an array of two
pub pair_there : (exponent mantissa : ℤ) (input : List ℕ) (at body end : ℕ) → OpensAt 4 (Some 2) input at body → AreParts exponent mantissa input body end
    → IsPairAt exponent mantissa input at end
pair_there exponent mantissa input at body end (longer, (fits, (low, spelled, short))) (next, (e, first, is), (m, second, is')) =
    let inner = two_encoded e m input body next end first second in
    let ordered : body ≤ end = omega (arith, item_ordered e input body next first, item_ordered m input next end second) in
    let there : IsItemAt (array definite (item e (item m no_items))) input at end =
    (second.0, (slice_range input body end, inner, (slice_range input at body, spelled, range_parts input at body end (omega arith) ordered second.0))) in
    (definite, e, m, there, is, is')

-- an array whose two items a break ends
pub pair_until_break : (exponent mantissa : ℤ) (input : List ℕ) (at body end : ℕ) → OpensAt 4 None input at body → ArePartsUntilBreak exponent mantissa input body end
    → IsPairAt exponent mantissa input at end
pair_until_break exponent mantissa input at body end (longer, (fits, (may, opening))) (stop, (next, (e, first, is), (m, second, is')), (ends, closing)) =
    let inner = two_encoded e m input body next stop first second in
    let ordered : body ≤ stop = omega (arith, item_ordered e input body next first, item_ordered m input next stop second) in
    let within : end ≤ length input = omega (arith, ap length closing, length-drop stop input, length-drop end input) in
    let size : end - stop ≡ 1 = omega arith in
    let last : slice_range input stop end ≡ break ∷ [] = ap (λ n. take n (drop stop input)) size ∙ ap (take 1) closing in
    let split = range_parts input at body end (omega arith) (omega arith) within ∙ ap (λ l. slice_range input at body ++ l) (range_parts input body stop end ordered (omega arith) within) in
    let whole = split ∙ ap (λ l. l ++ (slice_range input body stop ++ slice_range input stop end)) opening ∙ ap (λ l. initial_byte 4 31 ∷ (slice_range input body stop ++ l)) last in
    (indefinite, e, m, (within, (slice_range input body stop, inner, whole)), is, is')

-- tag 4 over such an array
pub decimal_there : (exponent mantissa : ℤ) (input : List ℕ) (at body end : ℕ) → OpensAt 6 (Some 4) input at body → IsPairAt exponent mantissa input body end
    → IsDecimalAt exponent mantissa input at end
decimal_there exponent mantissa input at body end opens (extent, e, m, there, is, is') =
    let i = array extent (item e (item m no_items)) in
    (tag 4 i, tag_there 4 i input at body end opens there, ap (λ a. both a (big_integer_of m)) is ∙ ap (both (Some exponent)) is')

-- the same of what was read
pub pair_read : (input : List ℕ) (at body : ℕ) (r : Result (ℤ × Option ℤ × ℕ) ItemError) → OpensAt 4 (Some 2) input at body
    → IfOk r (λ r. (m : ℤ) × AreParts r.0 m input body r.2 × SomeIff r.1 (FitsSigned w128 m) m)
    → IfOk r (λ r. (m : ℤ) × IsPairAt r.0 m input at r.2 × SomeIff r.1 (FitsSigned w128 m) m)
pair_read input at body (Ok (exponent, mantissa, end)) opens (m, parts, fits) = (m, pair_there exponent m input at body end opens parts, fits)
pair_read input at body (Err e) opens found = tt

pub pair_read_until_break : (input : List ℕ) (at body : ℕ) (r : Result (ℤ × Option ℤ × ℕ) ItemError) → OpensAt 4 None input at body
    → IfOk r (λ r. (m : ℤ) × ArePartsUntilBreak r.0 m input body r.2 × SomeIff r.1 (FitsSigned w128 m) m)
    → IfOk r (λ r. (m : ℤ) × IsPairAt r.0 m input at r.2 × SomeIff r.1 (FitsSigned w128 m) m)
pair_read_until_break input at body (Ok (exponent, mantissa, end)) opens (m, parts, fits) = (m, pair_until_break exponent m input at body end opens parts, fits)
pair_read_until_break input at body (Err e) opens found = tt

-- what stands behind the head of an array of two has a fault
pub pair_fault : {A : Type 0} (input : List ℕ) (at body : ℕ) (r : Result A ItemError) → OpensAt 4 (Some 2) input at body → IfErr r (AreNoParts input body)
    → IfErr r (IsNoPair input at)
pair_fault input at body (Ok x) opens fault = tt
pair_fault input at body (Err e) opens fault = inr (inl (body, opens, fault))
