-- What one head tells of an integer, of a simple value and of a break.
use Rattle.std.proofs.Common.{◌≡◌, ℕ, suc, zero, ◌+◌, ◌-◌, ◌≤◌, List, [], ◌∷◌, length, take, drop, sym, ◌∙◌, ap, subst, arith, refl, Some, None, Option, slice_index, length-drop}
use Rattle.std.specs.Prelude.{slice_range}
use Rattle.std.proofs.lemmas.List.{drop-drop}
use Rattle.cbor_item.specs.Head.{HeadRead, BeginsWithHead, initial_byte, IsHead}
use Rattle.cbor_item.specs.Item.{Item, unsigned, negative}
use Rattle.cbor_item.specs.WellFormed.{break, IsItemAt}
use Rattle.smithy_cbor.specs.Scalar.{integer_of}
use Rattle.smithy_cbor.specs.Reading.{IsBreakHead}
use Rattle.smithy_cbor.specs.Private.HeadNumber.{number_of}

nothing_taken : (n : ℕ) → take {A = ℕ} n [] ≡ []
nothing_taken zero = refl
nothing_taken (suc n) = refl

-- one byte that is taken stands in front
first_taken : (bytes : List ℕ) (n b : ℕ) → take n bytes ≡ b ∷ [] → bytes ≡ b ∷ drop 1 bytes
first_taken [] n b e = let none = nothing_taken n in absurd (cc)
first_taken (c ∷ rest) zero b e = absurd (cc)
first_taken (c ∷ rest) (suc n) b e = let same : c ≡ b = ap (λ l. slice_index l 0) e in ap (λ x. x ∷ rest) same

-- a break
pub break_there : (input : List ℕ) (at : ℕ) (h : HeadRead) → BeginsWithHead (drop at input) h → IsBreakHead h → drop at input ≡ break ∷ drop (at + 1) input
break_there input at h begins is = go h.major h.argument h.length begins is.0 is.1
  where
    go : (major : ℕ) (argument : Option ℕ) (len : ℕ) → BeginsWithHead (drop at input) (record { major = major; argument = argument; length = len })
        → major ≡ 7 → argument ≡ None → drop at input ≡ break ∷ drop (at + 1) input
    go major (Some n) len begins type none = absurd (cc)
    go major None len (within, (may, e)) type none =
        let byte : initial_byte major 31 ≡ break = omega arith in
        first_taken (drop at input) len break (e ∙ ap (λ b. b ∷ []) byte) ∙ ap (λ l. break ∷ l) (drop-drop 1 at input)

-- an integer
pub integer_there : (major n len : ℕ) (input : List ℕ) (at : ℕ) → major ≤ 1 → at ≤ length input
    → BeginsWithHead (drop at input) (record { major = major; argument = Some n; length = len })
    → (i : Item) × IsItemAt i input at (at + len) × (integer_of i ≡ Some (number_of major n))
integer_there major n len input at type inside (fits, (low, spelled, long)) = go major type spelled
  where
    within : at + len ≤ length input
    within = omega (arith, length-drop at input)

    size : (at + len) - at ≡ len
    size = omega arith

    whole : (m : ℕ) → IsHead m n (take len (drop at input)) → IsHead m n (slice_range input at (at + len))
    whole m h = subst (λ (k : ℕ). IsHead m n (take k (drop at input))) (sym size) h

    go : (m : ℕ) → m ≤ 1 → IsHead m n (take len (drop at input)) → (i : Item) × IsItemAt i input at (at + len) × (integer_of i ≡ Some (number_of m n))
    go zero low h = (unsigned n, (within, whole 0 h), refl)
    go (suc zero) low h = (negative n, (within, whole 1 h), refl)
    go (suc (suc m)) low h = absurd (omega arith)
