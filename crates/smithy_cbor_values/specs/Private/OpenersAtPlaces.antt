-- How many heads of arrays and maps can stand at most from one place of an input on and from another.
use Rattle.std.specs.Prelude.{◌≡◌, ◌≤◌, ◌<◌, ◌+◌, ◌-◌, ◌/◌, ◌⊎◌, ℕ, zero, suc, length, drop, List, [], ◌∷◌, Option, true, cond}
use Rattle.std.specs.Int.{is_in_range}
use Rattle.std.proofs.Common.{◌∙◌, ap, arith, inl, inr}
use Rattle.std.proofs.lemmas.Bool.Decides.{nat_tests}
use Rattle.std.proofs.lemmas.List.{drop-drop}
use Rattle.std.proofs.lemmas.List.Sums.{sum_by-cons}
use Rattle.cbor_item.specs.Head.{HeadRead, BeginsWithHead}
use Rattle.cbor_item.proofs.HeadLemmas.{head_is_only}
use Rattle.smithy_cbor.specs.Reading.{OpensAt}
use Rattle.smithy_cbor_values.specs.Openers.{cbor_openers}

-- one byte more
one_more : (b : ℕ) (s : List ℕ) → cbor_openers (b ∷ s) ≡ cond (is_in_range 0x80 0xbf b) 1 0 + cbor_openers s
one_more b s = sum_by-cons (λ c. cond (is_in_range 0x80 0xbf c) 1 0) b s

fewer_in_rest : (n : ℕ) (s : List ℕ) → cbor_openers (drop n s) ≤ cbor_openers s
fewer_in_rest zero s = omega arith
fewer_in_rest (suc n) [] = omega arith
fewer_in_rest (suc n) (b ∷ s) = let rest = fewer_in_rest n s in let is = one_more b s in omega (arith, rest, is)

-- from a place further on in the input no more heads of arrays and maps can stand than from the place before it
pub openers_fall : (i : List ℕ) (b c : ℕ) → b ≤ c → cbor_openers (drop c i) ≤ cbor_openers (drop b i)
openers_fall i b c h =
    let sum : b + (c - b) ≡ c = omega (arith, h) in
    let rest = fewer_in_rest (c - b) (drop b i) in
    let same : cbor_openers (drop (c - b) (drop b i)) ≡ cbor_openers (drop c i) = ap cbor_openers (drop-drop (c - b) b i ∙ ap (λ n. drop n i) sum) in
    omega (arith, rest, same)

-- ---- a head of an array or a map

is_opener : (b major : ℕ) → major ≡ b / 32 → (major ≡ 4) ⊎ (major ≡ 5) → is_in_range 0x80 0xbf b ≡ true
is_opener b major h (inl four) = grind (arith, nat_tests)
is_opener b major h (inr five) = grind (arith, nat_tests)

head_adds : (s : List ℕ) (h : HeadRead) → (h.major ≡ 4) ⊎ (h.major ≡ 5) → BeginsWithHead s h → 0 < h.length → suc (cbor_openers (drop h.length s)) ≤ cbor_openers s
head_adds s h type begins size = go s h.length begins.0 size begins
  where
    go : (s : List ℕ) (n : ℕ) → n ≤ length s → 0 < n → BeginsWithHead s h → suc (cbor_openers (drop n s)) ≤ cbor_openers s
    go [] n within some begins = absurd (omega (arith, within, some))
    go (b ∷ s) zero within some begins = absurd (omega (arith, some))
    go (b ∷ s) (suc n) within some begins =
        let opener = is_opener b h.major (ap (λ (k : HeadRead). k.major) (head_is_only b s h begins)) type in
        let first : cbor_openers (b ∷ s) ≡ 1 + cbor_openers s = one_more b s ∙ ap (λ c. cond c 1 0 + cbor_openers s) opener in
        omega (arith, first, fewer_in_rest n s)

-- adds one
pub opens_adds : (major : ℕ) (due : Option ℕ) (i : List ℕ) (a b : ℕ) → (major ≡ 4) ⊎ (major ≡ 5) → OpensAt major due i a b
    → suc (cbor_openers (drop b i)) ≤ cbor_openers (drop a i)
opens_adds major due i a b type h =
    let sum : a + (b - a) ≡ b = omega (arith, h.0) in
    let some : 0 < b - a = omega (arith, h.0) in
    let same : cbor_openers (drop (b - a) (drop a i)) ≡ cbor_openers (drop b i) = ap cbor_openers (drop-drop (b - a) a i ∙ ap (λ n. drop n i) sum) in
    omega (arith, same, head_adds (drop a i) (record { major = major; argument = due; length = b - a }) type h.1 some)
