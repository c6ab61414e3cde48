-- How many arrays, maps and tags the bytes from a place on can open at most.
use Rattle.std.proofs.Common.{◌≡◌, ◌≤◌, ◌<◌, ◌+◌, ◌-◌, ◌/◌, ℕ, zero, suc, length, take, drop, List, [], ◌∷◌, Option, Some, None, true, ◌∙◌, sym, ap, arith, inl, inr, take-append-drop}
use Rattle.std.specs.Prelude.{cond}
use Rattle.std.specs.Int.{is_in_range}
use Rattle.std.proofs.lemmas.Bool.Decides.{nat_tests}
use Rattle.std.proofs.lemmas.List.{drop-drop}
use Rattle.std.proofs.lemmas.List.Sums.{sum_by-cons}
use Rattle.cbor_item.specs.Head.{HeadRead, BeginsWithHead}
use Rattle.cbor_item.proofs.FirstByte.{head_then_begins}
use Rattle.cbor_item.proofs.HeadLemmas.{head_is_only, head_is_some}
use Rattle.smithy_lint.specs.Private.CborEnds.{cbor_opening_bytes}

one_more : (b : ℕ) (s : List ℕ) → cbor_opening_bytes (b ∷ s) ≡ cond (is_in_range 0x80 0xdb b) 1 0 + cbor_opening_bytes s
one_more b s = sum_by-cons (λ c. cond (is_in_range 0x80 0xdb c) 1 0) b s

fewer_in_rest : (n : ℕ) (s : List ℕ) → cbor_opening_bytes (drop n s) ≤ cbor_opening_bytes s
fewer_in_rest zero s = omega arith
fewer_in_rest (suc n) [] = omega arith
fewer_in_rest (suc n) (b ∷ s) = let rest = fewer_in_rest n s in let is = one_more b s in omega (arith, rest, is)

-- further on no more can open
pub openings_fall : (i : List ℕ) (b c : ℕ) → b ≤ c → cbor_opening_bytes (drop c i) ≤ cbor_opening_bytes (drop b i)
openings_fall i b c h =
    let sum : b + (c - b) ≡ c = omega (arith, h) in
    let rest = fewer_in_rest (c - b) (drop b i) in
    let same : cbor_opening_bytes (drop (c - b) (drop b i)) ≡ cbor_opening_bytes (drop c i) =
    ap cbor_opening_bytes (drop-drop (c - b) b i ∙ ap (λ n. drop n i) sum) in
    omega (arith, rest, same)

-- the information of an initial byte is up to 27, or 31 where a length may be indefinite, which that of a tag may not
is_opener : (b : ℕ) (s : List ℕ) (h : HeadRead) → is_in_range 4 6 h.major ≡ true → BeginsWithHead (b ∷ s) h → is_in_range 0x80 0xdb b ≡ true
is_opener b s h type begins = go h.major h.argument h.length (ap (λ (k : HeadRead). k.major) (head_is_only b s h begins)) type begins
  where
    go : (major : ℕ) (argument : Option ℕ) (len : ℕ) → major ≡ b / 32 → is_in_range 4 6 major ≡ true
        → BeginsWithHead (b ∷ s) (record { major = major; argument = argument; length = len }) → is_in_range 0x80 0xdb b ≡ true
    go major (Some n) len is type (within, (low, spelled, long)) =
        let first = head_then_begins major n (drop len (b ∷ s)) b s (take len (b ∷ s), spelled, sym (take-append-drop len (b ∷ s))) in
        grind (arith, nat_tests)
    go major None len is type (within, (inl range, e)) = grind (arith, nat_tests)
    go major None len is type (within, (inr seven, e)) = grind (arith, nat_tests)

head_adds : (s : List ℕ) (h : HeadRead) → is_in_range 4 6 h.major ≡ true → BeginsWithHead s h → suc (cbor_opening_bytes (drop h.length s)) ≤ cbor_opening_bytes s
head_adds s h type begins = go s h.length begins.0 (head_is_some s h begins) begins
  where
    go : (s : List ℕ) (n : ℕ) → n ≤ length s → 0 < n → BeginsWithHead s h → suc (cbor_opening_bytes (drop n s)) ≤ cbor_opening_bytes s
    go [] n within some begins = absurd (omega (arith, within, some))
    go (b ∷ s) zero within some begins = absurd (omega (arith, some))
    go (b ∷ s) (suc n) within some begins =
        let opener = is_opener b s h type begins in
        let first : cbor_opening_bytes (b ∷ s) ≡ 1 + cbor_opening_bytes s = one_more b s ∙ ap (λ c. cond c 1 0 + cbor_opening_bytes s) opener in
        omega (arith, first, fewer_in_rest n s)

-- the head of an array, a map or a tag adds one
pub opening_adds : (i : List ℕ) (a : ℕ) (h : HeadRead) → is_in_range 4 6 h.major ≡ true → BeginsWithHead (drop a i) h
    → suc (cbor_opening_bytes (drop (a + h.length) i)) ≤ cbor_opening_bytes (drop a i)
opening_adds i a h type begins =
    let same : cbor_opening_bytes (drop h.length (drop a i)) ≡ cbor_opening_bytes (drop (a + h.length) i) = ap cbor_opening_bytes (drop-drop h.length a i) in
    omega (arith, same, head_adds (drop a i) h type begins)
