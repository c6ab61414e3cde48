-- What a text of seconds means, by its digits without the zeros at their end.
use Rattle.std.proofs.Common.{◌⊎◌, inl, inr, ◌≡◌, ◌≢◌, ◌*◌, ◌%◌, ◌^◌, ◌<◌, ◌≤◌, ℕ, List, Bool, cond, true, false, refl, sym, ap, subst, ◌∙◌, arith, ℤ, pos, negsuc, ◌+ℤ◌, ◌≤ℤ◌, ◌<ℤ◌, unsigned_abs, neg_ℤ, Some, None, Option, option_map, IsTrue, FitsSigned}
use Rattle.std.specs.Str.{byte}
use Rattle.std.proofs.Math.Nat.{mul_comm}
use Rattle.std.specs.Int.{w128}
use Rattle.std.proofs.lemmas.Bool.{false≢true}
use Rattle.jiff_core.proofs.SignedLemmas.{signed_arith}
use Rattle.smithy_texts.specs.Numeral.{begins_with, magnitude, signed}
use Rattle.smithy_texts.specs.Decimal.{coefficient, net_exponent}
use Rattle.smithy_instants.specs.Epoch.{is_epoch, epoch_nanos, scaled}
use Rattle.smithy_instants.specs.Instant.{is_instant}
use Rattle.smithy_instants.proofs.PowerLemmas.{scaled_whole, scaled_part, scaled_zero, power_positive, times_at_least}

-- the sign of the text
abbrev pub is_negative : List ℕ → Bool
is_negative text = begins_with (byte "-") (coefficient text)

pub epoch_none : (text : List ℕ) → ¬ (IsTrue (is_epoch text)) → epoch_nanos text ≡ None
epoch_none text fails = by (is_epoch text) fails
  where
    by : (t : Bool) → ¬ (IsTrue t) → cond t (option_map (signed (is_negative text)) (scaled (magnitude (coefficient text)) (net_exponent text +ℤ pos 9))) None ≡ None
    by true fails = absurd (fails refl)
    by false fails = refl

epoch_some : (text : List ℕ) (o : Option ℕ) → IsTrue (is_epoch text) → scaled (magnitude (coefficient text)) (net_exponent text +ℤ pos 9) ≡ o
    → epoch_nanos text ≡ option_map (signed (is_negative text)) o
epoch_some text o form e = ap (λ t. cond t (option_map (signed (is_negative text)) (scaled (magnitude (coefficient text)) (net_exponent text +ℤ pos 9))) None) form
    ∙ ap (option_map (signed (is_negative text))) e

no_sign_of_zero : (b : Bool) → signed b 0 ≡ pos 0
no_sign_of_zero true = refl
no_sign_of_zero false = refl

pub epoch_zero : (text : List ℕ) → IsTrue (is_epoch text) → magnitude (coefficient text) ≡ 0 → epoch_nanos text ≡ Some (pos 0)
epoch_zero text form none =
    epoch_some text (Some 0) form (ap (λ n. scaled n (net_exponent text +ℤ pos 9)) none ∙ scaled_zero (net_exponent text +ℤ pos 9)) ∙ ap Some (no_sign_of_zero (is_negative text))

-- the power of ten is not negative
pub epoch_whole : (text : List ℕ) (m z : ℕ) (power : ℤ) → IsTrue (is_epoch text) → magnitude (coefficient text) ≡ m * 10 ^ z → net_exponent text +ℤ pos 9 +ℤ pos z ≡ power → pos 0 ≤ℤ power
    → epoch_nanos text ≡ Some (signed (is_negative text) (m * 10 ^ unsigned_abs power))
epoch_whole text m z power form value e low =
    let P : ℤ → Type 0 = λ p. pos 0 ≤ℤ p in
    let start = subst P (sym e) low in
    epoch_some text (Some (m * 10 ^ unsigned_abs power)) form
    (ap (λ n. scaled n (net_exponent text +ℤ pos 9)) value ∙ scaled_whole m z (net_exponent text +ℤ pos 9) start ∙ ap (λ p. Some (m * 10 ^ unsigned_abs p)) e)

part_of : (m z : ℕ) (s : ℤ) → (s +ℤ pos z) <ℤ pos 0 → m % 10 ≢ 0 → scaled (m * 10 ^ z) s ≡ None
part_of m z (pos e) h odd = absurd (omega (arith, signed_arith))
part_of m z (negsuc e) h odd = scaled_part m z e (omega (arith, signed_arith)) odd

-- the power of ten is negative
pub epoch_part : (text : List ℕ) (m z : ℕ) (power : ℤ) → IsTrue (is_epoch text) → magnitude (coefficient text) ≡ m * 10 ^ z → net_exponent text +ℤ pos 9 +ℤ pos z ≡ power → power <ℤ pos 0 → m % 10 ≢ 0
    → epoch_nanos text ≡ None
epoch_part text m z power form value e low odd =
    let P : ℤ → Type 0 = λ p. p <ℤ pos 0 in
    let start = subst P (sym e) low in
    epoch_some text None form (ap (λ n. scaled n (net_exponent text +ℤ pos 9)) value ∙ part_of m z (net_exponent text +ℤ pos 9) start odd)

-- a number of more than 128 bits is no instant
wide_positive : (k : ℕ) → 2 ^ 128 ≤ k → is_instant (pos k) ≡ false
wide_positive k h = grind (arith, signed_arith)

wide_negative : (k : ℕ) → 2 ^ 128 ≤ k → is_instant (neg_ℤ (pos k)) ≡ false
wide_negative k h = grind (arith, signed_arith)

wide : (b : Bool) (k : ℕ) → 2 ^ 128 ≤ k → is_instant (signed b k) ≡ false
wide true k h = wide_negative k h
wide false k h = wide_positive k h

pub not_true : (t : Bool) → ¬ (IsTrue t) → t ≡ false
not_true true fails = absurd (fails refl)
not_true false fails = refl

-- an instant is a number of 128 bits
pub instant_fits : (n : ℤ) → IsTrue (is_instant n) → FitsSigned w128 n
instant_fits n h = grind (arith, signed_arith)

-- a magnitude beyond 128 bits gives no instant
pub magnitude_wide : (b : Bool) (m p : ℕ) → ¬ (m < 2 ^ 128) → ¬ (IsTrue (is_instant (signed b (m * 10 ^ p))))
magnitude_wide b m p h instant =
    let times : m ≤ 10 ^ p * m = times_at_least (10 ^ p) m (power_positive p) in
    let c : m * 10 ^ p ≡ 10 ^ p * m = mul_comm m (10 ^ p) in
    false≢true (sym (wide b (m * 10 ^ p) (omega arith)) ∙ instant)

-- nor does a product beyond them
pub product_wide : (b : Bool) (k : ℕ) → ¬ (k < 2 ^ 128) → ¬ (IsTrue (is_instant (signed b k)))
product_wide b k h instant = false≢true (sym (wide b k (omega arith)) ∙ instant)

-- the second of two cases, where the first fails
pub second_of : {A B : Type 0} → A ⊎ B → ¬ A → B
second_of (inl a) fails = absurd (fails a)
second_of (inr b) fails = b
