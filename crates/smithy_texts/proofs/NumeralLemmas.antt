-- The number that the digits of a text write, digit by digit.
use Rattle.std.proofs.Common.{◌≡◌, ◌≢◌, ◌+◌, ◌-◌, ◌*◌, ◌%◌, ◌^◌, sym, ◌≤◌, ◌<◌, ◌&&◌, nat_lt, ℕ, List, [], ◌∷◌, ◌++◌, length, length-append, take, drop, filter, get_or, Bool, cond, true, false, refl, ap, ◌∙◌, arith}
use Rattle.std.proofs.lemmas.Bool.Decides.{nat_tests}
use Rattle.std.proofs.lemmas.Int.Digits.{digits_value_push}
use Rattle.std.proofs.lemmas.List.{drop_more, take_more, append-nil}
use Rattle.std.proofs.lemmas.List.Elements.{filter-append}
use Rattle.std.proofs.Math.Nat.{mul_assoc, mul_comm}
use Rattle.std.proofs.lemmas.Nat.{pow-add}
use Rattle.std.specs.Int.{is_in_range}
use Rattle.std.specs.Char.{is_ascii_digit, digit_value}
use Rattle.std.specs.Str.{all_ascii_digits}
use Rattle.std.specs.Str.Parse.{digits_value, digits_value_after}
use Rattle.smithy_texts.specs.Numeral.{are_digits, magnitude}

-- the number that the digits of a text write after those of n
abbrev pub magnitude_after : ℕ → List ℕ → ℕ
magnitude_after n text = digits_value_after 10 n (filter is_ascii_digit text)

-- a number is no less for more digits
value_grows : (n : ℕ) (digits : List ℕ) → n ≤ digits_value_after 10 n digits
value_grows n [] = omega arith
value_grows n (d ∷ digits) = omega (arith, value_grows (n * 10 + digit_value d) digits)

pub magnitude_grows : (n : ℕ) (text : List ℕ) → n ≤ magnitude_after n text
magnitude_grows n text = value_grows n (filter is_ascii_digit text)

pub digit_is : (b : ℕ) → is_ascii_digit b ≡ true → digit_value b ≡ b - 48
digit_is b h = grind (arith, nat_tests)

step : (n b : ℕ) (text : List ℕ) → is_ascii_digit b ≡ true → magnitude_after n (b ∷ text) ≡ magnitude_after (n * 10 + (b - 48)) text
step n b text digit = ap (λ t. digits_value_after 10 n (cond t (b ∷ filter is_ascii_digit text) (filter is_ascii_digit text))) digit
    ∙ ap (λ d. digits_value_after 10 (n * 10 + d) (filter is_ascii_digit text)) (digit_is b digit)

-- one digit more
pub magnitude_step : (text : List ℕ) (i n : ℕ) → i < length text → is_ascii_digit (get_or text i 0) ≡ true
    → magnitude_after n (drop i text) ≡ magnitude_after (n * 10 + (get_or text i 0 - 48)) (drop (i + 1) text)
magnitude_step text i n within digit =
    ap (magnitude_after n) (drop_more text i 0 within) ∙ step n (get_or text i 0) (drop (i + 1) text) digit

-- two texts together are digits just where each is
pub all_digits-append : (a b : List ℕ) → all_ascii_digits (a ++ b) ≡ (all_ascii_digits a && all_ascii_digits b)
all_digits-append [] b = refl
all_digits-append (c ∷ a) b = by (is_ascii_digit c) (all_digits-append a b)
  where
    by : (t : Bool) → all_ascii_digits (a ++ b) ≡ (all_ascii_digits a && all_ascii_digits b) → (t && all_ascii_digits (a ++ b)) ≡ ((t && all_ascii_digits a) && all_ascii_digits b)
    by true h = h
    by false h = refl

-- two texts together are at least one digit and nothing else
pub are_digits-append : (a b : List ℕ) → are_digits (a ++ b) ≡ (nat_lt 0 (length a + length b) && (all_ascii_digits a && all_ascii_digits b))
are_digits-append a b = ap (λ n. nat_lt 0 n && all_ascii_digits (a ++ b)) (length-append a b) ∙ ap (λ t. nat_lt 0 (length a + length b) && t) (all_digits-append a b)

-- the number of a text with one byte more
pub magnitude_more : (text : List ℕ) (i : ℕ) → i < length text
    → magnitude (take (i + 1) text) ≡ cond (is_ascii_digit (get_or text i 0)) (magnitude (take i text) * 10 + (get_or text i 0 - 48)) (magnitude (take i text))
magnitude_more text i within = ap magnitude (take_more text i 0 within) ∙ ap (digits_value 10) (filter-append is_ascii_digit (take i text) (get_or text i 0 ∷ [])) ∙ by (is_ascii_digit (get_or text i 0)) refl
  where
    by : (t : Bool) → is_ascii_digit (get_or text i 0) ≡ t
        → digits_value 10 (filter is_ascii_digit (take i text) ++ cond t (get_or text i 0 ∷ []) []) ≡ cond t (magnitude (take i text) * 10 + (get_or text i 0 - 48)) (magnitude (take i text))
    by true e = digits_value_push 10 (filter is_ascii_digit (take i text)) (get_or text i 0) ∙ ap (λ d. magnitude (take i text) * 10 + d) (digit_is (get_or text i 0) e)
    by false e = ap (digits_value 10) (append-nil (filter is_ascii_digit (take i text)))

digit_zero : (c : ℕ) → c ≡ 48 → (is_ascii_digit c ≡ true) × (c - 48 ≡ 0)
digit_zero c e = (grind (arith, nat_tests), omega arith)

no_digit : (c : ℕ) → is_in_range 49 57 c ≡ false → c ≢ 48 → is_ascii_digit c ≡ false
no_digit c h k = grind (arith, nat_tests)

significant_digit : (c : ℕ) → is_in_range 49 57 c ≡ true → (is_ascii_digit c ≡ true) × (0 < c - 48) × (c - 48 < 10)
significant_digit c h = (grind (arith, nat_tests), grind (arith, nat_tests), grind (arith, nat_tests))

-- a 0 at the end is a power of ten
pub zero_more : (text : List ℕ) (i z : ℕ) → i < length text → get_or text i 0 ≡ 48
    → magnitude (take (i + 1) text) * 10 ^ z ≡ magnitude (take i text) * 10 ^ (z + 1)
zero_more text i z within e =
    let digit = digit_zero (get_or text i 0) e in
    let m = magnitude (take i text) in
    let one : magnitude (take (i + 1) text) ≡ m * 10 =
    magnitude_more text i within ∙ ap (λ t. cond t (m * 10 + (get_or text i 0 - 48)) m) digit.0 ∙ (let d = digit.1 in omega arith) in
    ap (λ n. n * 10 ^ z) one ∙ mul_assoc m 10 (10 ^ z) ∙ ap (λ p. m * p) (ten_times z)
  where
    ten_times : (z : ℕ) → 10 * 10 ^ z ≡ 10 ^ (z + 1)
    ten_times z = mul_comm 10 (10 ^ z) ∙ sym (pow-add 10 z 1)

-- another byte at the end is nothing
pub none_more : (text : List ℕ) (i : ℕ) → i < length text → is_in_range 49 57 (get_or text i 0) ≡ false → get_or text i 0 ≢ 48
    → magnitude (take (i + 1) text) ≡ magnitude (take i text)
none_more text i within h k =
    magnitude_more text i within
    ∙ ap (λ t. cond t (magnitude (take i text) * 10 + (get_or text i 0 - 48)) (magnitude (take i text))) (no_digit (get_or text i 0) h k)

-- after another digit the number is no multiple of ten
pub significant_more : (text : List ℕ) (i : ℕ) → i < length text → is_in_range 49 57 (get_or text i 0) ≡ true → magnitude (take (i + 1) text) % 10 ≢ 0
significant_more text i within h =
    let digit = significant_digit (get_or text i 0) h in
    let m = magnitude (take i text) in
    let d = get_or text i 0 - 48 in
    let one : magnitude (take (i + 1) text) ≡ m * 10 + d =
    magnitude_more text i within ∙ ap (λ t. cond t (m * 10 + d) m) digit.0 in
    let low : 0 < d = digit.1 in
    let high : d < 10 = digit.2 in
    λ none. omega arith
