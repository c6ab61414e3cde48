-- The number that a run of digits writes, digit by digit.
use Rattle.std.proofs.Common.{◌≡◌, ◌+◌, ◌-◌, ◌*◌, ◌≤◌, ◌<◌, ℕ, suc, List, [], ◌∷◌, length, take, drop, get_or, true, refl, ap, ◌∙◌, arith}
use Rattle.std.proofs.lemmas.Bool.Decides.{nat_tests}
use Rattle.std.proofs.lemmas.List.{drop_more}
use Rattle.std.specs.Char.{is_ascii_digit, digit_value}
use Rattle.std.specs.Str.Parse.{digits_value_after}
use Rattle.smithy_json_grammar.specs.Private.Numeral.{digit_count, run_value}

-- a number is no less for more digits
value_grows : (before : ℕ) (digits : List ℕ) → before ≤ digits_value_after 10 before digits
value_grows before [] = omega arith
value_grows before (d ∷ digits) = omega (arith, value_grows (before * 10 + digit_value d) digits)

pub run_value_grows : (before : ℕ) (s : List ℕ) → before ≤ run_value before s
run_value_grows before s = value_grows before (take (digit_count s) s)

pub digit_is : (b : ℕ) → is_ascii_digit b ≡ true → digit_value b ≡ b - 48
digit_is b h = grind (arith, nat_tests)

-- one digit of a run
run_step : (before b : ℕ) (s : List ℕ) → is_ascii_digit b ≡ true → (digit_count (b ∷ s) ≡ 1 + digit_count s) × (run_value before (b ∷ s) ≡ run_value (before * 10 + (b - 48)) s)
run_step before b s digit =
    let one : 1 + digit_count s ≡ suc (digit_count s) = omega arith in
    let count : digit_count (b ∷ s) ≡ 1 + digit_count s = rw digit refl in (
      count,
      ap (λ n. digits_value_after 10 before (take n (b ∷ s))) (count ∙ one)
          ∙ ap (λ d. digits_value_after 10 (before * 10 + d) (take (digit_count s) s)) (digit_is b digit),
    )

pub run_value_step : (input : List ℕ) (end before : ℕ) → end < length input → is_ascii_digit (get_or input end 0) ≡ true
    → (digit_count (drop end input) ≡ 1 + digit_count (drop (end + 1) input)) × (run_value before (drop end input) ≡ run_value (before * 10 + (get_or input end 0 - 48)) (drop (end + 1) input))
run_value_step input end before within digit =
    let front = drop_more input end 0 within in
    let step = run_step before (get_or input end 0) (drop (end + 1) input) digit in
    (ap digit_count front ∙ step.0, ap (run_value before) front ∙ step.1)

-- no digit comes
pub run_value_end : (before : ℕ) (s : List ℕ) → digit_count s ≡ 0 → run_value before s ≡ before
run_value_end before s none = ap (λ n. digits_value_after 10 before (take n s)) none
