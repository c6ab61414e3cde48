-- What follows the parts of a number, computed from the bytes.
use Rattle.std.specs.Prelude.{◌≡◌, ◌<◌, ◌≤◌, ℕ, ◌+◌, ◌^◌, List, length, take, drop, get_or, Bool, not, ◌||◌, nat_le, ◌==◌, Option, Some, None, option_map, option_and_then, IfSome, MatchOption, if◌then◌else◌, ◌⊎◌, ℤ, pos, neg_ℤ}
use Rattle.std.specs.List.{prefix_len}
use Rattle.std.specs.Char.{is_ascii_digit}
use Rattle.std.specs.Str.Parse.{digits_value_after}
use Rattle.smithy_texts.specs.Ranges.{fits_signed}
use Rattle.smithy_json_grammar.specs.Ascii.{minus_sign, plus_sign, digit_zero, decimal_point, is_e}

-- the first byte, and 0 where there is none
abbrev pub first_byte : List ℕ → ℕ
first_byte s = get_or s 0 0

-- how many digits come first
abbrev pub digit_count : List ℕ → ℕ
digit_count s = prefix_len is_ascii_digit s

-- after 1*DIGIT
abbrev pub after_digits : List ℕ → Option (List ℕ)
after_digits s = if digit_count s == 0 then None else Some (drop (digit_count s) s)

-- after [ minus ]
abbrev pub after_minus : List ℕ → List ℕ
after_minus s = if first_byte s == minus_sign then drop 1 s else s

-- after [ minus / plus ]
abbrev pub after_sign : List ℕ → List ℕ
after_sign s = if (first_byte s == minus_sign) || (first_byte s == plus_sign) then drop 1 s else s

-- after int
abbrev pub after_int : List ℕ → Option (List ℕ)
after_int s = if first_byte s == digit_zero then Some (drop 1 s) else after_digits s

-- the digits from the start to the end, of which there is one, are an int
abbrev pub is_int_between : List ℕ → ℕ → ℕ → Bool
is_int_between input start end =
    not (first_byte (drop start input) == digit_zero) || nat_le end (start + 1)

-- after [ frac ]
abbrev pub after_frac : List ℕ → Option (List ℕ)
after_frac s = if first_byte s == decimal_point then after_digits (drop 1 s) else Some s

-- after [ exp ]
abbrev pub after_exp : List ℕ → Option (List ℕ)
after_exp s = if is_e (first_byte s) then after_digits (after_sign (drop 1 s)) else Some s

-- after [ minus ] int
abbrev pub after_whole : List ℕ → Option (List ℕ)
after_whole s = after_int (after_minus s)

-- after [ frac ] [ exp ]
abbrev pub after_frac_and_exp : List ℕ → Option (List ℕ)
after_frac_and_exp s = option_and_then after_exp (after_frac s)

-- the place that is answered, not before the offset, is where what follows begins
abbrev pub EndsAt : List ℕ → ℕ → Option ℕ → Option (List ℕ) → Type 0
EndsAt input at result rest =
    (option_map (λ end. drop end input) result ≡ rest)
    × IfSome result (λ end. (at ≤ end) × (end ≤ length input))

-- the place, not before the offset, is where the rest begins
pub record EndsBefore (input : List ℕ) (at end : ℕ) (rest : List ℕ) : Type 0 where
  pub value : drop end input ≡ rest
  pub ordered : at ≤ end
  pub within : end ≤ length input

-- the number that the leading digits of s write, behind the digits of the number `before`
abbrev pub run_value : ℕ → List ℕ → ℕ
run_value before s = digits_value_after 10 before (take (digit_count s) s)

-- the number of the digits that come at the offset, and their end; none where no digit comes, or
-- where they write 2^64 or more
abbrev pub ReadsNatural : List ℕ → ℕ → Option (ℕ × ℕ) → Type 0
ReadsNatural input at result =
    MatchOption result
    ((digit_count (drop at input) ≡ 0) ⊎ (2 ^ 64 ≤ run_value 0 (drop at input)))
    (λ r. (r.0 ≡ run_value 0 (drop at input)) × (r.1 ≡ at + digit_count (drop at input))
    × (0 < digit_count (drop at input)) × (r.1 ≤ length input))

-- the number with this sign and magnitude, where it is one of 64 bits
abbrev pub long_of : Bool → ℕ → Option ℤ
long_of negative magnitude =
    let n = if negative then neg_ℤ (pos magnitude) else pos magnitude in
    if fits_signed 64 n then Some n else None
