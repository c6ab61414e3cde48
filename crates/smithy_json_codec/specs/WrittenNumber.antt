-- What is written of a big number that keeps this text.
use Rattle.std.specs.Prelude.{ℕ, ◌==◌, length, drop, List, [], ◌∷◌, ◌++◌, Option, Some, None, if◌then◌else◌}
use Rattle.std.specs.List.{before_first, after_first, prefix_len}
use Rattle.std.specs.Str.{byte}
use Rattle.smithy_texts.specs.Numeral.{begins_with, without_sign}
use Rattle.smithy_texts.specs.Decimal.{is_point, coefficient}
use Rattle.smithy_json_grammar.specs.Ascii.{minus_sign, decimal_point, digit_zero}
use Rattle.smithy_json.specs.Escape.{quoted}
use Rattle.smithy_json_grammar.specs.NumberText.{is_number}
use Rattle.smithy_json_values.specs.Settings.{Settings}

-- digits without zeros in front of them, and a zero where none is left
abbrev pub without_zeros : List ℕ → List ℕ
without_zeros digits =
    let kept = drop (prefix_len (λ b. b == digit_zero) digits) digits in
    if length kept == 0 then digit_zero ∷ [] else kept

-- a point and digits, where there are digits
abbrev pub fraction_of : List ℕ → List ℕ
fraction_of [] = []
fraction_of digits = decimal_point ∷ digits

-- the exponent by the letter `e`, and nothing where there is no exponent
abbrev pub exponent_of : List ℕ → List ℕ
exponent_of [] = []
exponent_of (mark ∷ exponent) = byte "e" ∷ exponent

abbrev pub minus_of : List ℕ → List ℕ
minus_of raw = if begins_with minus_sign raw then minus_sign ∷ [] else []

-- a decimal text as a number of RFC 8259, section 6
unfoldable pub normalized : List ℕ → List ℕ
normalized raw =
    let digits = without_sign (coefficient raw) in
    minus_of raw
    ++ (without_zeros (before_first is_point digits)
    ++ (fraction_of (after_first is_point digits) ++ exponent_of (drop (length (coefficient raw)) raw)))

-- the bytes of a big number, unless it can't be written
unfoldable pub written_number : Settings → List ℕ → Option (List ℕ)
written_number c raw =
    if c.use_string_for_arbitrary_precision then Some (quoted raw)
    else if is_number raw then Some raw
    else if c.normalize_arbitrary_precision then Some (normalized raw)
    else None
