-- What follows the parts of a number under a grammar of numbers, computed from the bytes. Of the grammar of the standard each of
-- these computes to the one without a grammar, since what is allowed is asked for first.
use Rattle.std.specs.Prelude.{ℕ, List, drop, Bool, not, ◌&&◌, ◌==◌, Option, Some, None, option_and_then, if◌then◌else◌}
use Rattle.std.specs.Char.{is_ascii_digit}
use Rattle.smithy_json_grammar.specs.Ascii.{minus_sign, decimal_point, digit_zero}
use Rattle.smithy_json_grammar.specs.Private.Numeral.{first_byte, digit_count, after_digits, after_minus, after_exp}
use Rattle.smithy_json_grammar.specs.declared.number_grammar.NumberGrammar.{NumberGrammar}

-- after int
abbrev pub after_int_of : NumberGrammar → List ℕ → Option (List ℕ)
after_int_of g s =
    if not g.allow_leading_zeros && (first_byte s == digit_zero) then Some (drop 1 s) else after_digits s

-- a minus, a point and a digit come first, and between the first two int may be left out
abbrev pub omits_int : NumberGrammar → List ℕ → Bool
omits_int g s =
    g.allow_empty_integer_part && first_byte s == minus_sign && first_byte (drop 1 s) == decimal_point
    && is_ascii_digit (first_byte (drop 2 s))

-- after [ minus ] int
abbrev pub after_whole_of : NumberGrammar → List ℕ → Option (List ℕ)
after_whole_of g s = if omits_int g s then Some (drop 1 s) else after_int_of g (after_minus s)

-- after the digits behind a decimal point
abbrev pub after_decimals_of : NumberGrammar → List ℕ → Option (List ℕ)
after_decimals_of g s =
    if not g.allow_trailing_decimal_point && (digit_count s == 0) then None else Some (drop (digit_count s) s)

-- after [ frac ]
abbrev pub after_frac_of : NumberGrammar → List ℕ → Option (List ℕ)
after_frac_of g s = if first_byte s == decimal_point then after_decimals_of g (drop 1 s) else Some s

-- after [ frac ] [ exp ]
abbrev pub after_frac_and_exp_of : NumberGrammar → List ℕ → Option (List ℕ)
after_frac_and_exp_of g s = option_and_then after_exp (after_frac_of g s)

-- after [ minus ] int [ frac ] [ exp ]
abbrev pub after_number_of : NumberGrammar → List ℕ → Option (List ℕ)
after_number_of g s = option_and_then (after_frac_and_exp_of g) (after_whole_of g s)
