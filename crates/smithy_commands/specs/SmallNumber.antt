-- Numbers in words of a command.
use Rattle.std.specs.Prelude.{ℕ, nat_le, List, length, ◌&&◌, Option, Some, None, if◌then◌else◌}
use Rattle.smithy_texts.specs.Numeral.{are_digits, magnitude}

-- the number of a word of decimal digits: at most so many of them, and a number of at most this
abbrev pub number_within : ℕ → ℕ → List ℕ → Option ℕ
number_within digits most word =
    if are_digits word && nat_le (length word) digits && nat_le (magnitude word) most then Some (magnitude word)
    else None
