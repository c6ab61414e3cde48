-- At which bytes a scan of a string's text stops (RFC 8259, section 7).
use Rattle.std.specs.Prelude.{ℕ, ◌+◌, List, drop, Bool, not, ◌&&◌, ◌||◌, ◌==◌, nat_lt}
use Rattle.std.specs.List.{prefix_len}
use Rattle.smithy_json_grammar.specs.Ascii.{quotation_mark, escape, space}

-- a byte that must be escaped in a string: the quotation mark, the reverse solidus and, where they count, the control characters
-- U+0000 to U+001F
abbrev pub is_stop : Bool → ℕ → Bool
is_stop controls b = (b == quotation_mark) || (b == escape) || (controls && nat_lt b space)

-- the least place from `at` on with such a byte, or else the length
abbrev pub first_stop : List ℕ → ℕ → Bool → ℕ
first_stop input at controls = at + prefix_len (λ b. not (is_stop controls b)) (drop at input)
