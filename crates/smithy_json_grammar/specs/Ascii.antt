-- The bytes that RFC 8259 names, under its names (sections 2, 6 and 7). Some letters of escapes stand where they are read.
use Rattle.std.specs.Prelude.{ℕ, Bool, ◌||◌, ◌&&◌, ◌==◌, nat_le}
use Rattle.std.specs.Str.{byte}

-- "
abbrev pub quotation_mark : ℕ
quotation_mark = 0x22

-- \
abbrev pub escape : ℕ
escape = 0x5c

-- ,
abbrev pub value_separator : ℕ
value_separator = 0x2c

-- :
abbrev pub name_separator : ℕ
name_separator = 0x3a

-- [
abbrev pub begin_array : ℕ
begin_array = 0x5b

-- ]
abbrev pub end_array : ℕ
end_array = 0x5d

-- {
abbrev pub begin_object : ℕ
begin_object = 0x7b

-- }
abbrev pub end_object : ℕ
end_object = 0x7d

-- -
abbrev pub minus_sign : ℕ
minus_sign = 0x2d

-- +
abbrev pub plus_sign : ℕ
plus_sign = 0x2b

-- 0
abbrev pub digit_zero : ℕ
digit_zero = 0x30

-- .
abbrev pub decimal_point : ℕ
decimal_point = 0x2e

-- f
abbrev pub letter_f : ℕ
letter_f = 0x66

-- n
abbrev pub letter_n : ℕ
letter_n = 0x6e

-- t
abbrev pub letter_t : ℕ
letter_t = 0x74

-- u
abbrev pub letter_u : ℕ
letter_u = 0x75

-- U+0008
abbrev pub backspace : ℕ
backspace = 0x08

-- U+0009
abbrev pub tab : ℕ
tab = 0x09

-- U+000A
abbrev pub line_feed : ℕ
line_feed = 0x0a

-- U+000C
abbrev pub form_feed : ℕ
form_feed = 0x0c

-- U+000D
abbrev pub carriage_return : ℕ
carriage_return = 0x0d

-- U+0020
abbrev pub space : ℕ
space = 0x20

-- ws: space, horizontal tab, line feed or carriage return
abbrev pub is_ws : ℕ → Bool
is_ws b = (b == space) || (b == tab) || (b == line_feed) || (b == carriage_return)

-- e: either case
abbrev pub is_e : ℕ → Bool
is_e b = (b == 0x65) || (b == 0x45)

-- a byte that a number may have: a digit, a sign, a point or the letter of an exponent
abbrev pub is_numeric : ℕ → Bool
is_numeric b =
    (nat_le 0x30 b && nat_le b 0x39) || ((b == minus_sign) || (b == plus_sign) || (b == decimal_point) || is_e b)

-- what makes an escape of two bytes with the byte before it: " \ / b f n r t
abbrev pub is_short_escape : ℕ → Bool
is_short_escape b =
    (b == quotation_mark) || (b == escape) || (b == byte "/") || (b == byte "b") || (b == byte "f") || (b == byte "n")
    || (b == byte "r") || (b == byte "t")
