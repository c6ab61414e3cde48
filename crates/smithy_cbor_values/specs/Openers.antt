-- How many heads of arrays and maps the bytes can hold at most, whether they are CBOR or not.
use Rattle.std.specs.Prelude.{ℕ, List, count_by}
use Rattle.std.specs.Int.{is_in_range}

-- the number of bytes from 0x80 to 0xbf, which are the initial bytes of arrays and maps, wherever they
-- stand
abbrev pub cbor_openers : List ℕ → ℕ
cbor_openers bytes = count_by (is_in_range 0x80 0xbf) bytes
