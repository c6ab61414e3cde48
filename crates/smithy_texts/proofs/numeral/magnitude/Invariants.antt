use Rattle.std.proofs.Common.{◌≡◌, ◌<◌, ◌^◌, drop, filter}
use Rattle.std.specs.Char.{is_ascii_digit}
use Rattle.std.specs.Str.Parse.{digits_value_after}
use Rattle.smithy_texts.specs.Numeral.{magnitude}
use Rattle.smithy_texts.proofs.numeral.magnitude.Given as goal

-- the digits that come after the value so far write the whole
abbrev pub invariant-loop-byte : goal.invariant-loop-byte
invariant-loop-byte l = record {
  fits : l.value < 2 ^ 128;
  same : digits_value_after 10 l.value (filter is_ascii_digit (drop l.byte-index l.text)) ≡ magnitude l.text;
}
