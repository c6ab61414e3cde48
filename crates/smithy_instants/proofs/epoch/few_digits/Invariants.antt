use Rattle.std.proofs.Common.{◌≡◌, ◌<◌, ◌^◌, drop}
use Rattle.std.specs.Str.{all_ascii_digits}
use Rattle.smithy_texts.specs.Numeral.{magnitude}
use Rattle.smithy_texts.proofs.NumeralLemmas.{magnitude_after}
use Rattle.smithy_instants.proofs.epoch.few_digits.Given as goal

-- the digits that come after the value so far write the whole
abbrev pub invariant-loop-byte : goal.invariant-loop-byte
invariant-loop-byte l = record {
  same : magnitude_after l.value (drop l.byte-index l.text) ≡ magnitude l.text;
  digits : all_ascii_digits (drop l.byte-index l.text) ≡ all_ascii_digits l.text;
  small : l.value < 10 ^ l.byte-index;
}
