-- The whole numbers of 64 bits, with or without a sign, that the text of a number writes.
use Rattle.std.specs.Prelude.{ℕ, List, ℤ, unsigned_abs, Option, Some, None, option_and_then, if◌then◌else◌}
use Rattle.smithy_texts.specs.Numeral.{begins_with}
use Rattle.smithy_json_grammar.specs.Ascii.{minus_sign}
use Rattle.smithy_json_grammar.specs.Number.{whole_number}
use Rattle.smithy_types.specs.Document.{is_document_number}
use Rattle.smithy_types.specs.declared.number.Number.{Number}
use Rattle.smithy_types.specs.declared.number.Number.TheVariants.{PosInt, NegInt}

-- the number of a text: `NegInt` exactly where it begins with a minus
abbrev pub held_as : List ℕ → ℤ → Number
held_as text z = if begins_with minus_sign text then NegInt z else PosInt (unsigned_abs z)

-- the number of an optional minus and digits, where it is from -2^63 to 2^64-1
abbrev pub number_of : List ℕ → Option Number
number_of text =
    option_and_then (λ z. if is_document_number z then Some (held_as text z) else None) (whole_number text)
