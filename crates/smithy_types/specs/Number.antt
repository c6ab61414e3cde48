-- Whole numbers of 64 bits, with or without a sign.
use Rattle.std.specs.Prelude.{ℤ, pos}
use Rattle.smithy_types.specs.declared.number.Number.{Number}
use Rattle.smithy_types.specs.declared.number.Number.TheVariants.{PosInt, NegInt}

-- the number, whichever variant has it
abbrev pub whole_number : Number → ℤ
whole_number (PosInt n) = pos n
whole_number (NegInt z) = z
