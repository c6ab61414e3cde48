-- What a call says of its answer that looks for something at a place of an input.
use Rattle.std.specs.Prelude.{◌≤◌, ℕ, ℤ, List, [], ◌∷◌, length, Option, Result, IfOk, IfErr, FitsSigned}
use Rattle.std.specs.Option.{SomeIff}
use Rattle.std.specs.Int.{w128}
use Rattle.cbor_item.specs.declared.error.ItemError.{ItemError}
use Rattle.cbor_item.specs.Item.{definite, byte_string}
use Rattle.cbor_item.specs.WellFormed.{IsItemAt}
use Rattle.smithy_cbor.specs.Scalar.{big_endian}
use Rattle.smithy_cbor.specs.Reading.{IsBigIntegerAt}
use Rattle.smithy_cbor.specs.Private.HeadNumber.{number_of}

-- It finds what P says, with its end in the input, or F tells why not.
pub record FindsAt {A : Type 0} (P : A → List ℕ → ℕ → ℕ → Type 0) (F : List ℕ → ℕ → ItemError → Type 0) (input : List ℕ) (at : ℕ) (result : Result (A × ℕ) ItemError) : Type 0 where
  pub found : IfOk result (λ r. P r.0 input at r.1)
  pub within : IfOk result (λ r. r.1 ≤ length input)
  pub refused : IfErr result (F input at)

-- a whole number stands there, and this is it, where 128 bits hold it
abbrev pub IsWideAt : Option ℤ → List ℕ → ℕ → ℕ → Type 0
IsWideAt number input at end = (z : ℤ) × IsBigIntegerAt z input at end × SomeIff number (FitsSigned w128 z) z

-- a definite byte string stands there, and this is its number n, or -1 - n for the major type 1, where 128 bits hold it
abbrev pub IsBignumAt : ℕ → Option ℤ → List ℕ → ℕ → ℕ → Type 0
IsBignumAt major number input at end =
    (chunk : List ℕ) × IsItemAt (byte_string definite (chunk ∷ [])) input at end
    × SomeIff number (FitsSigned w128 (number_of major (big_endian chunk))) (number_of major (big_endian chunk))

-- It finds an exponent and a mantissa of which P holds, the mantissa where 128 bits hold it, with their end, or F tells why not.
pub record FindsParts (P : ℤ → ℤ → List ℕ → ℕ → ℕ → Type 0) (F : List ℕ → ℕ → ItemError → Type 0) (input : List ℕ) (at : ℕ) (result : Result (ℤ × Option ℤ × ℕ) ItemError) : Type 0 where
  pub found : IfOk result (λ r. (m : ℤ) × P r.0 m input at r.2 × SomeIff r.1 (FitsSigned w128 m) m)
  pub fits : IfOk result (λ r. FitsSigned w128 r.0)
  pub refused : IfErr result (F input at)
