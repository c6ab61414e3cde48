-- What is refused by its type, at small inputs.
use Rattle.std.proofs.Common.{◌≡◌, [], ◌∷◌, map, true, false, Some, None, refl, codes, replicate}
use Rattle.smithy_declarations.specs.declared.shape_type.Scalar.TheVariants as scalars
use Rattle.smithy_declarations.specs.declared.shape_type.TimestampFormat.TheVariants.{DateTime}
use Rattle.smithy_declarations.specs.Table.{structure_of, union_of}
use Rattle.smithy_json_values.specs.Settings.{default_settings}
use Rattle.smithy_json_values.specs.Codec.{strict_settings}
use Rattle.smithy_json_values.specs.TypeMismatch.{scalar_mismatches, type_mismatches}

-- a boolean: nothing, a part of a literal, another case, a number, a null
pub no_booleans : map (scalar_mismatches (strict_settings false) scalars.Boolean None) ([] ∷ codes "tru" ∷ codes "True" ∷ codes "1" ∷ codes "null" ∷ []) ≡ replicate 5 true
no_booleans = refl

-- a literal comes first, whatever follows it
pub booleans : map (scalar_mismatches (strict_settings false) scalars.Boolean None) (codes "true" ∷ codes "false," ∷ codes "truex" ∷ []) ≡ replicate 3 false
booleans = refl

-- seconds are a number, and a date is a string
pub seconds : map (scalar_mismatches (strict_settings false) scalars.Timestamp None) (codes "-" ∷ codes "0x" ∷ codes "\"1\"" ∷ codes "+1" ∷ codes ".5" ∷ []) ≡ false ∷ false ∷ true ∷ true ∷ true ∷ []
seconds = refl

pub dates : map (scalar_mismatches (strict_settings false) scalars.Timestamp (Some DateTime)) (codes "\"" ∷ codes "1" ∷ []) ≡ false ∷ true ∷ []
dates = refl

-- a big number is either
pub big_numbers : map (scalar_mismatches (strict_settings false) scalars.BigInteger None) (codes "01" ∷ codes "\"x" ∷ codes "[1]" ∷ codes "true" ∷ []) ≡ false ∷ false ∷ true ∷ true ∷ []
big_numbers = refl

-- where something is strict, an integer never is
pub integers : map (scalar_mismatches (strict_settings false) scalars.Long None) ([] ∷ codes "\"1\"" ∷ codes "1x" ∷ []) ≡ replicate 3 false
integers = refl

-- else it is where no digit and no sign comes, or a fraction or an exponent behind them
pub lenient_integers : map (scalar_mismatches default_settings scalars.Long None) ([] ∷ codes "\"1\"" ∷ codes "1x" ∷ codes "1.5" ∷ codes "1e2" ∷ codes "--" ∷ codes "." ∷ codes "+5" ∷ [])
    ≡ true ∷ true ∷ false ∷ true ∷ true ∷ false ∷ true ∷ false ∷ []
lenient_integers = refl

-- and an instant is a number or a string, whatever its form
pub lenient_instants : map (scalar_mismatches default_settings scalars.Timestamp (Some DateTime)) (codes "1" ∷ codes "\"" ∷ codes "+1" ∷ []) ≡ false ∷ false ∷ true ∷ []
lenient_instants = refl

-- where nothing comes a structure isn't refused by its type, and a union is
pub structures : map (type_mismatches default_settings (structure_of []) None) ([] ∷ codes "{" ∷ codes "[]" ∷ []) ≡ false ∷ false ∷ true ∷ []
structures = refl

pub unions : map (type_mismatches default_settings (union_of []) None) ([] ∷ codes "{" ∷ codes "[]" ∷ []) ≡ true ∷ false ∷ true ∷ []
unions = refl
