-- What reading the text of a scalar says.
use Rattle.std.specs.Prelude.{◌≡◌, ◌≢◌, ℕ, ℤ, List, Bool, true, false, Option, Some, None, Result, Ok, Err}
use Rattle.std.specs.Fmt.{signed_decimal}
use Rattle.smithy_texts.specs.Ranges.{fits_signed}
use Rattle.smithy_declarations.specs.declared.shape_type.ShapeType.{ShapeType}
use Rattle.smithy_declarations.specs.declared.shape_type.ShapeType.TheVariants as types
use Rattle.smithy_declarations.specs.declared.shape_type.TimestampFormat.{TimestampFormat}
use Rattle.smithy_declarations.specs.Table.{Kind}
use Rattle.smithy_declarations.specs.TimeForms.{form_holds}
use Rattle.smithy_declarations.specs.Value.{ScalarValue, whole, scalar_value}
use Rattle.smithy_shapes.specs.Fits.{is_scalar_of}
use Rattle.smithy_query_codec.specs.Leaves.{scalar_text}
use Rattle.smithy_value.specs.declared.value.Value as kept
use Rattle.smithy_value.specs.View.{view}
use Rattle.smithy_form.specs.declared.error.FormError.{FormError}
use Rattle.smithy_form.specs.declared.error.FormError.TheVariants.{NoValue, NoMemory}

-- the number of 128 bits that is written as the text, or that none is
abbrev pub TellsNumber : List ℕ → Option ℤ → Type 0
TellsNumber t (Some n) = (fits_signed 128 n ≡ true) × (signed_decimal n ≡ t)
TellsNumber t None = (n : ℤ) → fits_signed 128 n ≡ true → signed_decimal n ≢ t

-- the whole numbers of a type
abbrev pub is_whole_of : ShapeType → ℤ → Bool
is_whole_of types.Byte n = fits_signed 8 n
is_whole_of types.Short n = fits_signed 16 n
is_whole_of types.Integer n = fits_signed 32 n
is_whole_of types.Long n = fits_signed 64 n
is_whole_of types.BigInteger n = fits_signed 128 n
is_whole_of _ n = false

-- the whole number of the type that is written as the text, or that none is
abbrev pub ReadsWhole : ShapeType → List ℕ → Result kept.Value FormError → Type 0
ReadsWhole type t (Ok v) = (n : ℤ) × (view v ≡ scalar_value (whole n)) × (is_whole_of type n ≡ true) × (signed_decimal n ≡ t)
ReadsWhole type t (Err NoValue) = (n : ℤ) → is_whole_of type n ≡ true → signed_decimal n ≢ t
ReadsWhole type t (Err _) = ⊥

-- the scalar of the kind is written as the text
abbrev pub IsWritten : Kind → TimestampFormat → List ℕ → ScalarValue → Type 0
IsWritten k form t x = (is_scalar_of k x ≡ true) × (form_holds form x ≡ true) × (scalar_text form x ≡ t)

-- the scalar of the kind that is written as the text, or that none is
abbrev pub ReadsScalar : Kind → TimestampFormat → List ℕ → Result kept.Value FormError → Type 0
ReadsScalar k form t (Ok v) = (x : ScalarValue) × (view v ≡ scalar_value x) × IsWritten k form t x
ReadsScalar k form t (Err NoValue) = (x : ScalarValue) → IsWritten k form t x → ⊥
ReadsScalar k form t (Err NoMemory) = Unit {0}
ReadsScalar k form t (Err _) = ⊥
