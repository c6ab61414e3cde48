-- Texts of booleans and of whole numbers.
use Rattle.std.specs.Prelude.{ℕ, Bool, if◌then◌else◌, List, codes}
use Rattle.std.specs.Fmt.{signed_decimal, decimal}
use Rattle.smithy_types.specs.declared.primitive.Primitive.{Primitive}
use Rattle.smithy_types.specs.declared.primitive.Primitive.TheVariants.{Boolean, Signed, Unsigned}

-- `true` or `false`
abbrev pub boolean_text : Bool → List ℕ
boolean_text b = if b then codes "true" else codes "false"

-- the text of a value
abbrev pub primitive_text : Primitive → List ℕ
primitive_text (Boolean b) = boolean_text b
primitive_text (Signed z) = signed_decimal z
primitive_text (Unsigned n) = decimal n
