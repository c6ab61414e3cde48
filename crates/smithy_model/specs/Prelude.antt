-- The shapes that each Smithy model may name without declaring them (Smithy 2.0, "Prelude").
use Rattle.std.specs.Prelude.{ℕ, List, [], ◌∷◌, ◌++◌, false, None, if◌then◌else◌, codes, bytes_eq, map}
use Rattle.smithy_model.specs.Model.{Kind, simple, float, structure, Shape}

-- the ids of scalars and documents, with their names in a table; of floats, which it has none of, `float`
abbrev pub scalar_names : List (List ℕ × List ℕ)
scalar_names =
    (codes "smithy.api#String", codes "string") ∷ (codes "smithy.api#Blob", codes "blob")
    ∷ (codes "smithy.api#Boolean", codes "boolean") ∷ (codes "smithy.api#PrimitiveBoolean", codes "boolean")
    ∷ (codes "smithy.api#Byte", codes "byte") ∷ (codes "smithy.api#PrimitiveByte", codes "byte")
    ∷ (codes "smithy.api#Short", codes "short") ∷ (codes "smithy.api#PrimitiveShort", codes "short")
    ∷ (codes "smithy.api#Integer", codes "integer") ∷ (codes "smithy.api#PrimitiveInteger", codes "integer")
    ∷ (codes "smithy.api#Long", codes "long") ∷ (codes "smithy.api#PrimitiveLong", codes "long")
    ∷ (codes "smithy.api#BigInteger", codes "bigInteger") ∷ (codes "smithy.api#BigDecimal", codes "bigDecimal")
    ∷ (codes "smithy.api#Timestamp", codes "timestamp") ∷ (codes "smithy.api#Document", codes "document")
    ∷ (codes "smithy.api#Float", codes "float") ∷ (codes "smithy.api#PrimitiveFloat", codes "float")
    ∷ (codes "smithy.api#Double", codes "float") ∷ (codes "smithy.api#PrimitiveDouble", codes "float") ∷ []

-- a shape without traits
abbrev pub plain : List ℕ → Kind → Shape
plain id kind = record {
  id = id;
  kind = kind;
  mixins = [];
  is_sparse = false;
  is_flattened = false;
  time_format = None;
  has_local_sparse = false;
  has_local_time = false;
}

-- the kind of such a name
abbrev pub kind_named : List ℕ → Kind
kind_named name = if bytes_eq name (codes "float") then float else simple name

abbrev pub scalar_shape : List ℕ × List ℕ → Shape
scalar_shape named = plain named.0 (kind_named named.1)

-- scalars and documents, and the empty structure
abbrev pub prelude : List Shape
prelude = map scalar_shape scalar_names ++ plain (codes "smithy.api#Unit") (structure []) ∷ []
