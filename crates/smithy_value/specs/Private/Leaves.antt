-- The kinds that are no containers.
use Rattle.std.specs.Prelude.{Option, Some}
use Rattle.smithy_declarations.specs.declared.shape_type.ShapeType.{ShapeType}
use Rattle.smithy_declarations.specs.declared.shape_type.ShapeType.TheVariants as types

-- those that few tables have
abbrev pub IsRare : Option ShapeType → Type 0
IsRare (Some types.BigInteger) = Unit {0}
IsRare (Some types.BigDecimal) = Unit {0}
IsRare (Some types.Timestamp) = Unit {0}
IsRare (Some types.Document) = Unit {0}
IsRare _ = ⊥

abbrev pub IsLeaf : Option ShapeType → Type 0
IsLeaf (Some types.List) = ⊥
IsLeaf (Some types.Map) = ⊥
IsLeaf (Some types.Structure) = ⊥
IsLeaf (Some types.Union) = ⊥
IsLeaf (Some _) = Unit {0}
IsLeaf _ = ⊥
