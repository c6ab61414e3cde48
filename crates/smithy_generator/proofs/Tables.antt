-- The table's text is the table, which has the root.
use Rattle.std.proofs.Common.{◌≡◌, Some, refl, codes}
use Rattle.smithy_declarations.specs.Table.{declared_as}
use Rattle.smithy_declarations.specs.Acceptance.{accepted, table_of}
use Rattle.std.specs.Str.{is_utf8, chars}
use Rattle.smithy_generator.specs.Generated.{generated_table}
use Rattle.smithy_generator.specs.GeneratedShapes.{generated_shapes, generated_root}

pub table_is : table_of generated_table ≡ accepted generated_shapes
unfolding is_utf8 chars lib.Utf8.encode
table_is = refl

pub root_is : declared_as generated_shapes (codes "S") ≡ Some generated_root
root_is = refl
