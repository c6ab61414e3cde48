-- The targets that are looked for in a table.
use Rattle.std.specs.Prelude.{Bool}
use Rattle.smithy_declarations.specs.declared.place.Target.{Target}
use Rattle.smithy_shapes.specs.declared.targets.Sought.{Sought}
use Rattle.smithy_shapes.specs.declared.targets.Sought.TheVariants.{Timestamps, Documents}
use Rattle.smithy_declarations.specs.Table.{is_document_target}
use Rattle.smithy_shapes.specs.Targets.{is_timestamp_target}

-- the target is what is sought: a timestamp, or a document
abbrev pub is_sought : Sought → Target → Bool
is_sought Timestamps = is_timestamp_target
is_sought Documents = is_document_target
