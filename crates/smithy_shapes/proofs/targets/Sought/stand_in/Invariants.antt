use Rattle.std.proofs.Common.{◌≡◌, map, drop}
use Rattle.smithy_shapes.specs.Targets.{table_has}
use Rattle.smithy_shapes.specs.Views.{declaration_of}
use Rattle.smithy_shapes.specs.Private.Sought.{is_sought}
use Rattle.smithy_shapes.proofs.targets.Sought.stand_in.Given as goal

abbrev pub invariant-loop-declaration : goal.invariant-loop-declaration
invariant-loop-declaration l =
    table_has (is_sought l.self) (map declaration_of (drop l.declaration-index l.declarations))
    ≡ table_has (is_sought l.self) (map declaration_of l.declarations)
