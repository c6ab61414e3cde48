use Rattle.std.proofs.Common.{◌≡◌, map, length}
use Rattle.smithy_declarations.specs.DeclViews.{decl_of}
use Rattle.smithy_shapes.specs.Views.{declaration_of}
use Rattle.smithy_shapes.specs.Private.Placed.{table_with}
use Rattle.smithy_shapes.proofs.build.declarations_with.Given as goal

abbrev pub invariant-loop-decl : goal.invariant-loop-decl
invariant-loop-decl l = record {
  counted : length l.declarations.items ≡ length l.yielded;
  so_far : map declaration_of l.declarations.items ≡ table_with (map decl_of l.yielded) (map (λ p. p.items) l.all);
}
