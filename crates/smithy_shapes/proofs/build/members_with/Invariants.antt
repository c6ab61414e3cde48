use Rattle.std.proofs.Common.{◌≡◌, map, length}
use Rattle.smithy_declarations.specs.DeclViews.{member_decl_of}
use Rattle.smithy_shapes.specs.Views.{member_of}
use Rattle.smithy_shapes.specs.Private.Placed.{members_with}
use Rattle.smithy_shapes.proofs.build.members_with.Given as goal

abbrev pub invariant-loop-member : goal.invariant-loop-member
invariant-loop-member l = record {
  counted : length l.shapes.items ≡ length l.yielded;
  so_far : map member_of l.shapes.items ≡ members_with (map member_decl_of l.yielded) l.places;
}
