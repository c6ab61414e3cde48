use Rattle.std.proofs.Common.{◌≡◌, map, drop, length}
use Rattle.std.specs.Cmp.Lexicographic.{pointwise}
use Rattle.smithy_declarations.specs.DeclViews.{decl_of}
use Rattle.smithy_table_text.specs.Comparing.{same_decl}
use Rattle.smithy_table_text.proofs.equal.are_equal.Given as goal

abbrev pub invariant-loop-i : goal.invariant-loop-i
invariant-loop-i l = record {
  long : length l.a ≡ length l.b;
  equal : pointwise same_decl (map decl_of (drop l.i l.a)) (map decl_of (drop l.i l.b)) ≡ pointwise same_decl (map decl_of l.a) (map decl_of l.b);
}
