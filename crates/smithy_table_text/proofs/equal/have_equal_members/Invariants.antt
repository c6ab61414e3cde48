use Rattle.std.proofs.Common.{◌≡◌, map, drop, length}
use Rattle.smithy_declarations.specs.DeclViews.{member_decl_of}
use Rattle.smithy_table_text.specs.Comparing.{same_members}
use Rattle.smithy_table_text.proofs.equal.have_equal_members.Given as goal

abbrev pub invariant-loop-i : goal.invariant-loop-i
invariant-loop-i l = record {
  long : length l.a ≡ length l.b;
  equal : same_members (map member_decl_of (drop l.i l.a)) (map member_decl_of (drop l.i l.b)) ≡ same_members (map member_decl_of l.a) (map member_decl_of l.b);
}
