use Rattle.std.proofs.Common.{◌≡◌, ◌++◌, map, take, flat_map}
use Rattle.smithy_declarations.specs.DeclViews.{member_decl_of}
use Rattle.smithy_table_text.specs.TableLines.{member_line}
use Rattle.smithy_table_text.proofs.writing.write_members.Given as goal

-- the lines so far
abbrev pub invariant-loop-member : goal.invariant-loop-member
invariant-loop-member l = l.out.items ≡ l.initial.out.items ++ flat_map member_line (map member_decl_of (take l.member-index l.members))
