use Rattle.std.proofs.Common.{◌≡◌, map, take}
use Rattle.smithy_declarations.specs.DeclViews.{decl_of}
use Rattle.smithy_table_text.specs.TableLines.{table_text}
use Rattle.smithy_table_text.proofs.writing.write_table.Given as goal

-- the lines so far
abbrev pub invariant-loop-decl : goal.invariant-loop-decl
invariant-loop-decl l = l.out.items ≡ table_text (map decl_of (take l.decl-index l.decls))
