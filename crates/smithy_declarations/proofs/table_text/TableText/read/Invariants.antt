use Rattle.std.proofs.Common.{◌≡◌, map, length}
use Rattle.smithy_declarations.specs.TableText.{declarations}
use Rattle.smithy_declarations.specs.DeclViews.{decl_of}
use Rattle.smithy_declarations.specs.Private.Words.{texts}
use Rattle.smithy_declarations.proofs.TableTextLemmas.{after_parts}
use Rattle.smithy_declarations.proofs.table_text.TableText.read.Given as goal

abbrev pub invariant-loop-line : goal.invariant-loop-line
invariant-loop-line l = record {
  can_next : (goal.iterator-loop-line).can_next l.line-iterator;
  is_finite : (goal.iterator-loop-line).is_finite l.line-iterator;
  counted : l.number ≡ length l.yielded;
  so_far : after_parts (texts l.yielded) ≡ declarations (map decl_of l.decls.items);
}
