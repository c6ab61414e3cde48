use Rattle.std.proofs.Common.{◌≡◌, map}
use Rattle.smithy_declarations.specs.Acceptance.{first_failing}
use Rattle.smithy_declarations.specs.DeclViews.{decl_of}
use Rattle.smithy_declarations.specs.Private.Tests.{test_of}
use Rattle.smithy_declarations.proofs.AcceptanceLemmas.{failing_from}
use Rattle.smithy_declarations.proofs.acceptance.first_failing.Given as goal

abbrev pub invariant-loop-position : goal.invariant-loop-position
invariant-loop-position l =
    failing_from (map decl_of l.decls) (test_of l.test (map decl_of l.decls)) l.position ≡ first_failing (map decl_of l.decls) (test_of l.test)
