use Rattle.std.proofs.Common.{◌≡◌, map, drop}
use Rattle.smithy_declarations.specs.Acceptance.{first_fault, tests}
use Rattle.smithy_declarations.specs.DeclViews.{decl_of}
use Rattle.smithy_declarations.specs.Private.Tests.{test_of, fault_of}
use Rattle.smithy_declarations.proofs.acceptance.check.Given as goal

abbrev pub invariant-loop-test : goal.invariant-loop-test
invariant-loop-test l =
    first_fault (map decl_of l.decls) (map (λ t. (fault_of t, test_of t)) (drop l.test-index l.test-items)) ≡ first_fault (map decl_of l.decls) tests
