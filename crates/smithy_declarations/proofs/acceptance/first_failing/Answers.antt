use Rattle.std.proofs.Common.{sym, ◌∙◌, arith, map}
use Rattle.smithy_declarations.specs.Acceptance.{first_failing}
use Rattle.smithy_declarations.specs.DeclViews.{decl_of}
use Rattle.smithy_declarations.specs.Private.Tests.{test_of}
use Rattle.smithy_declarations.proofs.AcceptanceLemmas.{fails_here, passes_here}
use Rattle.smithy_declarations.proofs.acceptance.first_failing.Goals as goal

pub returns-then-branch : goal.returns-then-branch
returns-then-branch c =
    let ds = map decl_of c.args.decls.now in
    fails_here decl_of c.args.decls.now (test_of c.args.test ds) c.loop-position.position c.index-decls-position.result (first_failing ds (test_of c.args.test)) (omega arith)
    c.index-decls-position.is (sym c.if-branch.true ∙ c.in_ok-fails.ensures) c.loop-position.invariant

pub loop-position-preserved : goal.loop-position-preserved
loop-position-preserved c =
    let ds = map decl_of c.args.decls.now in
    passes_here decl_of c.args.decls.now (test_of c.args.test ds) c.loop-position.position c.index-decls-position.result (first_failing ds (test_of c.args.test)) (omega arith)
    c.index-decls-position.is (sym c.if-branch.false ∙ c.in_ok-fails.ensures) c.loop-position.invariant
