use Rattle.smithy_shapes.specs.Site.{site_of}
use Rattle.smithy_transcode.specs.Wires.{wire_of}
use Rattle.smithy_transcode.proofs.Unfits.{nothing_lacks, can_count, null_lacks, instant_lacks}
use Rattle.smithy_transcode.proofs.expressing.unfit.Goals as goal

pub returns-then-passes-clause-unfit : goal.returns-then-passes-clause-unfit
returns-then-passes-clause-unfit g c =
    nothing_lacks (wire_of c.args.to.now) c.test_of-test.result (site_of c.args.schema.now) (g.P.Trees.view c.args.trees.now c.args.value.now) c.test_of-test.ensures.holds c.test_of-test.ensures.nulls
    c.passes.result c.passes.ensures.0 c.if-passes.true

pub returns-then-passes-clause-positions : goal.returns-then-passes-clause-positions
returns-then-passes-clause-positions g c = λ _.
    can_count (wire_of c.args.to.now) c.test_of-test.result (site_of c.args.schema.now) (g.P.Trees.view c.args.trees.now c.args.value.now) c.test_of-test.ensures.holds c.test_of-test.ensures.nulls
    c.passes.result c.passes.ensures.1 c.if-passes.true

pub returns-then-has_unwritable_null-clause-unfit : goal.returns-then-has_unwritable_null-clause-unfit
returns-then-has_unwritable_null-clause-unfit g c =
    null_lacks (wire_of c.args.to.now) c.test_of-test.result (site_of c.args.schema.now) (g.P.Trees.view c.args.trees.now c.args.value.now) c.test_of-test.ensures.holds c.test_of-test.ensures.nulls
    c.has_unwritable_document.result c.has_unwritable_document.ensures c.if-has_unwritable_document.false
    c.has_unwritable_null.result c.has_unwritable_null.ensures c.if-has_unwritable_null.true

pub returns-else-has_unwritable_null-clause-unfit : goal.returns-else-has_unwritable_null-clause-unfit
returns-else-has_unwritable_null-clause-unfit g c =
    instant_lacks (wire_of c.args.to.now) c.test_of-test.result (site_of c.args.schema.now) (g.P.Trees.view c.args.trees.now c.args.value.now) c.test_of-test.ensures.holds c.test_of-test.ensures.nulls
    c.has_unwritable_document.result c.has_unwritable_document.ensures c.if-has_unwritable_document.false
    c.passes.result c.has_unwritable_null.result c.passes.ensures.0 c.if-passes.false c.has_unwritable_null.ensures c.if-has_unwritable_null.false
