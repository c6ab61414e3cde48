use Rattle.smithy_shapes.specs.Site.{site_of}
use Rattle.smithy_value.specs.View.{view}
use Rattle.smithy_replay.proofs.WritesLemmas.{writes_body}
use Rattle.smithy_replay.proofs.tree_struct.TreeStruct.new.Goals as goal

pub returns-clause-writes : goal.returns-clause-writes
returns-clause-writes c = λ wire accepted nameless fit.
    writes_body wire c.args.shape.shapes.now c.args.shape.place (site_of c.args.shape).view (view c.args.value.now) accepted c.requires.structure c.requires.fits nameless fit
