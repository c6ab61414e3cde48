use Rattle.std.proofs.Common.{false}
use Rattle.smithy_shapes.specs.Site.{site_of}
use Rattle.smithy_schema.specs.Fields.{structure_with}
use Rattle.smithy_typed.proofs.Made.{read_due}
use Rattle.smithy_typed.proofs.structures.read_structure.Goals as goal

pub returns-clause-reads : goal.returns-clause-reads
returns-clause-reads g c =
    let d = g.D.ShapeDeserializer in
    let same = g.met.D.ShapeDeserializer.stays_set (d.settings c.args.source.now) false c.requires.nulls in
    read_due (λ x. structure_with (g.T.FromFields.made x)) _ _ _ (site_of c.args.schema.now) c.read_root.result c.requires.due (rw same at c.read_root.ensures.reads)
