use Rattle.smithy_shapes.specs.Site.{site_of}
use Rattle.smithy_typed.proofs.SetFields.{none_there}
use Rattle.smithy_typed.proofs.fields.NoFieldFieldList.read_field.Goals as goal

pub returns-clause-reads : goal.returns-clause-reads
returns-clause-reads g c = λ there. absurd (none_there c.args._position (site_of c.args._member.now) there)
