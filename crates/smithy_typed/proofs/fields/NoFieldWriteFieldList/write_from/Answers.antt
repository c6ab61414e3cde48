use Rattle.smithy_schema.proofs.WrittenFields.{nothing_added}
use Rattle.smithy_typed.proofs.fields.NoFieldWriteFieldList.write_from.Goals as goal

pub returns : goal.returns
returns g c = record { adds = nothing_added _ _ _ _ c.requires.inside c.requires.sound }
