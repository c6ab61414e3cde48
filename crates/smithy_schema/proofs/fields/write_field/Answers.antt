use Rattle.smithy_schema.proofs.WrittenFields.{nothing_added}
use Rattle.smithy_schema.proofs.fields.write_field.Goals as goal

pub returns-in_default : goal.returns-in_default
returns-in_default g c = record { adds = rw c.in_default.is (nothing_added _ _ _ _ c.requires.inside c.requires.sound) }
