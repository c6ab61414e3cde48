use Rattle.std.proofs.Common.{[]}
use Rattle.smithy_value.proofs.writing.write_value.Goals as goal

-- nothing is stored beside a value
pub part-requires-clause-sound : goal.part-requires-clause-sound
part-requires-clause-sound g c = ([], tt)

pub write_tree-requires-clause-sound : goal.write_tree-requires-clause-sound
write_tree-requires-clause-sound g c = ([], tt)
