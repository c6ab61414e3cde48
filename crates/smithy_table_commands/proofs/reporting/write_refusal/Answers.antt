use Rattle.std.proofs.Common.{arith}
use Rattle.std.proofs.lemmas.Grind.{elements}
use Rattle.smithy_table_commands.proofs.reporting.write_refusal.Goals as goal

pub returns-in-UnknownTarget : goal.returns-in-UnknownTarget
returns-in-UnknownTarget g c = grind (arith, elements)

pub returns-in-UnknownTimeFormat : goal.returns-in-UnknownTimeFormat
returns-in-UnknownTimeFormat g c = grind (arith, elements)

pub returns-in-DuplicateShape : goal.returns-in-DuplicateShape
returns-in-DuplicateShape g c = grind (arith, elements)

pub returns-in-KeyValueName : goal.returns-in-KeyValueName
returns-in-KeyValueName g c = grind (arith, elements)

pub returns-in-SparseDocument : goal.returns-in-SparseDocument
returns-in-SparseDocument g c = grind (arith, elements)
