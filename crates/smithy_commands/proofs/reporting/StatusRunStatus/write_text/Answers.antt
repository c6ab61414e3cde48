use Rattle.std.proofs.Common.{arith}
use Rattle.std.proofs.lemmas.Grind.{elements}
use Rattle.smithy_commands.proofs.reporting.StatusRunStatus.write_text.Goals as goal

pub returns-in-InvalidInput : goal.returns-in-InvalidInput
returns-in-InvalidInput g c = grind (arith, elements)

pub returns-in-NotCarried : goal.returns-in-NotCarried
returns-in-NotCarried g c = grind (arith, elements)

pub returns-in-Inexpressible-Document : goal.returns-in-Inexpressible-Document
returns-in-Inexpressible-Document g c = grind (arith, elements)

pub returns-in-Inexpressible-Null : goal.returns-in-Inexpressible-Null
returns-in-Inexpressible-Null g c = grind (arith, elements)

pub returns-in-Inexpressible-Instant : goal.returns-in-Inexpressible-Instant
returns-in-Inexpressible-Instant g c = grind (arith, elements)

pub returns-in-NoSuchShape : goal.returns-in-NoSuchShape
returns-in-NoSuchShape g c = grind (arith, elements)

pub returns-in-NotAStructure : goal.returns-in-NotAStructure
returns-in-NotAStructure g c = grind (arith, elements)
