use Rattle.smithy_table_commands.proofs.reporting.StatusRunStatus.write_text.Goals as goal

pub returns-in-NoSuchName : goal.returns-in-NoSuchName
returns-in-NoSuchName g c = rw c.in-NoSuchName.is c.write_bytes-in-NoSuchName.ensures.written

pub returns-in-NoDeclaration : goal.returns-in-NoDeclaration
returns-in-NoDeclaration g c = rw c.in-NoDeclaration.is c.write_bytes-in-NoDeclaration.ensures.written

pub returns-in-BadShape : goal.returns-in-BadShape
returns-in-BadShape g c = rw c.in-BadShape.is c.write_two.ensures

pub returns-in-UnknownTarget : goal.returns-in-UnknownTarget
returns-in-UnknownTarget g c = rw c.in-UnknownTarget.is c.write_two-in-UnknownTarget.ensures

pub returns-in-Unwritable : goal.returns-in-Unwritable
returns-in-Unwritable g c = rw c.in-Unwritable.is c.write_bytes-in-Unwritable.ensures.written

pub returns-in-LeftOut : goal.returns-in-LeftOut
returns-in-LeftOut g c = rw c.in-LeftOut.is c.write_bytes-in-LeftOut.ensures.written

pub returns-in-NameTwice : goal.returns-in-NameTwice
returns-in-NameTwice g c = rw c.in-NameTwice.is c.write_bytes-in-NameTwice.ensures.written
