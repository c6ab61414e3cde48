use Rattle.std.proofs.Common.{sym, ◌∙◌}
use Rattle.smithy_schema.proofs.read.ShapeDeserializer.read_list.Goals as goal

pub returns-then-takes_nulls-clause-reads : goal.returns-then-takes_nulls-clause-reads
returns-then-takes_nulls-clause-reads g c = rw (sym c.takes_nulls.ensures ∙ c.if-takes_nulls.true) c.each_element.ensures.reads

-- the settings of the loop are those without nulls, and the reader is where the loop left it
pub returns-clause-reads : goal.returns-clause-reads
returns-clause-reads g c =
    let first = c.dispatch_null_members-dispatched.ensures in
    rw (sym c.takes_nulls.ensures ∙ c.if-takes_nulls.false, c.dispatch_null_members.ensures.stays) (rw (first.set, first.stays) at c.each_element-result.ensures.reads)
