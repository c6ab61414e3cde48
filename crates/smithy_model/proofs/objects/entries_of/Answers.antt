use Rattle.smithy_model.proofs.Entries.{entries_kept}
use Rattle.smithy_model.proofs.objects.entries_of.Goals as goal

pub returns-in-Object : goal.returns-in-Object
returns-in-Object c = rw (c.as_slice.ensures.value, c.in-Object.is) (entries_kept c.in-Object.members)
