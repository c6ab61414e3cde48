use Rattle.smithy_model.proofs.Entries.{all_items_kept}
use Rattle.smithy_model.proofs.objects.items_of.Goals as goal

pub returns-in-Array : goal.returns-in-Array
returns-in-Array c = rw (c.as_slice.ensures.value, c.in-Array.is) (all_items_kept c.in-Array.items)
