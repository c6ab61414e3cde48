use Rattle.std.proofs.Common.{◌∙◌}
use Rattle.smithy_value.proofs.Maps.{told, told_keyed}
use Rattle.smithy_value.proofs.entries.Entries.len.Goals as goal

pub returns-in-Map : goal.returns-in-Map
returns-in-Map g c = λ view key. rw c.in-Map.is (c.len.ensures.len ∙ told view c.in-Map.map.now.entries)

pub returns-in-Slice : goal.returns-in-Slice
returns-in-Slice g c = λ view key. rw c.in-Slice.is (told_keyed view key c.in-Slice.slice.now)
