use Rattle.std.proofs.Common.{◌+◌, ◌-◌, ◌*◌, length}
use Rattle.smithy_lint.specs.Private.CborEnds.{EntriesWalked}
use Rattle.smithy_lint.proofs.cbor_end.+nest.Given as goal

-- what may still be opened, and which function comes before which
abbrev pub decreases-item_end : goal.decreases-item_end
decreases-item_end l = 3 * (513 - l.outer)

abbrev pub decreases-entry_end : goal.decreases-entry_end
decreases-entry_end l = 3 * (513 - l.outer) + 1

abbrev pub decreases-entries_end : goal.decreases-entries_end
decreases-entries_end l = 3 * (513 - l.outer) + 2

-- the entries that came, and those that are left
abbrev pub invariant-entries_end-entries : goal.invariant-entries_end-entries
invariant-entries_end-entries l = EntriesWalked l.is_map l.fn.due l.bytes l.fn.at l.outer l.due l.at

abbrev pub decreases-entries_end-entries : goal.decreases-entries_end-entries
decreases-entries_end-entries l = length l.bytes - l.at
