use Rattle.std.proofs.Common.{◌≡◌, ◌-◌, ℕ, List, length}
use Rattle.std.specs.List.{concat}
use Rattle.cbor_item.specs.Private.Joined.{AreChunksAt}
use Rattle.cbor_item.proofs.strings.joined_bytes.Given as goal

-- the bytes so far are those of the chunks that were passed
abbrev pub invariant-chunks : goal.invariant-chunks
invariant-chunks l =
    (chunks : List (List ℕ)) × AreChunksAt 2 chunks l.input l.at l.end × (l.bytes.items ≡ concat chunks)

abbrev pub decreases-chunks : goal.decreases-chunks
decreases-chunks l = length l.input - l.end
