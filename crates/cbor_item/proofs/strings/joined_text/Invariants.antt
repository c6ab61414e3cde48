use Rattle.std.proofs.Common.{◌≡◌, ◌-◌, ℕ, List, length}
use Rattle.std.specs.Prelude.{◌↔◌, IsTrue, All, IsUtf8, string_bytes}
use Rattle.std.specs.List.{concat}
use Rattle.cbor_item.specs.Private.Joined.{AreChunksAt}
use Rattle.cbor_item.proofs.strings.joined_text.Given as goal

-- the text so far is that of the chunks that were passed, while each of them is UTF-8
abbrev pub invariant-chunks : goal.invariant-chunks
invariant-chunks l =
    (chunks : List (List ℕ)) × AreChunksAt 3 chunks l.input l.at l.end
    × (IsTrue l.is_utf8 ↔ All IsUtf8 chunks) × (IsTrue l.is_utf8 → string_bytes l.text ≡ concat chunks)

abbrev pub decreases-chunks : goal.decreases-chunks
decreases-chunks l = length l.input - l.end
