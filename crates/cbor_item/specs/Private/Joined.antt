-- Chunks from a place on, up to the break after them.
use Rattle.std.specs.Prelude.{◌≡◌, ◌≤◌, ◌+◌, ℕ, ⊤, List, [], ◌∷◌, All, IsUtf8, drop, length, slice_range}
use Rattle.std.specs.List.{concat}
use Rattle.cbor_item.specs.declared.error.ItemError.{ItemError}
use Rattle.cbor_item.specs.declared.error.ItemError.TheVariants.{Truncated, NotWellFormed, WrongType, InvalidUtf8, NoMemory}
use Rattle.cbor_item.specs.declared.skip.Due.TheVariants.{ChunksUntilBreak}
use Rattle.cbor_item.specs.WellFormed.{break, AreChunks}
use Rattle.cbor_item.specs.Private.Skip.{State, between, stopped, cut, broken, Reaches}

-- these chunks of the major type stand in the input from the place on, and end at `end`
abbrev pub AreChunksAt : ℕ → List (List ℕ) → List ℕ → ℕ → ℕ → Type 0
AreChunksAt major chunks input at end =
    (at ≤ end) × (end ≤ length input) × AreChunks major chunks (slice_range input at end)

-- these chunks of the major type stand in the input from the place on, with a break behind them that ends at `end`
abbrev pub AreClosedAt : ℕ → List (List ℕ) → List ℕ → ℕ → ℕ → Type 0
AreClosedAt major chunks input at end =
    (stop : ℕ) × (end ≡ stop + 1) × AreChunksAt major chunks input at stop
    × (drop stop input ≡ break ∷ drop end input)

-- from the place on stand chunks up to a break that ends at `end`, and the bytes are those of all these chunks
abbrev pub AreJoined : ℕ → List ℕ → ℕ → List ℕ → ℕ → Type 0
AreJoined major input at bytes end =
    (chunks : List (List ℕ)) × AreClosedAt major chunks input at end × (bytes ≡ concat chunks)

-- from the place on stand chunks of text up to a break that ends at `end`, each of them UTF-8, and the bytes are those of all
abbrev pub AreJoinedTexts : List ℕ → ℕ → List ℕ → ℕ → Type 0
AreJoinedTexts input at bytes end =
    (chunks : List (List ℕ)) × AreClosedAt 3 chunks input at end × (bytes ≡ concat chunks)
    × All IsUtf8 chunks

-- the state of skipping in which chunks of the major type are due at the place
abbrev pub chunks_due : ℕ → List ℕ → ℕ → State
chunks_due major input at = between (ChunksUntilBreak major ∷ []) (drop at input)

-- why no chunks up to a break stand at the place: the input ends before the break, or something else than a chunk comes
abbrev pub IsJoinFault : ℕ → List ℕ → ℕ → ItemError → Type 0
IsJoinFault major input at Truncated = Reaches (chunks_due major input at) (stopped cut)
IsJoinFault major input at NotWellFormed = Reaches (chunks_due major input at) (stopped broken)
IsJoinFault major input at WrongType = ⊥
IsJoinFault major input at InvalidUtf8 = ⊥
IsJoinFault major input at NoMemory = ⊤

-- why no text in chunks stands at the place: one of the chunks is not UTF-8, or the chunks do not end in a break
abbrev pub IsTextJoinFault : List ℕ → ℕ → ItemError → Type 0
IsTextJoinFault input at InvalidUtf8 =
    (chunks : List (List ℕ)) × (end : ℕ) × AreClosedAt 3 chunks input at end
    × ¬ (All IsUtf8 chunks)
IsTextJoinFault input at e = IsJoinFault 3 input at e
