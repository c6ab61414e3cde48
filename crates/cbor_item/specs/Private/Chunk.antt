-- What begins at a place: a head, a chunk or a break.
use Rattle.std.specs.Prelude.{◌≢◌, ◌≤◌, ◌<◌, ◌-◌, ◌⊎◌, ℕ, ◌==◌, Bool, false, List, [], ◌∷◌, length, drop, Some, IsNone, Result, Ok, Err}
use Rattle.cbor_item.specs.declared.error.ItemError.{ItemError}
use Rattle.cbor_item.specs.declared.error.ItemError.TheVariants.{Truncated, NotWellFormed, WrongType, InvalidUtf8, NoMemory}
use Rattle.cbor_item.specs.declared.chunk.Chunk.{Chunk}
use Rattle.cbor_item.specs.Head.{HeadRead, BeginsWithHead, IsCutHead, IsBrokenHead}
use Rattle.cbor_item.specs.WellFormed.{break}

-- what the bytes begin with
pub data HeadAnswer : Type 0 where
  whole : HeadRead → HeadAnswer
  cut_head : HeadAnswer
  broken_head : HeadAnswer

abbrev pub IsHeadAnswer : List ℕ → HeadAnswer → Type 0
IsHeadAnswer bytes (whole h) = BeginsWithHead bytes h
IsHeadAnswer bytes cut_head = IsCutHead bytes
IsHeadAnswer bytes broken_head = IsBrokenHead bytes

-- the next byte is a break
abbrev pub begins_with_break : List ℕ → Bool
begins_with_break [] = false
begins_with_break (b ∷ bytes) = b == break

-- a whole head that is no definite string of the major type
abbrev pub IsOtherHead : ℕ → List ℕ → Type 0
IsOtherHead major bytes =
    (h : HeadRead) × BeginsWithHead bytes h × ((h.major ≢ major) ⊎ IsNone h.argument)

-- the first bytes are the head of a definite string of the major type and so many bytes
abbrev pub BeginsWithChunk : ℕ → ℕ → ℕ → List ℕ → Type 0
BeginsWithChunk major announced head_length bytes =
    BeginsWithHead bytes
    (record { major = major; argument = Some announced; length = head_length })

-- the bytes end before a chunk's do
abbrev pub EndsInChunk : ℕ → List ℕ → Type 0
EndsInChunk major bytes =
    (announced head_length : ℕ) × BeginsWithChunk major announced head_length bytes
    × (length (drop head_length bytes) < announced)

-- a chunk of the major type stands there, or its first fault from the left
abbrev pub IsChunkAnswer : ℕ → List ℕ → ℕ → Result Chunk ItemError → Type 0
IsChunkAnswer major input at (Ok chunk) =
    (at < chunk.start) × (chunk.start ≤ chunk.end) × (chunk.end ≤ length input)
    × BeginsWithChunk major (chunk.end - chunk.start) (chunk.start - at) (drop at input)
IsChunkAnswer major input at (Err Truncated) =
    IsCutHead (drop at input) ⊎ EndsInChunk major (drop at input)
IsChunkAnswer major input at (Err NotWellFormed) =
    IsBrokenHead (drop at input) ⊎ IsOtherHead major (drop at input)
IsChunkAnswer major input at (Err WrongType) = ⊥
IsChunkAnswer major input at (Err InvalidUtf8) = ⊥
IsChunkAnswer major input at (Err NoMemory) = ⊥
