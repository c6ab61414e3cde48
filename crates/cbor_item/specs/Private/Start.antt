-- How a string begins: whole, or with the head before its chunks.
use Rattle.std.specs.Prelude.{◌≡◌, ◌≤◌, ◌<◌, ◌+◌, ◌-◌, ◌⊎◌, ℕ, List, length, drop, None, Result, Ok, Err}
use Rattle.cbor_item.specs.declared.error.ItemError.{ItemError}
use Rattle.cbor_item.specs.declared.error.ItemError.TheVariants.{Truncated, InvalidUtf8, NoMemory}
use Rattle.cbor_item.specs.declared.strings.Start.{Start}
use Rattle.cbor_item.specs.declared.strings.Start.TheVariants.{Whole, Chunks}
use Rattle.cbor_item.specs.Head.{BeginsWithHead}
use Rattle.cbor_item.specs.Fault.{IsStringFault}
use Rattle.cbor_item.specs.Private.Chunk.{IsChunkAnswer}

-- the major types of strings
abbrev pub IsStringType : ℕ → Type 0
IsStringType major = (major ≡ 2) ⊎ (major ≡ 3)

-- a whole string stands there, or the head of one in chunks, or its first fault from the left
abbrev pub IsStartAnswer : ℕ → List ℕ → ℕ → Result Start ItemError → Type 0
IsStartAnswer major input at (Ok (Whole chunk)) = IsChunkAnswer major input at (Ok chunk)
IsStartAnswer major input at (Ok (Chunks body)) =
    (at < body) × (body ≤ length input)
    × BeginsWithHead (drop at input) (record { major = major; argument = None; length = body - at })
IsStartAnswer major input at (Err InvalidUtf8) = ⊥
IsStartAnswer major input at (Err NoMemory) = ⊥
IsStartAnswer major input at (Err e) = IsStringFault major input at e

-- so many bytes stand at the place as were announced, or the input ends before them
abbrev pub IsWholeAnswer : List ℕ → ℕ → ℕ → Result Start ItemError → Type 0
IsWholeAnswer input start announced (Ok (Whole chunk)) =
    (chunk.start ≡ start) × (chunk.end ≡ start + announced) × (chunk.end ≤ length input)
IsWholeAnswer input start announced (Ok (Chunks body)) = ⊥
IsWholeAnswer input start announced (Err Truncated) = length input < start + announced
IsWholeAnswer input start announced (Err e) = ⊥
