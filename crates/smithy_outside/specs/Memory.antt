-- What the objects in memory tell.
use Rattle.std.specs.Prelude.{◌≡◌, ℕ, List, [], ◌∷◌, Bool, true, false, Option, Some, None, drop, Vec}
use Rattle.std.specs.declared.alloc.Global.{Global}
use Rattle.std.specs.BTreeMap.{get_by_text}
use Rattle.smithy_outside.specs.declared.memory.files.MemoryFiles.{MemoryFiles}
use Rattle.smithy_outside.specs.declared.memory.source.MemorySource.{MemorySource}
use Rattle.smithy_outside.specs.declared.memory.sink.MemorySink.{MemorySink}
use Rattle.smithy_outside.specs.declared.memory.steady_source.SteadySource.{SteadySource}
use Rattle.smithy_outside.specs.declared.memory.steady_sink.SteadySink.{SteadySink}
use Rattle.smithy_outside.specs.Outside.{Shown, Content, untold, missing, holds, counted}

-- no number is that of a call that fails
abbrev pub fails_never : List ℕ → Bool
fails_never [] = true
fails_never (n ∷ ns) = false

-- what a path tells by what is held at it: it is steady where something is held, and no call fails
abbrev pub file_told : Option (Vec ℕ Global) → (faults misses : ℕ) → (fail : List ℕ) → Shown
file_told (Some bytes) faults misses fail =
    record { faults = faults; content = holds bytes.items; is_steady = fails_never fail }
file_told None faults misses fail = record { faults = misses; content = missing; is_steady = false }

-- what each path tells of files in memory
abbrev pub files_told : MemoryFiles → List ℕ → Shown
files_told files path = file_told (get_by_text files.entries path) files.faults files.misses files.fail.items

-- a count of faults: where P holds it is one more, up to its last value, and else it stays
abbrev pub IsCountedIf : Type 0 → (old new : ℕ) → Type 0
IsCountedIf P old new = (P → new ≡ counted old) × (¬ P → new ≡ old)

-- what a source in memory has left
abbrev pub source_told : MemorySource → Shown
source_told source = record { faults = source.faults; content = holds (drop source.at source.bytes.items); is_steady = false }

-- what a sink in memory took
abbrev pub sink_told : MemorySink → Shown
sink_told sink = record { faults = sink.faults; content = holds sink.bytes.items; is_steady = false }

-- what a steady source has left
abbrev pub steady_source_told : SteadySource → Shown
steady_source_told source = record { faults = 0; content = holds (drop source.at source.bytes.items); is_steady = true }

-- what a steady sink took, as long as it has kept all of it
abbrev pub kept_content : Bool → List ℕ → Content
kept_content true bytes = untold
kept_content false bytes = holds bytes

abbrev pub steady_sink_told : SteadySink → Shown
steady_sink_told sink = record { faults = 0; content = kept_content sink.lost sink.bytes.items; is_steady = true }
