-- What the adapters of the system tell.
use Rattle.std.specs.Prelude.{◌≡◌, ◌≢◌, ℕ, List, drop, map, string_bytes, String, false}
use Rattle.std.specs.declared.alloc.Global.{Global}
use Rattle.std.specs.declared.io.ErrorKind.{ErrorKind}
use Rattle.std.specs.declared.io.ErrorKind.TheVariants as kinds
use Rattle.std.specs.declared.vec.IntoIter.{IntoIter}
use Rattle.std.specs.Vec.Iter.{into_iter_items}
use Rattle.smithy_outside.specs.Outside.{Shown, untold}

-- an object that counts its faults, and tells no content
abbrev pub only_counts : ℕ → Shown
only_counts faults = record { faults = faults; content = untold; is_steady = false }

-- the words of the program: all arguments but the first, which is its own name
abbrev pub words_of : IntoIter (String Global) Global → List (List ℕ)
words_of arguments = map string_bytes (drop 1 (into_iter_items arguments))

-- the status where the arguments weren't read, by the error: that of no command, or that of want of memory
abbrev pub IsUnread : {S : Type 0} → (usage out_of_memory : S) → ErrorKind → S → Type 0
IsUnread usage out_of_memory kind status =
    (kind ≡ kinds.OutOfMemory → status ≡ out_of_memory) × (kind ≢ kinds.OutOfMemory → status ≡ usage)
