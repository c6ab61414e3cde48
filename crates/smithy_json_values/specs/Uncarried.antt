-- Which bytes hold a number that isn't carried: one of seconds as an instant, or one in a document.
use Rattle.std.specs.Prelude.{◌≡◌, ℕ, List, None}
use Rattle.smithy_instants.specs.Epoch.{epoch_nanos}
use Rattle.smithy_json_grammar.specs.Grammar.{IsNumber}
use Rattle.smithy_json_grammar.specs.HeldNumber.{number_of}
use Rattle.smithy_wire.specs.Inputs.{HasSlice}

-- some slice of the bytes is one: a number that isn't one of whole nanoseconds, or whose exponent leaves 64 bits
abbrev pub IsUncarriedJson : List ℕ → Type 0
IsUncarriedJson bytes = HasSlice (λ slice. IsNumber slice × (epoch_nanos slice ≡ None)) bytes

-- some slice of the bytes is a number that no document holds: it has a fraction or an exponent, or isn't from -2^63 to 2^64-1
abbrev pub HasUnheldNumber : List ℕ → Type 0
HasUnheldNumber bytes = HasSlice (λ slice. IsNumber slice × (number_of slice ≡ None)) bytes
