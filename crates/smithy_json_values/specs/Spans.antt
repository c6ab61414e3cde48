-- From where to where texts lie in an input, and how values, entries and containers begin and end there.
use Rattle.std.specs.Prelude.{◌≡◌, ◌≤◌, ◌==◌, ◌&&◌, ℕ, length, drop, List, [], ◌∷◌, ◌++◌, None, Bool, true, false, not, if◌then◌else◌}
use Rattle.std.specs.Char.{is_ascii_alphanumeric}
use Rattle.smithy_schema.specs.Reading.{Mark}
use Rattle.smithy_json_grammar.specs.Ascii.{value_separator, begin_array, end_array, begin_object, end_object, is_ws}
use Rattle.smithy_json_grammar.specs.Grammar.{IsWs}
use Rattle.smithy_wire.specs.Node.{Form, as_array, as_object}

-- ws, a text, and then the rest
abbrev pub IsFront : (List ℕ → Type 0) → List ℕ → List ℕ → Type 0
IsFront P bytes rest = (before text : List ℕ) × (bytes ≡ before ++ (text ++ rest)) × IsWs before × P text

-- from a to e the input is ws and then a text
abbrev pub Lies : (List ℕ → Type 0) → List ℕ → ℕ → ℕ → Type 0
Lies P input a e = (a ≤ e) × (e ≤ length input) × IsFront P (drop a input) (drop e input)

abbrev pub IsByte : ℕ → List ℕ → Type 0
IsByte b bytes = bytes ≡ b ∷ []

-- the mark of a container that was opened
abbrev pub fresh_mark : Mark
fresh_mark = record { entered = false; at_end = false; due = None }

-- the mark of a structure that was opened at the end of an empty input
abbrev pub end_mark : Mark
end_mark = record { entered = false; at_end = true; due = None }

-- the mark behind an entry
abbrev pub entry_mark : Mark
entry_mark = record { entered = true; at_end = false; due = None }

-- from b to c: nothing before the first entry, else ws and a comma
abbrev pub IsSeparated : Bool → List ℕ → ℕ → ℕ → Type 0
IsSeparated false input b c = c ≡ b
IsSeparated true input b c = Lies (IsByte value_separator) input b c

-- the bytes behind the ws at the front
abbrev pub without_ws : List ℕ → List ℕ
without_ws [] = []
without_ws (b ∷ bytes) = if is_ws b then without_ws bytes else b ∷ bytes

abbrev pub begins_with_alphanumeric : List ℕ → Bool
begins_with_alphanumeric [] = false
begins_with_alphanumeric (b ∷ bytes) = is_ascii_alphanumeric b

-- `null` comes first, and no ASCII letter or digit behind it
abbrev pub begins_with_null : List ℕ → Bool
begins_with_null (n ∷ u ∷ l ∷ k ∷ rest) =
    n == 0x6e && u == 0x75 && l == 0x6c && k == 0x6c && not (begins_with_alphanumeric rest)
begins_with_null _ = false

-- the bytes that open a container, and that close it
abbrev pub opening : Form → ℕ
opening as_array = begin_array
opening as_object = begin_object

abbrev pub closing : Form → ℕ
closing as_array = end_array
closing as_object = end_object
