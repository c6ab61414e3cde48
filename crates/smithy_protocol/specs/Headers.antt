-- The headers of a message (RFC 9110, section 5), in order.
use Rattle.std.specs.Prelude.{ℕ, List, [], ◌∷◌, Bool, Option, Some, None, string_bytes, if◌then◌else◌}
use Rattle.std.specs.Str.{str_eq_ignore_ascii_case}
use Rattle.smithy_protocol.specs.declared.headers.Header.{Header as Kept}

-- a name and a value
abbrev pub Header : Type 0
Header = List ℕ × List ℕ

abbrev pub header_of : Kept → Header
header_of h = (string_bytes h.name, string_bytes h.value)

-- Names are compared without the case of ASCII letters (section 5.1).
abbrev pub is_under : List ℕ → Header → Bool
is_under name h = str_eq_ignore_ascii_case h.0 name

-- the headers with a further one: in the place of the first of its name, or behind all where there is none
abbrev pub inserted : Header → List Header → List Header
inserted new [] = new ∷ []
inserted new (old ∷ more) = if is_under new.0 old then new ∷ more else old ∷ inserted new more

-- the value of the first header of a name
abbrev pub value_under : List ℕ → List Header → Option (List ℕ)
value_under name [] = None
value_under name (h ∷ more) = if is_under name h then Some h.1 else value_under name more
