-- What texts of strings and numbers stand for, at an offset.
use Rattle.std.specs.Prelude.{◌≡◌, ◌⊎◌, ℕ, ℤ, true, List, Option, None, Result, Ok, Err, MatchResult}
use Rattle.std.specs.Cow.{cow_str_bytes}
use Rattle.std.specs.declared.borrow.CowStr.{CowStr}
use Rattle.std.specs.declared.alloc.Global.{Global}
use Rattle.smithy_json_grammar.specs.Grammar.{IsNumber}
use Rattle.smithy_json_grammar.specs.Unescape.{unescape, has_escape}
use Rattle.smithy_json_grammar.specs.declared.escape_error.EscapeError.{EscapeError}
use Rattle.smithy_json_tokens.specs.Faults.{error_at}
use Rattle.smithy_json_tokens.specs.ExpectingTexts.{instant_of_decimal}
use Rattle.smithy_json_tokens.specs.declared.error.DeserializeError.{DeserializeError}
use Rattle.smithy_json_tokens.specs.declared.error.DeserializeErrorKind.TheVariants.{UnescapeFailed, NoMemory}

-- the text of a raw text, or its first fault at the offset, or the want of memory for its escapes
abbrev pub IsUnescapedAt : List ℕ → ℕ → Result (CowStr Global) DeserializeError → Type 0
IsUnescapedAt raw at result =
    MatchResult result (λ text. unescape raw ≡ Ok (cow_str_bytes text))
    (λ e. ((fault : EscapeError) × (unescape raw ≡ Err fault) × (e ≡ error_at (UnescapeFailed fault) at))
    ⊎ ((e ≡ error_at NoMemory at) × (has_escape raw ≡ true)))

-- the instant of a JSON number of seconds, and none of another text
abbrev pub IsEpochInstant : List ℕ → Option ℤ → Type 0
IsEpochInstant text result =
    (IsNumber text → result ≡ instant_of_decimal text) × ((IsNumber text → ⊥) → result ≡ None)
