-- Texts and bytes by where they stand in an input.
use Rattle.std.specs.Prelude.{ℕ, ◌+◌, ◌≤◌, List, length, take, drop, IsUtf8, string_bytes}
use Rattle.smithy_schema.specs.declared.spans.TextSpan.{TextSpan}
use Rattle.smithy_schema.specs.declared.spans.TextSpan.TheVariants as texts
use Rattle.smithy_schema.specs.declared.spans.BytesSpan.{BytesSpan}
use Rattle.smithy_schema.specs.declared.spans.BytesSpan.TheVariants as bytes

-- the bytes of a text
abbrev pub text_bytes : List ℕ → TextSpan → List ℕ
text_bytes input (texts.Placed at size) = take size (drop at input)
text_bytes input (texts.Owned s) = string_bytes s

-- a text stands there
pub record IsTextIn (input : List ℕ) (at size : ℕ) : Type 0 where
  pub within : at + size ≤ length input
  pub text : IsUtf8 (take size (drop at input))

-- where a place is named, a text stands there
abbrev pub IsTextPlaced : List ℕ → TextSpan → Type 0
IsTextPlaced input (texts.Placed at size) = IsTextIn input at size
IsTextPlaced input (texts.Owned s) = Unit {0}

-- where a place is named, it lies between these two
abbrev pub IsTextBetween : ℕ → ℕ → TextSpan → Type 0
IsTextBetween from to (texts.Placed at size) = (from ≤ at) × (at + size ≤ to)
IsTextBetween from to (texts.Owned s) = Unit {0}

-- a place is named
abbrev pub NamesTextPlace : TextSpan → Type 0
NamesTextPlace (texts.Placed at size) = Unit {0}
NamesTextPlace (texts.Owned s) = ⊥

-- the bytes that are meant
abbrev pub span_bytes : List ℕ → BytesSpan → List ℕ
span_bytes input (bytes.Placed at size) = take size (drop at input)
span_bytes input (bytes.Owned b) = b

-- where a place is named, so many bytes stand there
abbrev pub IsPlaced : List ℕ → BytesSpan → Type 0
IsPlaced input (bytes.Placed at size) = at + size ≤ length input
IsPlaced input (bytes.Owned b) = Unit {0}

-- where a place is named, it lies between these two
abbrev pub IsBetween : ℕ → ℕ → BytesSpan → Type 0
IsBetween from to (bytes.Placed at size) = (from ≤ at) × (at + size ≤ to)
IsBetween from to (bytes.Owned b) = Unit {0}

-- a place is named
abbrev pub NamesBytesPlace : BytesSpan → Type 0
NamesBytesPlace (bytes.Placed at size) = Unit {0}
NamesBytesPlace (bytes.Owned b) = ⊥
