-- The grammar of RFC 8259, sections 2 to 7, as relations between a tree and the bytes of its text.
-- White space before a value separator belongs to the value before it.
use Rattle.std.specs.Prelude.{◌≡◌, ◌⊎◌, ◌≢◌, ◌<◌, ◌≤◌, ℕ, List, [], ◌∷◌, ◌++◌, length, true, false, IsTrue, IsUtf8, codes, ⊤}
use Rattle.std.specs.List.{AllByRecursion}
use Rattle.std.specs.Char.{IsAsciiDigit, IsAsciiHexdigit}
use Rattle.smithy_json_grammar.specs.Ascii.{quotation_mark, escape, value_separator, name_separator, begin_array, end_array, begin_object, end_object, minus_sign, plus_sign, digit_zero, decimal_point, letter_u, space, is_ws, is_e, is_short_escape}
use Rattle.smithy_json_grammar.specs.Tree.{Json, null, boolean, number, string, array, object, Elements, no_elements, element, Members, no_members, member}

-- ws = *( space / horizontal tab / line feed / carriage return )
abbrev pub IsWs : List ℕ → Type 0
IsWs bytes = AllByRecursion (λ b. IsTrue (is_ws b)) bytes

-- ws, then what P says, then ws
abbrev pub IsPadded : (List ℕ → Type 0) → List ℕ → Type 0
IsPadded P bytes =
    (before text after : List ℕ) × (bytes ≡ before ++ (text ++ after))
    × IsWs before × P text × IsWs after

-- an opening byte, what P says, and a closing byte
abbrev pub IsBracketed : ℕ → ℕ → (List ℕ → Type 0) → List ℕ → Type 0
IsBracketed opening closing P bytes = (inside : List ℕ) × (bytes ≡ opening ∷ (inside ++ closing ∷ [])) × P inside

-- what P says, and then what Q says
abbrev pub IsThen : (List ℕ → Type 0) → (List ℕ → Type 0) → List ℕ → Type 0
IsThen P Q bytes = (first more : List ℕ) × (bytes ≡ first ++ more) × P first × Q more

-- a value separator, and then what P says
abbrev pub IsAfterSeparator : (List ℕ → Type 0) → List ℕ → Type 0
IsAfterSeparator P [] = ⊥
IsAfterSeparator P (b ∷ bytes) = (b ≡ value_separator) × P bytes

-- 1*DIGIT
abbrev pub AreDigits : List ℕ → Type 0
AreDigits bytes = (0 < length bytes) × AllByRecursion IsAsciiDigit bytes

-- int = zero / ( digit1-9 *DIGIT )
abbrev pub IsInt : List ℕ → Type 0
IsInt [] = ⊥
IsInt (d ∷ []) = IsAsciiDigit d
IsInt (d ∷ e ∷ ds) = IsAsciiDigit d × (d ≢ digit_zero) × AllByRecursion IsAsciiDigit (e ∷ ds)

-- [ frac ], where frac = decimal-point 1*DIGIT
abbrev pub IsFrac : List ℕ → Type 0
IsFrac [] = ⊤
IsFrac (point ∷ digits) = (point ≡ decimal_point) × AreDigits digits

-- [ minus / plus ]
abbrev pub IsSign : List ℕ → Type 0
IsSign sign = (sign ≡ []) ⊎ (sign ≡ plus_sign ∷ []) ⊎ (sign ≡ minus_sign ∷ [])

-- [ exp ], where exp = e [ minus / plus ] 1*DIGIT
abbrev pub IsExp : List ℕ → Type 0
IsExp [] = ⊤
IsExp (e ∷ rest) =
    IsTrue (is_e e)
    × ((sign digits : List ℕ) × (rest ≡ sign ++ digits) × IsSign sign × AreDigits digits)

-- number = [ minus ] int [ frac ] [ exp ]
pub record IsNumber (raw : List ℕ) : Type 0 where
  pub minus : List ℕ
  pub int : List ℕ
  pub frac : List ℕ
  pub exp : List ℕ
  pub parts : raw ≡ minus ++ (int ++ (frac ++ exp))
  pub is_minus : (minus ≡ []) ⊎ (minus ≡ minus_sign ∷ [])
  pub is_int : IsInt int
  pub is_frac : IsFrac frac
  pub is_exp : IsExp exp

-- unescaped = %x20-21 / %x23-5B / %x5D-10FFFF, by the bytes of its UTF-8
abbrev pub IsUnescaped : ℕ → Type 0
IsUnescaped b = (space ≤ b) × (b ≢ quotation_mark) × (b ≢ escape)

-- 4HEXDIG comes first
abbrev pub BeginsWithFourHexDigits : List ℕ → Type 0
BeginsWithFourHexDigits (a ∷ b ∷ c ∷ d ∷ _) =
    IsAsciiHexdigit a × IsAsciiHexdigit b × IsAsciiHexdigit c × IsAsciiHexdigit d
BeginsWithFourHexDigits _ = ⊥

-- what may follow the byte `escape`: one of eight letters, or `u` where four digits come then
abbrev pub IsEscape : ℕ → List ℕ → Type 0
IsEscape letter rest = IsTrue (is_short_escape letter) ⊎ ((letter ≡ letter_u) × BeginsWithFourHexDigits rest)

-- *char, where char = unescaped / escape .. . The digits after `\u` are asked for where it stands, and
-- then are bytes that stand for themselves. A surrogate may stand alone.
abbrev pub AreChars : List ℕ → Type 0
AreChars [] = ⊤
AreChars (b ∷ []) = IsUnescaped b
AreChars (b ∷ letter ∷ rest) =
    (IsUnescaped b × AreChars (letter ∷ rest))
    ⊎ ((b ≡ escape) × IsEscape letter rest × AreChars rest)

-- what may stand between the quotation marks: *char, in UTF-8
abbrev pub IsStringText : List ℕ → Type 0
IsStringText raw = IsUtf8 raw × AreChars raw

-- string = quotation-mark *char quotation-mark
abbrev pub IsString : List ℕ → List ℕ → Type 0
IsString raw bytes = (bytes ≡ quotation_mark ∷ (raw ++ quotation_mark ∷ [])) × IsStringText raw

-- member = string name-separator value
abbrev pub IsMember : List ℕ → (List ℕ → Type 0) → List ℕ → Type 0
IsMember name P bytes =
    (before middle value : List ℕ)
    × (bytes
    ≡ before ++ (quotation_mark ∷ (name ++ (quotation_mark ∷ (middle ++ (name_separator ∷ value))))))
    × IsWs before × IsStringText name × IsWs middle × IsPadded P value

abbrev mutual
  -- value = false / null / true / object / array / number / string
  pub IsValue : Json → List ℕ → Type 0
  IsValue null bytes = bytes ≡ codes "null"
  IsValue (boolean true) bytes = bytes ≡ codes "true"
  IsValue (boolean false) bytes = bytes ≡ codes "false"
  IsValue (number raw) bytes = (bytes ≡ raw) × IsNumber raw
  IsValue (string raw) bytes = IsString raw bytes
  IsValue (array no_elements) bytes = IsBracketed begin_array end_array IsWs bytes
  IsValue (array (element j es)) bytes =
      IsBracketed begin_array end_array (IsThen (IsPadded (IsValue j)) (AreMoreElements es)) bytes
  IsValue (object no_members) bytes = IsBracketed begin_object end_object IsWs bytes
  IsValue (object (member name j ms)) bytes =
      IsBracketed begin_object end_object (IsThen (IsMember name (IsValue j)) (AreMoreMembers ms))
      bytes

  -- *( value-separator value )
  pub AreMoreElements : Elements → List ℕ → Type 0
  AreMoreElements no_elements bytes = bytes ≡ []
  AreMoreElements (element j es) bytes = IsAfterSeparator (IsThen (IsPadded (IsValue j)) (AreMoreElements es)) bytes

  -- *( value-separator member )
  pub AreMoreMembers : Members → List ℕ → Type 0
  AreMoreMembers no_members bytes = bytes ≡ []
  AreMoreMembers (member name j ms) bytes =
      IsAfterSeparator (IsThen (IsMember name (IsValue j)) (AreMoreMembers ms)) bytes

-- JSON-text = ws value ws
abbrev pub IsJsonText : Json → List ℕ → Type 0
IsJsonText tree bytes = IsPadded (IsValue tree) bytes

-- what may follow a value, as nothing else ends a number or a literal: the end of the input, ws, a
-- value separator or a closing bracket
abbrev pub IsBoundary : List ℕ → Type 0
IsBoundary [] = ⊤
IsBoundary (b ∷ _) =
    IsTrue (is_ws b) ⊎ ((b ≡ value_separator) ⊎ ((b ≡ end_array) ⊎ (b ≡ end_object)))
