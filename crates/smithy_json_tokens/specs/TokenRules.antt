-- What a token iterator answers, for every input: by its state, the bytes that are left, and the states
-- that it comes back to as containers end.
use Rattle.std.specs.Prelude.{⊤, ℕ, suc, List, [], ◌∷◌, length, take, drop, Bool, true, false, ◌==◌, ◌||◌, ◌&&◌, nat_lt, nat_eq, codes, Option, Some, None, is_some, if◌then◌else◌}
use Rattle.std.specs.List.{prefix_len, starts_with}
use Rattle.std.specs.Str.{is_utf8}
use Rattle.std.specs.Char.{is_ascii_digit}
use Rattle.smithy_json_grammar.specs.Ascii.{quotation_mark, escape, value_separator, name_separator, begin_array, end_array, begin_object, end_object, minus_sign, plus_sign, decimal_point, letter_f, letter_n, letter_t, space, is_ws, is_e}
use Rattle.smithy_types.specs.Decimal.{is_decimal}
use Rattle.smithy_json_grammar.specs.HeldNumber.{number_of}
use Rattle.smithy_json_tokens.specs.Tokens as tokens
use Rattle.smithy_json_tokens.specs.Tokens.{JsonToken, start_array, start_object, value_null, value_bool, value_string, object_key, number_token}
use Rattle.smithy_json_tokens.specs.declared.error.DeserializeErrorKind.{DeserializeErrorKind}
use Rattle.smithy_json_tokens.specs.declared.error.DeserializeErrorKind.TheVariants.{ExpectedLiteral, InvalidNumber, InvalidUtf8, UnexpectedControlCharacter, UnexpectedEos, UnexpectedToken}
use Rattle.smithy_json_tokens.specs.declared.token_turn.State.{State}
use Rattle.smithy_json_tokens.specs.declared.token_turn.State.TheVariants.{Initial, ArrayFirstValueOrEnd, ArrayNextValueOrEnd, ObjectFirstKeyOrEnd, ObjectNextKeyOrEnd, ObjectFieldValue}

-- ---- scanning one token

-- a token and what is left behind it, or an error and what is left from its place on
pub data Scan : Type 0 where
  scanned : JsonToken → List ℕ → Scan
  failed : DeserializeErrorKind → List ℕ → Scan

-- the input ends where more is due
abbrev pub cut : Scan
cut = failed UnexpectedEos []

-- the error that a byte stands where none like it may come
abbrev pub unexpected : ℕ → List ℕ → Scan
unexpected b rest = failed (UnexpectedToken b) (b ∷ rest)

-- a byte that a value may end before: ws, a value separator or a closing bracket
abbrev pub is_boundary_byte : ℕ → Bool
is_boundary_byte b = is_ws b || b == value_separator || b == end_array || b == end_object

-- the token, where a value may end before what is left
abbrev pub at_boundary : JsonToken → List ℕ → Scan
at_boundary t [] = scanned t []
at_boundary t (b ∷ rest) = if is_boundary_byte b then scanned t (b ∷ rest) else unexpected b rest

-- a literal
abbrev pub scan_literal : List ℕ → JsonToken → List ℕ → Scan
scan_literal literal t here =
    if nat_lt (length here) (length literal) then cut
    else (if starts_with nat_eq here literal then at_boundary t (drop (length literal) here)
    else failed ExpectedLiteral here)

-- a byte of a number but `e`: a digit, a point, or a sign where it is due
abbrev pub is_piece : Bool → ℕ → Bool
is_piece sign b =
    is_ascii_digit b || b == decimal_point || (sign && (b == minus_sign || b == plus_sign))

-- how many bytes of a number come: digits, points, and each `e` with the sign behind it. A sign may come
-- first where one is due.
abbrev pub number_length : Bool → List ℕ → ℕ
number_length sign [] = 0
number_length sign (b ∷ rest) =
    if is_piece sign b then suc (number_length false rest)
    else (if is_e b then suc (number_length true rest) else 0)

-- the token of a run of a number's bytes: a whole number of 64 bits, or the text of a decimal number
abbrev pub run_token : List ℕ → Option JsonToken
run_token raw =
    if is_some (number_of raw) || is_decimal raw then Some (number_token raw) else None

-- a number, where its run and a boundary come
abbrev pub at_run : List ℕ → List ℕ → Option JsonToken → Scan
at_run here rest (Some t) = at_boundary t rest
at_run here rest None = failed InvalidNumber here

-- a number that begins with a minus or a digit
abbrev pub scan_number : ℕ → List ℕ → Scan
scan_number b rest =
    let n = number_length false rest in
    at_run (b ∷ rest) (drop n rest) (run_token (b ∷ take n rest))

abbrev mutual
  -- how many bytes come before the byte that ends a string: a quotation mark or a byte below 0x20, which
  -- no backslash takes
  pub text_length : List ℕ → ℕ
  text_length [] = 0
  text_length (b ∷ rest) =
      if b == quotation_mark || nat_lt b space then 0
      else (if b == escape then suc (taken_length rest) else suc (text_length rest))

  -- how many bytes come before the byte that ends a string, from behind a backslash on, which takes the first of them
  pub taken_length : List ℕ → ℕ
  taken_length [] = 0
  taken_length (b ∷ rest) = suc (text_length rest)

-- the byte that ends a string's text
abbrev pub at_mark : (List ℕ → JsonToken) → List ℕ → List ℕ → List ℕ → Scan
at_mark t here raw [] = cut
at_mark t here raw (b ∷ rest) =
    if b == quotation_mark then (if is_utf8 raw then scanned (t raw) rest else failed InvalidUtf8 here)
    else failed (UnexpectedControlCharacter b) (b ∷ rest)

-- a string behind its opening quotation mark, as the token that its text makes
abbrev pub scan_string : (List ℕ → JsonToken) → List ℕ → List ℕ → Scan
scan_string t here rest =
    at_mark t here (take (text_length rest) rest) (drop (text_length rest) rest)

-- the first token of a value
abbrev pub scan_value : List ℕ → Scan
scan_value [] = cut
scan_value (b ∷ rest) =
    if b == begin_object then scanned start_object rest
    else if b == begin_array then scanned start_array rest
    else if b == quotation_mark then scan_string value_string (b ∷ rest) rest
    else if b == letter_n then scan_literal (codes "null") value_null (b ∷ rest)
    else if b == letter_t then scan_literal (codes "true") (value_bool true) (b ∷ rest)
    else if b == letter_f then scan_literal (codes "false") (value_bool false) (b ∷ rest)
    else if b == minus_sign || is_ascii_digit b then scan_number b rest
    else unexpected b rest

-- a member's name
abbrev pub scan_key : List ℕ → Scan
scan_key [] = cut
scan_key (b ∷ rest) =
    if b == quotation_mark then scan_string object_key (b ∷ rest) rest else unexpected b rest

-- ---- one call

-- where an iterator stands: its state, the states that it comes back to, the innermost first, and the
-- bytes that are left
pub record Cursor : Type 0 where
  pub state : State
  pub outer : List State
  pub left : List ℕ

-- what a call scans: nothing, where no item is due; or a token that begins what is left, with the state
-- behind it
pub data Turn : Type 0 where
  ends : Turn
  scans : State → List ℕ → Scan → Turn

-- the first token of a value, with the state behind the value
abbrev pub value_turn : State → List ℕ → Turn
value_turn after here = scans after here (scan_value here)

-- a member's name
abbrev pub key_turn : List ℕ → Turn
key_turn here = scans ObjectFieldValue here (scan_key here)

-- the byte that ends a container, which comes first
abbrev pub end_turn : JsonToken → ℕ → List ℕ → Turn
end_turn t b rest = scans Initial (b ∷ rest) (scanned t rest)

-- an error
abbrev pub cut_turn : Turn
cut_turn = scans Initial [] cut

abbrev pub unexpected_turn : ℕ → List ℕ → Turn
unexpected_turn b rest = scans Initial (b ∷ rest) (unexpected b rest)

-- behind blanks
abbrev pub skip_ws : List ℕ → List ℕ
skip_ws s = drop (prefix_len is_ws s) s

-- what comes behind blanks, by the state
abbrev pub state_turn : State → List ℕ → Turn
state_turn Initial [] = ends
state_turn _ [] = cut_turn
state_turn Initial (b ∷ rest) = value_turn Initial (b ∷ rest)
state_turn ArrayFirstValueOrEnd (b ∷ rest) =
    if b == end_array then end_turn tokens.end_array b rest
    else value_turn ArrayNextValueOrEnd (b ∷ rest)
state_turn ArrayNextValueOrEnd (b ∷ rest) =
    if b == end_array then end_turn tokens.end_array b rest
    else if b == value_separator then value_turn ArrayNextValueOrEnd (skip_ws rest)
    else unexpected_turn b rest
state_turn ObjectFirstKeyOrEnd (b ∷ rest) =
    if b == end_object then end_turn tokens.end_object b rest else key_turn (b ∷ rest)
state_turn ObjectNextKeyOrEnd (b ∷ rest) =
    if b == end_object then end_turn tokens.end_object b rest
    else if b == value_separator then key_turn (skip_ws rest)
    else unexpected_turn b rest
state_turn ObjectFieldValue (b ∷ rest) =
    if b == name_separator then value_turn ObjectNextKeyOrEnd (skip_ws rest)
    else unexpected_turn b rest

-- what a call answers: None; or a token, the bytes from its first on, and where the iterator then stands; or
-- an error and the bytes from its place on
pub data Answer : Type 0 where
  finished : Answer
  found : JsonToken → List ℕ → Cursor → Answer
  refused : DeserializeErrorKind → List ℕ → Answer

-- back in the container around
abbrev pub leave : List State → List ℕ → Cursor
leave [] left = record { state = Initial; outer = []; left = left }
leave (s ∷ outer) left = record { state = s; outer = outer; left = left }

-- behind a token, where `after` is the state behind the value or the key that it is of
abbrev pub behind : JsonToken → State → List State → List ℕ → Cursor
behind start_array after outer left =
    record { state = ArrayFirstValueOrEnd; outer = after ∷ outer; left = left }
behind start_object after outer left =
    record { state = ObjectFirstKeyOrEnd; outer = after ∷ outer; left = left }
behind tokens.end_array after outer left = leave outer left
behind tokens.end_object after outer left = leave outer left
behind _ after outer left = record { state = after; outer = outer; left = left }

abbrev pub turn_answer : List State → Turn → Answer
turn_answer outer ends = finished
turn_answer outer (scans after here (scanned t left)) = found t here (behind t after outer left)
turn_answer outer (scans after here (failed kind place)) = refused kind place

-- what the next call scans and answers
abbrev pub next_turn : Cursor → Turn
next_turn c = elim c.left [
  | [] ↦ ends
  | b ∷ rest ↦ state_turn c.state (skip_ws (b ∷ rest))
]

abbrev pub next_answer : Cursor → Answer
next_answer c = turn_answer c.outer (next_turn c)

-- a token that begins a container: the one kind for which memory may be wanted
abbrev pub BeginsContainer : JsonToken → Type 0
BeginsContainer start_array = ⊤
BeginsContainer start_object = ⊤
BeginsContainer _ = ⊥

abbrev pub FindsContainer : Answer → Type 0
FindsContainer (found token here c) = BeginsContainer token
FindsContainer _ = ⊥
