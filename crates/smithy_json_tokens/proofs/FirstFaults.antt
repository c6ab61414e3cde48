-- That want of memory is told at the first token only where it begins a container.
use Rattle.std.proofs.Common.{◌≡◌, ◌≢◌, ◌==◌, ◌||◌, ◌⊎◌, inl, inr, ℕ, List, [], ◌∷◌, length, take, drop, Bool, true, false, Option, Some, None, nat_lt, nat_eq, codes, if◌then◌else◌, Result, Ok, Err, OnErr, sym, subst}
use Rattle.std.specs.List.{starts_with}
use Rattle.std.specs.Str.{is_utf8}
use Rattle.std.specs.Char.{is_ascii_digit}
use Rattle.smithy_json_grammar.specs.Ascii.{quotation_mark, begin_array, begin_object, minus_sign, letter_f, letter_n, letter_t}
use Rattle.smithy_json_tokens.specs.Tokens.{JsonToken, start_array, end_array, start_object, end_object, value_null, value_bool, value_number, value_uncarried, value_string, object_key}
use Rattle.smithy_json_tokens.specs.TokenRules.{Scan, scanned, failed, cut, unexpected, is_boundary_byte, at_boundary, scan_literal, at_run, number_length, run_token, scan_number, at_mark, text_length, scan_string, scan_value, Cursor, skip_ws, scans, state_turn, Answer, finished, found, refused, turn_answer, next_answer, BeginsContainer, FindsContainer}
use Rattle.smithy_json_tokens.specs.TokenRuns.{start}
use Rattle.smithy_json_tokens.specs.TokenView.{left_from, IsPlace}
use Rattle.smithy_json_tokens.specs.IteratorView.{cursor_of, input_of, GivesError}
use Rattle.smithy_json_tokens.specs.ContainerSize.{part_of}
use Rattle.smithy_json_tokens.specs.declared.counting.Part.TheVariants.{Begins}
use Rattle.smithy_json_tokens.specs.declared.token_turn.State.TheVariants.{Initial}
use Rattle.smithy_json_tokens.specs.declared.token_iter.JsonTokenIterator.{JsonTokenIterator}
use Rattle.smithy_json_tokens.specs.declared.error.DeserializeError.{DeserializeError}
use Rattle.smithy_json_tokens.specs.declared.error.DeserializeErrorKind.TheVariants.{NoMemory}

-- no scan is refused for want of memory
abbrev ScanTells : Scan → Type 0
ScanTells (scanned t left) = Unit {0}
ScanTells (failed kind place) = kind ≡ NoMemory → ⊥

either : (b : Bool) (x y : Scan) → ScanTells x → ScanTells y → ScanTells (if b then x else y)
either true x y h k = h
either false x y h k = k

boundary_tells : (t : JsonToken) (left : List ℕ) → ScanTells (at_boundary t left)
boundary_tells t [] = tt
boundary_tells t (b ∷ rest) = either (is_boundary_byte b) (scanned t (b ∷ rest)) (unexpected b rest) tt (λ is. cc (is))

literal_tells : (literal : List ℕ) (t : JsonToken) (here : List ℕ) → ScanTells (scan_literal literal t here)
literal_tells literal t here =
    either (nat_lt (length here) (length literal)) cut _ (λ is. cc (is))
    (either (starts_with nat_eq here literal) (at_boundary t (drop (length literal) here)) _ (boundary_tells t (drop (length literal) here)) (λ is. cc (is)))

run_tells : (here rest : List ℕ) (o : Option JsonToken) → ScanTells (at_run here rest o)
run_tells here rest (Some t) = boundary_tells t rest
run_tells here rest None = λ is. cc (is)

number_tells : (b : ℕ) (rest : List ℕ) → ScanTells (scan_number b rest)
number_tells b rest =
    let n = number_length false rest in run_tells (b ∷ rest) (drop n rest) (run_token (b ∷ take n rest))

mark_tells : (t : List ℕ → JsonToken) (here raw rest : List ℕ) → ScanTells (at_mark t here raw rest)
mark_tells t here raw [] = λ is. cc (is)
mark_tells t here raw (b ∷ rest) =
    either (b == quotation_mark) _ _ (either (is_utf8 raw) (scanned (t raw) rest) _ tt (λ is. cc (is))) (λ is. cc (is))

value_tells : (here : List ℕ) → ScanTells (scan_value here)
value_tells [] = λ is. cc (is)
value_tells (b ∷ rest) =
    either (b == begin_object) (scanned start_object rest) _ tt
    (either (b == begin_array) (scanned start_array rest) _ tt
    (either (b == quotation_mark) (scan_string value_string (b ∷ rest) rest) _ (mark_tells value_string (b ∷ rest) (take (text_length rest) rest) (drop (text_length rest) rest))
    (either (b == letter_n) (scan_literal (codes "null") value_null (b ∷ rest)) _ (literal_tells (codes "null") value_null (b ∷ rest))
    (either (b == letter_t) (scan_literal (codes "true") (value_bool true) (b ∷ rest)) _ (literal_tells (codes "true") (value_bool true) (b ∷ rest))
    (either (b == letter_f) (scan_literal (codes "false") (value_bool false) (b ∷ rest)) _ (literal_tells (codes "false") (value_bool false) (b ∷ rest))
    (either (b == minus_sign || is_ascii_digit b) (scan_number b rest) (unexpected b rest) (number_tells b rest) (λ is. cc (is))))))))

-- nor is a first token
abbrev AnswerTells : Answer → Type 0
AnswerTells finished = Unit {0}
AnswerTells (found t here c) = Unit {0}
AnswerTells (refused kind place) = kind ≡ NoMemory → ⊥

scan_answers : (here : List ℕ) (s : Scan) → ScanTells s → AnswerTells (turn_answer [] (scans Initial here s))
scan_answers here (scanned t left) tells = tt
scan_answers here (failed kind place) tells = tells

turn_tells : (here : List ℕ) → AnswerTells (turn_answer [] (state_turn Initial here))
turn_tells [] = tt
turn_tells (b ∷ rest) = scan_answers (b ∷ rest) (scan_value (b ∷ rest)) (value_tells (b ∷ rest))

first_tells : (input : List ℕ) → AnswerTells (next_answer (start input))
first_tells [] = tt
first_tells (b ∷ rest) = turn_tells (skip_ws (b ∷ rest))

pub memory_first : (input : List ℕ) (s t : JsonTokenIterator) (e : DeserializeError) → cursor_of s ≡ start input → GivesError s e t → (e.kind ≢ NoMemory → ⊥) → FindsContainer (next_answer (start input))
memory_first input s t e begins gives is = by gives.1
  where
    by : ((next_answer (cursor_of s) ≡ refused e.kind (left_from (input_of s) e.offset)) × IsPlace (input_of s) e.offset) ⊎ ((e.kind ≡ NoMemory) × FindsContainer (next_answer (cursor_of s)))
        → FindsContainer (next_answer (start input))
    by (inl h) =
        let first = subst (λ (c : Cursor). next_answer c ≡ refused e.kind (left_from (input_of s) e.offset)) begins h.0 in
        absurd (is (subst AnswerTells first (first_tells input)))
    by (inr h) = subst (λ (c : Cursor). FindsContainer (next_answer c)) begins h.1

begins_container : (t : JsonToken) → part_of t ≡ Begins → BeginsContainer t
begins_container start_array is = tt
begins_container start_object is = tt
begins_container end_array is = absurd (cc (is))
begins_container end_object is = absurd (cc (is))
begins_container value_null is = absurd (cc (is))
begins_container (value_bool b) is = absurd (cc (is))
begins_container (value_number n) is = absurd (cc (is))
begins_container (value_uncarried raw) is = absurd (cc (is))
begins_container (value_string raw) is = absurd (cc (is))
begins_container (object_key raw) is = absurd (cc (is))

-- a token that begins a container was found
pub begins_found : (input here : List ℕ) (c d : Cursor) (t : JsonToken) → c ≡ start input → next_answer c ≡ found t here d → part_of t ≡ Begins → FindsContainer (next_answer (start input))
begins_found input here c d t begins is part =
    subst (λ (c : Cursor). FindsContainer (next_answer c)) begins (subst FindsContainer (sym is) (begins_container t part))

-- what holds whatever the answer is
pub where_err : {A E P : Type 0} (r : Result A E) → P → OnErr r P
where_err (Ok x) holds = tt
where_err (Err e) holds = holds

pub through_err : {A E P Q : Type 0} (r : Result A E) → (P → Q) → OnErr r P → OnErr r Q
through_err (Ok x) f h = tt
through_err (Err e) f h = f h
