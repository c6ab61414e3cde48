-- Tokens up to the one that ends a container are those of a tree.
use Rattle.std.proofs.Common.{◌≡◌, ℕ, zero, suc, List, [], ◌∷◌, ◌++◌, length, take, drop, Bool, true, false, ◌==◌, ◌||◌, nat_lt, nat_eq, codes, Option, Some, None, is_some, if◌then◌else◌, refl, sym, ap, ◌∙◌, subst, ◌⊎◌, inl, inr, append_assoc}
use Rattle.std.specs.List.{starts_with}
use Rattle.std.specs.Option.{option_map_or}
use Rattle.std.specs.Str.{is_utf8}
use Rattle.std.specs.Char.{is_ascii_digit}
use Rattle.smithy_json_grammar.specs.Ascii.{quotation_mark, value_separator, name_separator, begin_array, end_array, begin_object, end_object, minus_sign, letter_f, letter_n, letter_t}
use Rattle.smithy_json_grammar.specs.Tree.{Json, null, boolean, number, string, array, object, Elements, no_elements, element, Members, no_members, member}
use Rattle.smithy_json_grammar.specs.HeldNumber.{number_of}
use Rattle.smithy_types.specs.Decimal.{is_decimal}
use Rattle.smithy_json_tokens.specs.Tokens as tokens
use Rattle.smithy_json_tokens.specs.Tokens.{JsonToken, start_array, start_object, value_null, value_bool, value_number, value_uncarried, value_string, object_key, tokens, element_tokens, member_tokens, number_token}
use Rattle.smithy_json_tokens.specs.TokenRules.{Scan, scanned, failed, is_boundary_byte, at_boundary, scan_literal, number_length, run_token, at_run, text_length, at_mark, scan_string, scan_value, scan_key, Cursor, Turn, scans, value_turn, key_turn, end_turn, skip_ws, state_turn, leave, behind, turn_answer, next_answer, found}
use Rattle.smithy_json_tokens.specs.TokenRuns.{start, Finds, Leads}
use Rattle.smithy_json_tokens.specs.declared.token_turn.State.{State}
use Rattle.smithy_json_tokens.specs.declared.token_turn.State.TheVariants.{Initial, ArrayFirstValueOrEnd, ArrayNextValueOrEnd, ObjectFirstKeyOrEnd, ObjectNextKeyOrEnd, ObjectFieldValue}

-- ---- which tokens are scanned

-- a token that begins a value; a number is the token of its text
abbrev BeginsValue : JsonToken → Type 0
BeginsValue tokens.end_array = ⊥
BeginsValue tokens.end_object = ⊥
BeginsValue (object_key raw) = ⊥
BeginsValue (value_number n) = (raw : List ℕ) × (number_token raw ≡ value_number n)
BeginsValue (value_uncarried text) = (raw : List ℕ) × (number_token raw ≡ value_uncarried text)
BeginsValue _ = Unit {0}

abbrev IsKey : JsonToken → Type 0
IsKey (object_key raw) = Unit {0}
IsKey _ = ⊥

-- what is scanned, if anything, is such a token
abbrev Scans : (JsonToken → Type 0) → Scan → Type 0
Scans P (scanned t left) = P t
Scans P (failed kind place) = Unit {0}

choose : (P : JsonToken → Type 0) (c : Bool) (x y : Scan) → Scans P x → Scans P y → Scans P (if c then x else y)
choose P true x y f g = f
choose P false x y f g = g

boundary : (P : JsonToken → Type 0) (t : JsonToken) (rest : List ℕ) → P t → Scans P (at_boundary t rest)
boundary P t [] is = is
boundary P t (b ∷ rest) is = choose P (is_boundary_byte b) _ _ is tt

literal : (P : JsonToken → Type 0) (word : List ℕ) (t : JsonToken) (here : List ℕ) → P t → Scans P (scan_literal word t here)
literal P word t here is =
    choose P (nat_lt (length here) (length word)) _ _ tt
    (choose P (starts_with nat_eq here word) _ _ (boundary P t (drop (length word) here) is) tt)

mark : (P : JsonToken → Type 0) (t : List ℕ → JsonToken) (here raw rest : List ℕ) → ((x : List ℕ) → P (t x)) → Scans P (at_mark t here raw rest)
mark P t here raw [] is = tt
mark P t here raw (b ∷ rest) is = choose P (b == quotation_mark) _ _ (choose P (is_utf8 raw) _ _ (is raw) tt) tt

text : (P : JsonToken → Type 0) (t : List ℕ → JsonToken) (here rest : List ℕ) → ((x : List ℕ) → P (t x)) → Scans P (scan_string t here rest)
text P t here rest is = mark P t here (take (text_length rest) rest) (drop (text_length rest) rest) is

begins_number : (raw : List ℕ) → BeginsValue (number_token raw)
begins_number raw = go (number_of raw) refl
  where
    go : (n : Option _) → number_of raw ≡ n → BeginsValue (option_map_or value_number n (value_uncarried raw))
    go (Some n) is = (raw, ap (λ m. option_map_or value_number m (value_uncarried raw)) is)
    go None is = (raw, ap (λ m. option_map_or value_number m (value_uncarried raw)) is)

at_number : (here rest raw : List ℕ) → Scans BeginsValue (at_run here rest (run_token raw))
at_number here rest raw = go (is_some (number_of raw) || is_decimal raw)
  where
    go : (c : Bool) → Scans BeginsValue (at_run here rest (if c then Some (number_token raw) else None))
    go true = boundary BeginsValue (number_token raw) rest (begins_number raw)
    go false = tt

value_scans : (here : List ℕ) → Scans BeginsValue (scan_value here)
value_scans [] = tt
value_scans (b ∷ rest) =
    choose BeginsValue (b == begin_object) _ _ tt (choose BeginsValue (b == begin_array) _ _ tt
    (choose BeginsValue (b == quotation_mark) _ _ (text BeginsValue value_string (b ∷ rest) rest (λ x. tt))
    (choose BeginsValue (b == letter_n) _ _ (literal BeginsValue (codes "null") value_null (b ∷ rest) tt)
    (choose BeginsValue (b == letter_t) _ _ (literal BeginsValue (codes "true") (value_bool true) (b ∷ rest) tt)
    (choose BeginsValue (b == letter_f) _ _ (literal BeginsValue (codes "false") (value_bool false) (b ∷ rest) tt)
    (choose BeginsValue (b == minus_sign || is_ascii_digit b) _ _
    (at_number (b ∷ rest) (drop (number_length false rest) rest) (b ∷ take (number_length false rest) rest)) tt))))))

key_scans : (here : List ℕ) → Scans IsKey (scan_key here)
key_scans [] = tt
key_scans (b ∷ rest) = choose IsKey (b == quotation_mark) _ _ (text IsKey object_key (b ∷ rest) rest (λ x. tt)) tt

-- ---- what a call finds, by the state

abbrev IsBehind : (JsonToken → Type 0) → State → List State → JsonToken → Cursor → Type 0
IsBehind P after outer t e = P t × ((l : List ℕ) × (behind t after outer l ≡ e))

abbrev Ends : JsonToken → List State → JsonToken → Cursor → Type 0
Ends u outer t e = (u ≡ t) × ((l : List ℕ) × (leave outer l ≡ e))

abbrev StepOf : State → List State → JsonToken → Cursor → Type 0
StepOf Initial outer t e = IsBehind BeginsValue Initial outer t e
StepOf ArrayFirstValueOrEnd outer t e = Ends tokens.end_array outer t e ⊎ IsBehind BeginsValue ArrayNextValueOrEnd outer t e
StepOf ArrayNextValueOrEnd outer t e = Ends tokens.end_array outer t e ⊎ IsBehind BeginsValue ArrayNextValueOrEnd outer t e
StepOf ObjectFirstKeyOrEnd outer t e = Ends tokens.end_object outer t e ⊎ IsBehind IsKey ObjectFieldValue outer t e
StepOf ObjectNextKeyOrEnd outer t e = Ends tokens.end_object outer t e ⊎ IsBehind IsKey ObjectFieldValue outer t e
StepOf ObjectFieldValue outer t e = IsBehind BeginsValue ObjectNextKeyOrEnd outer t e

scan_found : (P : JsonToken → Type 0) (after : State) (outer : List State) (here : List ℕ) (scan : Scan) (t : JsonToken) (e : Cursor) → Scans P scan
    → Finds (turn_answer outer (scans after here scan)) t e → IsBehind P after outer t e
scan_found P after outer here (scanned u left) t e is h = (subst P h.0 is, (left, subst (λ x. behind x after outer left ≡ e) h.0 h.1))
scan_found P after outer here (failed kind place) t e is h = absurd h

value_found : (after : State) (outer : List State) (here : List ℕ) (t : JsonToken) (e : Cursor) → Finds (turn_answer outer (value_turn after here)) t e → IsBehind BeginsValue after outer t e
value_found after outer here t e h = scan_found BeginsValue after outer here (scan_value here) t e (value_scans here) h

key_found : (outer : List State) (here : List ℕ) (t : JsonToken) (e : Cursor) → Finds (turn_answer outer (key_turn here)) t e → IsBehind IsKey ObjectFieldValue outer t e
key_found outer here t e h = scan_found IsKey ObjectFieldValue outer here (scan_key here) t e (key_scans here) h

-- one of two turns, by a test
pick : (outer : List State) (t : JsonToken) (e : Cursor) (X : Type 0) (c : Bool) (a b : Turn) → (Finds (turn_answer outer a) t e → X) → (Finds (turn_answer outer b) t e → X)
    → Finds (turn_answer outer (if c then a else b)) t e → X
pick outer t e X true a b f g h = f h
pick outer t e X false a b f g h = g h

turn_found : (s : State) (outer : List State) (here : List ℕ) (t : JsonToken) (e : Cursor) → Finds (turn_answer outer (state_turn s here)) t e → StepOf s outer t e
turn_found Initial outer [] t e h = absurd h
turn_found ArrayFirstValueOrEnd outer [] t e h = absurd h
turn_found ArrayNextValueOrEnd outer [] t e h = absurd h
turn_found ObjectFirstKeyOrEnd outer [] t e h = absurd h
turn_found ObjectNextKeyOrEnd outer [] t e h = absurd h
turn_found ObjectFieldValue outer [] t e h = absurd h
turn_found Initial outer (b ∷ rest) t e h = value_found Initial outer (b ∷ rest) t e h
turn_found ArrayFirstValueOrEnd outer (b ∷ rest) t e h =
    pick outer t e (StepOf ArrayFirstValueOrEnd outer t e) (b == end_array) (end_turn tokens.end_array b rest) (value_turn ArrayNextValueOrEnd (b ∷ rest))
    (λ k. inl (k.0, (rest, k.1))) (λ k. inr (value_found ArrayNextValueOrEnd outer (b ∷ rest) t e k)) h
turn_found ArrayNextValueOrEnd outer (b ∷ rest) t e h =
    pick outer t e (StepOf ArrayNextValueOrEnd outer t e) (b == end_array) (end_turn tokens.end_array b rest) _
    (λ k. inl (k.0, (rest, k.1)))
    (pick outer t e (StepOf ArrayNextValueOrEnd outer t e) (b == value_separator) (value_turn ArrayNextValueOrEnd (skip_ws rest)) _
    (λ k. inr (value_found ArrayNextValueOrEnd outer (skip_ws rest) t e k)) (λ k. absurd k)) h
turn_found ObjectFirstKeyOrEnd outer (b ∷ rest) t e h =
    pick outer t e (StepOf ObjectFirstKeyOrEnd outer t e) (b == end_object) (end_turn tokens.end_object b rest) (key_turn (b ∷ rest))
    (λ k. inl (k.0, (rest, k.1))) (λ k. inr (key_found outer (b ∷ rest) t e k)) h
turn_found ObjectNextKeyOrEnd outer (b ∷ rest) t e h =
    pick outer t e (StepOf ObjectNextKeyOrEnd outer t e) (b == end_object) (end_turn tokens.end_object b rest) _
    (λ k. inl (k.0, (rest, k.1)))
    (pick outer t e (StepOf ObjectNextKeyOrEnd outer t e) (b == value_separator) (key_turn (skip_ws rest)) _
    (λ k. inr (key_found outer (skip_ws rest) t e k)) (λ k. absurd k)) h
turn_found ObjectFieldValue outer (b ∷ rest) t e h =
    pick outer t e (StepOf ObjectFieldValue outer t e) (b == name_separator) (value_turn ObjectNextKeyOrEnd (skip_ws rest)) _
    (λ k. value_found ObjectNextKeyOrEnd outer (skip_ws rest) t e k) (λ k. absurd k) h

found_by : (s : State) (outer : List State) (left : List ℕ) (t : JsonToken) (e : Cursor) → Finds (next_answer (record { state = s; outer = outer; left = left })) t e → StepOf s outer t e
found_by s outer [] t e h = absurd h
found_by s outer (b ∷ rest) t e h = turn_found s outer (skip_ws (b ∷ rest)) t e h

-- ---- tokens up to the end of the outermost container

-- the last of these tokens ends the last of so many open containers
abbrev pub Closes : ℕ → List JsonToken → Type 0
Closes zero ts = ts ≡ []
Closes (suc n) [] = ⊥
Closes (suc n) (start_array ∷ ts) = Closes (suc (suc n)) ts
Closes (suc n) (start_object ∷ ts) = Closes (suc (suc n)) ts
Closes (suc n) (tokens.end_array ∷ ts) = Closes n ts
Closes (suc n) (tokens.end_object ∷ ts) = Closes n ts
Closes (suc n) (_ ∷ ts) = Closes (suc n) ts

-- they are what is left of the containers, from the state on: elements or members, the end, and what is left around
abbrev Shape : State → List State → List JsonToken → Type 0
Shape s [] ts = ts ≡ []
Shape Initial (o ∷ os) ts = ⊥
Shape ArrayFirstValueOrEnd (o ∷ os) ts = (es : Elements) × (us : List JsonToken) × (ts ≡ element_tokens es ++ tokens.end_array ∷ us) × Shape o os us
Shape ArrayNextValueOrEnd (o ∷ os) ts = (es : Elements) × (us : List JsonToken) × (ts ≡ element_tokens es ++ tokens.end_array ∷ us) × Shape o os us
Shape ObjectFirstKeyOrEnd (o ∷ os) ts = (ms : Members) × (us : List JsonToken) × (ts ≡ member_tokens ms ++ tokens.end_object ∷ us) × Shape o os us
Shape ObjectNextKeyOrEnd (o ∷ os) ts = (ms : Members) × (us : List JsonToken) × (ts ≡ member_tokens ms ++ tokens.end_object ∷ us) × Shape o os us
Shape ObjectFieldValue (o ∷ os) ts =
    (j : Json) × (ms : Members) × (us : List JsonToken) × (ts ≡ tokens j ++ (member_tokens ms ++ tokens.end_object ∷ us)) × Shape o os us

-- what calls from a state give, once it is known of the tokens behind the next
abbrev Shaped : List JsonToken → Type 0
Shaped ts = (s : State) (outer : List State) (left : List ℕ) (d : Cursor) → Leads (record { state = s; outer = outer; left = left }) ts d → Closes (length outer) ts → Shape s outer ts

-- a whole value comes first, and then what is left behind it
abbrev ValueThen : State → List State → List JsonToken → Type 0
ValueThen after outer ts = (j : Json) × (us : List JsonToken) × (ts ≡ tokens j ++ us) × Shape after outer us

value_then : (ts : List JsonToken) → Shaped ts → (t : JsonToken) (after o : State) (os : List State) (left : List ℕ) (d : Cursor) → BeginsValue t
    → Leads (behind t after (o ∷ os) left) ts d → Closes (length (o ∷ os)) (t ∷ ts) → ValueThen after (o ∷ os) (t ∷ ts)
value_then ts shaped start_array after o os left d begins leads closes =
    let inside = shaped ArrayFirstValueOrEnd (after ∷ o ∷ os) left d leads closes in
    (array inside.0, inside.1, ap (λ l. start_array ∷ l) (inside.2 ∙ sym (append_assoc (element_tokens inside.0) (tokens.end_array ∷ []) inside.1)), inside.3)
value_then ts shaped start_object after o os left d begins leads closes =
    let inside = shaped ObjectFirstKeyOrEnd (after ∷ o ∷ os) left d leads closes in
    (object inside.0, inside.1, ap (λ l. start_object ∷ l) (inside.2 ∙ sym (append_assoc (member_tokens inside.0) (tokens.end_object ∷ []) inside.1)), inside.3)
value_then ts shaped value_null after o os left d begins leads closes = (null, ts, refl, shaped after (o ∷ os) left d leads closes)
value_then ts shaped (value_bool b) after o os left d begins leads closes = (boolean b, ts, refl, shaped after (o ∷ os) left d leads closes)
value_then ts shaped (value_string raw) after o os left d begins leads closes = (string raw, ts, refl, shaped after (o ∷ os) left d leads closes)
value_then ts shaped (value_number n) after o os left d begins leads closes =
    (number begins.0, ts, ap (λ t. t ∷ ts) (sym begins.1), shaped after (o ∷ os) left d leads closes)
value_then ts shaped (value_uncarried text) after o os left d begins leads closes =
    (number begins.0, ts, ap (λ t. t ∷ ts) (sym begins.1), shaped after (o ∷ os) left d leads closes)
value_then ts shaped tokens.end_array after o os left d begins leads closes = absurd begins
value_then ts shaped tokens.end_object after o os left d begins leads closes = absurd begins
value_then ts shaped (object_key raw) after o os left d begins leads closes = absurd begins

-- an element of an array
element_then : (ts : List JsonToken) (o : State) (os : List State) → ValueThen ArrayNextValueOrEnd (o ∷ os) ts → Shape ArrayNextValueOrEnd (o ∷ os) ts
element_then ts o os (j, us, is, (es, vs, more, around)) =
    (element j es, vs, is ∙ ap (λ l. tokens j ++ l) more ∙ sym (append_assoc (tokens j) (element_tokens es) (tokens.end_array ∷ vs)), around)

-- a value of a member
field_then : (ts : List JsonToken) (o : State) (os : List State) → ValueThen ObjectNextKeyOrEnd (o ∷ os) ts → Shape ObjectFieldValue (o ∷ os) ts
field_then ts o os (j, us, is, (ms, vs, more, around)) = (j, ms, vs, is ∙ ap (λ l. tokens j ++ l) more, around)

-- nothing comes behind a value outside of every container
never_outside : (ts : List JsonToken) (o : State) (os : List State) → ValueThen Initial (o ∷ os) ts → ⊥
never_outside ts o os (j, us, is, none) = none

-- the end of a container, behind which its own state comes
array_ends : (ts : List JsonToken) → Shaped ts → (o : State) (os : List State) (left : List ℕ) (t : JsonToken) (d : Cursor) → tokens.end_array ≡ t
    → Leads (leave (o ∷ os) left) ts d → Closes (length (o ∷ os)) (t ∷ ts) → Shape ArrayNextValueOrEnd (o ∷ os) (t ∷ ts)
array_ends ts shaped o os left t d is leads closes =
    (no_elements, ts, ap (λ u. u ∷ ts) (sym is), shaped o os left d leads (subst (λ u. Closes (length (o ∷ os)) (u ∷ ts)) (sym is) closes))

object_ends : (ts : List JsonToken) → Shaped ts → (o : State) (os : List State) (left : List ℕ) (t : JsonToken) (d : Cursor) → tokens.end_object ≡ t
    → Leads (leave (o ∷ os) left) ts d → Closes (length (o ∷ os)) (t ∷ ts) → Shape ObjectNextKeyOrEnd (o ∷ os) (t ∷ ts)
object_ends ts shaped o os left t d is leads closes =
    (no_members, ts, ap (λ u. u ∷ ts) (sym is), shaped o os left d leads (subst (λ u. Closes (length (o ∷ os)) (u ∷ ts)) (sym is) closes))

-- a key of an object
key_then : (ts : List JsonToken) → Shaped ts → (t : JsonToken) (o : State) (os : List State) (left : List ℕ) (d : Cursor) → IsKey t
    → Leads (behind t ObjectFieldValue (o ∷ os) left) ts d → Closes (length (o ∷ os)) (t ∷ ts) → Shape ObjectNextKeyOrEnd (o ∷ os) (t ∷ ts)
key_then ts shaped (object_key raw) o os left d is leads closes =
    let (j, ms, us, parts, around) = shaped ObjectFieldValue (o ∷ os) left d leads closes in
    (member raw j ms, us, ap (λ l. object_key raw ∷ l) (parts ∙ sym (append_assoc (tokens j) (member_tokens ms) (tokens.end_object ∷ us))), around)
key_then ts shaped start_array o os left d is leads closes = absurd is
key_then ts shaped tokens.end_array o os left d is leads closes = absurd is
key_then ts shaped start_object o os left d is leads closes = absurd is
key_then ts shaped tokens.end_object o os left d is leads closes = absurd is
key_then ts shaped value_null o os left d is leads closes = absurd is
key_then ts shaped (value_bool b) o os left d is leads closes = absurd is
key_then ts shaped (value_number n) o os left d is leads closes = absurd is
key_then ts shaped (value_uncarried text) o os left d is leads closes = absurd is
key_then ts shaped (value_string raw) o os left d is leads closes = absurd is

module _ (ts : List JsonToken) (shaped : Shaped ts) (t : JsonToken) (o : State) (os : List State) (e d : Cursor) (leads : Leads e ts d) (closes : Closes (length (o ∷ os)) (t ∷ ts)) where
  value_by : (after : State) → IsBehind BeginsValue after (o ∷ os) t e → ValueThen after (o ∷ os) (t ∷ ts)
  value_by after (begins, (left, is)) = value_then ts shaped t after o os left d begins (subst (λ c. Leads c ts d) (sym is) leads) closes

  array_by : Ends tokens.end_array (o ∷ os) t e ⊎ IsBehind BeginsValue ArrayNextValueOrEnd (o ∷ os) t e → Shape ArrayNextValueOrEnd (o ∷ os) (t ∷ ts)
  array_by (inl (is, (left, there))) = array_ends ts shaped o os left t d is (subst (λ c. Leads c ts d) (sym there) leads) closes
  array_by (inr h) = element_then (t ∷ ts) o os (value_by ArrayNextValueOrEnd h)

  object_by : Ends tokens.end_object (o ∷ os) t e ⊎ IsBehind IsKey ObjectFieldValue (o ∷ os) t e → Shape ObjectNextKeyOrEnd (o ∷ os) (t ∷ ts)
  object_by (inl (is, (left, there))) = object_ends ts shaped o os left t d is (subst (λ c. Leads c ts d) (sym there) leads) closes
  object_by (inr (key, (left, is))) = key_then ts shaped t o os left d key (subst (λ c. Leads c ts d) (sym is) leads) closes

  shape_by : (s : State) → StepOf s (o ∷ os) t e → Shape s (o ∷ os) (t ∷ ts)
  shape_by Initial h = never_outside (t ∷ ts) o os (value_by Initial h)
  shape_by ArrayFirstValueOrEnd h = array_by h
  shape_by ArrayNextValueOrEnd h = array_by h
  shape_by ObjectFirstKeyOrEnd h = object_by h
  shape_by ObjectNextKeyOrEnd h = object_by h
  shape_by ObjectFieldValue h = field_then (t ∷ ts) o os (value_by ObjectNextKeyOrEnd h)

shape : (ts : List JsonToken) → Shaped ts
shape ts s [] left d leads closes = closes
shape [] s (o ∷ os) left d leads closes = absurd closes
shape (t ∷ ts) s (o ∷ os) left d leads closes =
    shape_by ts (shape ts) t o os leads.0 d leads.2 closes s (found_by s (o ∷ os) left t leads.0 leads.1)

-- behind the first token of an input, which begins an object, the tokens up to its end are those of members
pub members_of : (input : List ℕ) (c d : Cursor) (here : List ℕ) (ts : List JsonToken) → next_answer (start input) ≡ found start_object here c → Leads c ts d → Closes 1 ts
    → (ms : Members) × (ts ≡ member_tokens ms ++ tokens.end_object ∷ [])
members_of input c d here ts is leads closes =
    let first = found_by Initial [] input start_object c (subst (λ a. Finds a start_object c) (sym is) (refl, refl)) in
    let (ms, us, parts, none) = shape ts ObjectFirstKeyOrEnd (Initial ∷ []) first.1.0 d (subst (λ x. Leads x ts d) (sym first.1.1) leads) closes in
    (ms, parts ∙ ap (λ l. member_tokens ms ++ tokens.end_object ∷ l) none)
