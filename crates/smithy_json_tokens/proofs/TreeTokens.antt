-- What calls give over the text of a tree: its tokens.
use Rattle.std.proofs.Common.{◌≡◌, ◌+◌, ℕ, suc, List, Option, Some, None, [], ◌∷◌, ◌++◌, drop, Bool, true, false, ◌==◌, IsTrue, ◌⊎◌, cond, refl, sym, ap, ◌∙◌, arith, inl, inr, subst, append_assoc}
use Rattle.std.proofs.lemmas.Bool.Decides.{nat_tests}
use Rattle.std.specs.Char.{IsAsciiDigit}
use Rattle.std.specs.List.{prefix_len}
use Rattle.std.specs.Option.{option_map_or}
use Rattle.smithy_json_grammar.specs.Ascii.{quotation_mark, value_separator, name_separator, begin_array, end_array, begin_object, end_object, minus_sign, is_ws}
use Rattle.smithy_json_grammar.specs.Tree.{Json, null, boolean, number, string, array, object, Elements, no_elements, element, Members, no_members, member}
use Rattle.smithy_json_grammar.specs.Grammar.{IsWs, IsNumber, IsStringText, IsValue, AreMoreElements, AreMoreMembers, IsJsonText, IsBoundary}
use Rattle.smithy_types.specs.Decimal.{is_decimal}
use Rattle.smithy_json_grammar.specs.HeldNumber.{number_of}
use Rattle.smithy_json_tokens.specs.Tokens as tokens
use Rattle.smithy_json_tokens.specs.Tokens.{JsonToken, start_array, start_object, object_key, tokens, element_tokens, member_tokens, number_token, value_string, value_number, value_uncarried}
use Rattle.smithy_json_tokens.specs.TokenRules.{scanned, scan_value, Cursor, scans, value_turn, key_turn, end_turn, state_turn, Answer, finished, behind, turn_answer, skip_ws, next_answer}
use Rattle.smithy_json_tokens.specs.declared.token_turn.State.{State}
use Rattle.smithy_json_tokens.specs.declared.token_turn.State.TheVariants.{Initial, ArrayFirstValueOrEnd, ArrayNextValueOrEnd, ObjectFirstKeyOrEnd, ObjectNextKeyOrEnd, ObjectFieldValue}
use Rattle.smithy_json_tokens.specs.TokenRuns.{Finds, Leads, start, GivesOnly}
use Rattle.smithy_json_tokens.proofs.DecimalLemmas.{number_is_decimal}
use Rattle.smithy_json_tokens.proofs.ScalarScans.{number_front, number_scans, string_scans, null_scans, true_scans, false_scans}

-- ---- answers by what is scanned

abbrev pub value_answer : State → List State → List ℕ → Answer
value_answer after outer here = turn_answer outer (value_turn after here)

abbrev pub key_answer : List State → List ℕ → Answer
key_answer outer here = turn_answer outer (key_turn here)

abbrev pub state_answer : State → List State → List ℕ → Answer
state_answer s outer here = turn_answer outer (state_turn s here)

-- ---- runs of calls

-- the same, where the first call has this answer
abbrev pub Gives : Answer → List JsonToken → Cursor → Type 0
Gives a [] d = ⊥
Gives a (t ∷ ts) d = (e : Cursor) × Finds a t e × Leads e ts d

pub leads_on : (c : Cursor) (ts us : List JsonToken) (d e : Cursor) → Leads c ts d → Leads d us e → Leads c (ts ++ us) e
leads_on c [] us d e h k = subst (λ x. Leads x us e) (sym h) k
leads_on c (t ∷ ts) us d e h k = (h.0, h.1, leads_on h.0 ts us d e h.2 k)

pub gives_on : (a : Answer) (ts us : List JsonToken) (d e : Cursor) → Gives a ts d → Leads d us e → Gives a (ts ++ us) e
gives_on a [] us d e h k = absurd h
gives_on a (t ∷ ts) us d e h k = (h.0, h.1, leads_on h.0 ts us d e h.2 k)

-- the next call has such an answer
pub gives_leads : (c : Cursor) (a : Answer) (ts : List JsonToken) (d : Cursor) → next_answer c ≡ a → Gives a ts d → Leads c ts d
gives_leads c a [] d e h = absurd h
gives_leads c a (t ∷ ts) d e h = (h.0, subst (λ x. Finds x t h.0) (sym e) h.1, h.2)

-- ---- blanks

true_is : (b : Bool) → IsTrue b → b ≡ true
true_is true h = refl
true_is false h = cc

-- blanks end where another byte stands
pub past_ws : (s : List ℕ) (b : ℕ) (r : List ℕ) → IsWs s → is_ws b ≡ false → skip_ws (s ++ b ∷ r) ≡ b ∷ r
past_ws [] b r h k = ap (λ w. drop (cond w (1 + prefix_len is_ws r) 0) (b ∷ r)) k
past_ws (c ∷ s) b r h k =
    let n = prefix_len is_ws (s ++ b ∷ r) in
    let one : 1 + n ≡ suc n = omega arith in
    ap (λ w. drop (cond w (1 + n) 0) (c ∷ (s ++ b ∷ r))) (true_is (is_ws c) h.0)
    ∙ ap (λ m. drop m (c ∷ (s ++ b ∷ r))) one ∙ past_ws s b r h.1 k

-- the answer of a call where this byte comes behind blanks
pub next_at : (s : State) (outer : List State) (before : List ℕ) (b : ℕ) (r : List ℕ) → IsWs before → is_ws b ≡ false
    → next_answer (record { state = s; outer = outer; left = before ++ b ∷ r }) ≡ state_answer s outer (b ∷ r)
next_at s outer [] b r h k = ap (state_answer s outer) (past_ws [] b r h k)
next_at s outer (c ∷ before) b r h k = ap (state_answer s outer) (past_ws (c ∷ before) b r h k)

-- ---- the first byte of a value

-- it is no blank, and ends no array
pub record ValueFront (text : List ℕ) : Type 0 where
  pub first : ℕ
  pub others : List ℕ
  pub split : text ≡ first ∷ others
  pub no_ws : is_ws first ≡ false
  pub no_end : (first == end_array) ≡ false

number_first : (b : ℕ) → (b ≡ minus_sign) ⊎ IsAsciiDigit b → (is_ws b ≡ false) × ((b == end_array) ≡ false)
number_first b (inl h) = rw h (refl, refl)
number_first b (inr h) = (grind (arith, nat_tests), grind (arith, nat_tests))

pub value_front : (tree : Json) (text : List ℕ) → IsValue tree text → ValueFront text
value_front null text h = record { first = _; others = _; split = h; no_ws = refl; no_end = refl }
value_front (boolean true) text h = record { first = _; others = _; split = h; no_ws = refl; no_end = refl }
value_front (boolean false) text h = record { first = _; others = _; split = h; no_ws = refl; no_end = refl }
value_front (number raw) text h =
    let front = number_front raw h.1 in
    let facts = number_first front.first front.first_is in
    record { first = front.first; others = front.others; split = h.0 ∙ front.split; no_ws = facts.0; no_end = facts.1 }
value_front (string raw) text h = record { first = quotation_mark; others = _; split = h.0; no_ws = refl; no_end = refl }
value_front (array no_elements) text h = record { first = begin_array; others = _; split = h.1; no_ws = refl; no_end = refl }
value_front (array (element j es)) text h = record { first = begin_array; others = _; split = h.1; no_ws = refl; no_end = refl }
value_front (object no_members) text h = record { first = begin_object; others = _; split = h.1; no_ws = refl; no_end = refl }
value_front (object (member name j ms)) text h = record { first = begin_object; others = _; split = h.1; no_ws = refl; no_end = refl }

-- blanks end where a value begins
pub past_ws_value : (s : List ℕ) (tree : Json) (text r : List ℕ) → IsWs s → IsValue tree text → skip_ws (s ++ (text ++ r)) ≡ text ++ r
past_ws_value s tree text r h is =
    let front = value_front tree text is in
    ap (λ t. skip_ws (s ++ (t ++ r))) front.split ∙ past_ws s front.first (front.others ++ r) h front.no_ws ∙ ap (λ t. t ++ r) (sym front.split)

-- the first element of an array
pub first_value : (outer : List State) (s : List ℕ) (tree : Json) (text r : List ℕ) → IsWs s → IsValue tree text
    → next_answer (record { state = ArrayFirstValueOrEnd; outer = outer; left = s ++ (text ++ r) }) ≡ value_answer ArrayNextValueOrEnd outer (text ++ r)
first_value outer s tree text r h is =
    let front = value_front tree text is in
    ap (λ t. next_answer (record { state = ArrayFirstValueOrEnd; outer = outer; left = s ++ (t ++ r) })) front.split
    ∙ next_at ArrayFirstValueOrEnd outer s front.first (front.others ++ r) h front.no_ws
    ∙ ap (λ e. turn_answer outer (cond e (end_turn tokens.end_array front.first (front.others ++ r)) (value_turn ArrayNextValueOrEnd (front.first ∷ (front.others ++ r))))) front.no_end
    ∙ ap (λ t. value_answer ArrayNextValueOrEnd outer (t ++ r)) (sym front.split)

-- a value outside every container
pub top_value : (outer : List State) (s : List ℕ) (tree : Json) (text r : List ℕ) → IsWs s → IsValue tree text
    → next_answer (record { state = Initial; outer = outer; left = s ++ (text ++ r) }) ≡ value_answer Initial outer (text ++ r)
top_value outer s tree text r h is =
    let front = value_front tree text is in
    ap (λ t. next_answer (record { state = Initial; outer = outer; left = s ++ (t ++ r) })) front.split
    ∙ next_at Initial outer s front.first (front.others ++ r) h front.no_ws
    ∙ ap (λ t. value_answer Initial outer (t ++ r)) (sym front.split)

-- ---- a boundary behind a value

ws_boundary : (s r : List ℕ) → IsWs s → IsBoundary r → IsBoundary (s ++ r)
ws_boundary [] r h k = k
ws_boundary (b ∷ s) r h k = inl h.0

ws_is_boundary : (s : List ℕ) → IsWs s → IsBoundary s
ws_is_boundary [] h = tt
ws_is_boundary (b ∷ s) h = inl h.0

elements_boundary : (es : Elements) (s r : List ℕ) → AreMoreElements es s → IsBoundary (s ++ end_array ∷ r)
elements_boundary no_elements s r h = subst (λ t. IsBoundary (t ++ end_array ∷ r)) (sym h) (inr (inr (inl refl)))
elements_boundary (element j es) [] r h = absurd h
elements_boundary (element j es) (b ∷ s) r h = inr (inl h.0)

members_boundary : (ms : Members) (s r : List ℕ) → AreMoreMembers ms s → IsBoundary (s ++ end_object ∷ r)
members_boundary no_members s r h = subst (λ t. IsBoundary (t ++ end_object ∷ r)) (sym h) (inr (inr (inr refl)))
members_boundary (member name j ms) [] r h = absurd h
members_boundary (member name j ms) (b ∷ s) r h = inr (inl h.0)

-- ---- one scalar, and the ends of containers

-- where an iterator stands
abbrev pub at : State → List State → List ℕ → Cursor
at s outer left = record { state = s; outer = outer; left = left }

-- a token that opens and closes nothing
pub scalar_gives : (t : JsonToken) (here rest : List ℕ) (after : State) (outer : List State) → behind t after outer rest ≡ at after outer rest → scan_value here ≡ scanned t rest
    → Gives (value_answer after outer here) (t ∷ []) (at after outer rest)
scalar_gives t here rest after outer b scan =
    subst (λ s. Gives (turn_answer outer (scans after here s)) (t ∷ []) (at after outer rest)) (sym scan) (behind t after outer rest, (refl, refl), b)

number_behind : (raw rest : List ℕ) (after : State) (outer : List State) → behind (number_token raw) after outer rest ≡ at after outer rest
number_behind raw rest after outer = go (number_of raw)
  where
    go : (n : Option _) → behind (option_map_or value_number n (value_uncarried raw)) after outer rest ≡ at after outer rest
    go (Some n) = refl
    go None = refl

module _ (after : State) (outer : List State) (rest : List ℕ) where
  -- an array's end
  pub array_ends_first : (ws : List ℕ) → IsWs ws → Leads (at ArrayFirstValueOrEnd (after ∷ outer) (ws ++ end_array ∷ rest)) (tokens.end_array ∷ []) (at after outer rest)
  array_ends_first ws h = gives_leads (at ArrayFirstValueOrEnd (after ∷ outer) (ws ++ end_array ∷ rest)) _ (tokens.end_array ∷ []) _ (next_at ArrayFirstValueOrEnd (after ∷ outer) ws end_array rest h refl) (at after outer rest, (refl, refl), refl)

  pub array_ends : (ws : List ℕ) → IsWs ws → Leads (at ArrayNextValueOrEnd (after ∷ outer) (ws ++ end_array ∷ rest)) (tokens.end_array ∷ []) (at after outer rest)
  array_ends ws h = gives_leads (at ArrayNextValueOrEnd (after ∷ outer) (ws ++ end_array ∷ rest)) _ (tokens.end_array ∷ []) _ (next_at ArrayNextValueOrEnd (after ∷ outer) ws end_array rest h refl) (at after outer rest, (refl, refl), refl)

  -- an object's end
  pub object_ends_first : (ws : List ℕ) → IsWs ws → Leads (at ObjectFirstKeyOrEnd (after ∷ outer) (ws ++ end_object ∷ rest)) (tokens.end_object ∷ []) (at after outer rest)
  object_ends_first ws h = gives_leads (at ObjectFirstKeyOrEnd (after ∷ outer) (ws ++ end_object ∷ rest)) _ (tokens.end_object ∷ []) _ (next_at ObjectFirstKeyOrEnd (after ∷ outer) ws end_object rest h refl) (at after outer rest, (refl, refl), refl)

  pub object_ends : (ws : List ℕ) → IsWs ws → Leads (at ObjectNextKeyOrEnd (after ∷ outer) (ws ++ end_object ∷ rest)) (tokens.end_object ∷ []) (at after outer rest)
  object_ends ws h = gives_leads (at ObjectNextKeyOrEnd (after ∷ outer) (ws ++ end_object ∷ rest)) _ (tokens.end_object ∷ []) _ (next_at ObjectNextKeyOrEnd (after ∷ outer) ws end_object rest h refl) (at after outer rest, (refl, refl), refl)

  -- an array, from what its inside gives
  pub array_gives : (text inside : List ℕ) (ts : List JsonToken) → text ≡ begin_array ∷ (inside ++ end_array ∷ [])
      → Leads (at ArrayFirstValueOrEnd (after ∷ outer) (inside ++ end_array ∷ rest)) ts (at after outer rest)
      → Gives (value_answer after outer (text ++ rest)) (start_array ∷ ts) (at after outer rest)
  array_gives text inside ts split leads =
      subst (λ t. Gives (value_answer after outer (t ++ rest)) (start_array ∷ ts) (at after outer rest)) (sym split)
      (at ArrayFirstValueOrEnd (after ∷ outer) (inside ++ end_array ∷ rest), (refl, ap (at ArrayFirstValueOrEnd (after ∷ outer)) (append_assoc inside (end_array ∷ []) rest)), leads)

  -- an object, in the same way
  pub object_gives : (text inside : List ℕ) (ts : List JsonToken) → text ≡ begin_object ∷ (inside ++ end_object ∷ [])
      → Leads (at ObjectFirstKeyOrEnd (after ∷ outer) (inside ++ end_object ∷ rest)) ts (at after outer rest)
      → Gives (value_answer after outer (text ++ rest)) (start_object ∷ ts) (at after outer rest)
  object_gives text inside ts split leads =
      subst (λ t. Gives (value_answer after outer (t ++ rest)) (start_object ∷ ts) (at after outer rest)) (sym split)
      (at ObjectFirstKeyOrEnd (after ∷ outer) (inside ++ end_object ∷ rest), (refl, ap (at ObjectFirstKeyOrEnd (after ∷ outer)) (append_assoc inside (end_object ∷ []) rest)), leads)

-- the parts of an element, and what comes behind it
flat_element : (bytes first more before text ws rest : List ℕ) → bytes ≡ first ++ more → first ≡ before ++ (text ++ ws)
    → bytes ++ rest ≡ before ++ (text ++ (ws ++ (more ++ rest)))
flat_element bytes first more before text ws rest a b = rw (a, b) (simp append_assoc)

-- the parts of a member, and what comes behind it
flat_member : (bytes first more front name middle padded before text ws rest : List ℕ) → bytes ≡ first ++ more
    → first ≡ front ++ (quotation_mark ∷ (name ++ (quotation_mark ∷ (middle ++ (name_separator ∷ padded))))) → padded ≡ before ++ (text ++ ws)
    → bytes ++ rest ≡ front ++ (quotation_mark ∷ (name ++ quotation_mark ∷ (middle ++ name_separator ∷ (before ++ (text ++ (ws ++ (more ++ rest)))))))
flat_member bytes first more front name middle padded before text ws rest a b c = rw (a, b, c) (simp append_assoc)

-- the tokens of what comes first in a container, and of what is left of it
tokens_on : (c d : Cursor) (ts us vs : List JsonToken) → Leads c (ts ++ (us ++ vs)) d → Leads c ((ts ++ us) ++ vs) d
tokens_on c d ts us vs h = subst (λ l. Leads c l d) (sym (append_assoc ts us vs)) h

-- ---- a tree

module _ (form : (raw : List ℕ) → IsNumber raw → is_decimal raw ≡ true) where
  -- an element's calls, and then those of what is left of the array, are the calls of both
  module _ (j : Json) (es : Elements) (first more before text ws rest : List ℕ) (after : State) (outer : List State) (is : IsValue j text)
      (value : IsBoundary (ws ++ (more ++ end_array ∷ rest)) → Gives (value_answer ArrayNextValueOrEnd (after ∷ outer) (text ++ (ws ++ (more ++ end_array ∷ rest)))) (tokens j) (at ArrayNextValueOrEnd (after ∷ outer) (ws ++ (more ++ end_array ∷ rest))))
      (others : Leads (at ArrayNextValueOrEnd (after ∷ outer) (ws ++ (more ++ end_array ∷ rest))) (element_tokens es ++ tokens.end_array ∷ []) (at after outer rest))
      (blanks : IsWs ws) (are : AreMoreElements es more) where
    element_leads : (c : Cursor) → next_answer c ≡ value_answer ArrayNextValueOrEnd (after ∷ outer) (text ++ (ws ++ (more ++ end_array ∷ rest)))
        → Leads c ((tokens j ++ element_tokens es) ++ tokens.end_array ∷ []) (at after outer rest)
    element_leads c answer =
        tokens_on c (at after outer rest) (tokens j) (element_tokens es) (tokens.end_array ∷ [])
        (gives_leads c _ (tokens j ++ (element_tokens es ++ tokens.end_array ∷ [])) (at after outer rest) answer
        (gives_on _ (tokens j) (element_tokens es ++ tokens.end_array ∷ []) _ (at after outer rest)
        (value (ws_boundary ws (more ++ end_array ∷ rest) blanks (elements_boundary es more rest are))) others))

  -- a member's calls, and then those of what is left of the object, are the calls of both
  module _ (name : List ℕ) (j : Json) (ms : Members) (more middle before text ws rest : List ℕ) (after : State) (outer : List State) (is : IsValue j text)
      (value : IsBoundary (ws ++ (more ++ end_object ∷ rest)) → Gives (value_answer ObjectNextKeyOrEnd (after ∷ outer) (text ++ (ws ++ (more ++ end_object ∷ rest)))) (tokens j) (at ObjectNextKeyOrEnd (after ∷ outer) (ws ++ (more ++ end_object ∷ rest))))
      (others : Leads (at ObjectNextKeyOrEnd (after ∷ outer) (ws ++ (more ++ end_object ∷ rest))) (member_tokens ms ++ tokens.end_object ∷ []) (at after outer rest))
      (blanks : IsWs ws) (are : AreMoreMembers ms more) (is_name : IsStringText name) (blanks_middle : IsWs middle) (blanks_before : IsWs before) where
    member_leads : (c : Cursor) → next_answer c ≡ key_answer (after ∷ outer) (quotation_mark ∷ (name ++ quotation_mark ∷ (middle ++ name_separator ∷ (before ++ (text ++ (ws ++ (more ++ end_object ∷ rest)))))))
        → Leads c (object_key name ∷ ((tokens j ++ member_tokens ms) ++ tokens.end_object ∷ [])) (at after outer rest)
    member_leads c answer =
        let tail = ws ++ (more ++ end_object ∷ rest) in
        let left = middle ++ name_separator ∷ (before ++ (text ++ tail)) in
        let here = quotation_mark ∷ (name ++ quotation_mark ∷ left) in
        let colon = at ObjectFieldValue (after ∷ outer) left in
        let key = string_scans object_key here name left is_name in (
          colon,
          subst (λ a. Finds a (object_key name) colon) (sym (answer ∙ ap (λ s. turn_answer (after ∷ outer) (scans ObjectFieldValue here s)) key)) (refl, refl),
          tokens_on colon (at after outer rest) (tokens j) (member_tokens ms) (tokens.end_object ∷ [])
              (gives_leads colon _ (tokens j ++ (member_tokens ms ++ tokens.end_object ∷ [])) (at after outer rest)
              (next_at ObjectFieldValue (after ∷ outer) middle name_separator (before ++ (text ++ tail)) blanks_middle refl
              ∙ ap (value_answer ObjectNextKeyOrEnd (after ∷ outer)) (past_ws_value before j text tail blanks_before is))
              (gives_on _ (tokens j) (member_tokens ms ++ tokens.end_object ∷ []) _ (at after outer rest)
              (value (ws_boundary ws (more ++ end_object ∷ rest) blanks (members_boundary ms more rest are))) others)),
        )

  mutual
    -- a value's first token comes from its first byte, the others from the calls that follow
    pub value_gives : (tree : Json) (text rest : List ℕ) (after : State) (outer : List State) → IsValue tree text → IsBoundary rest
        → Gives (value_answer after outer (text ++ rest)) (tokens tree) (at after outer rest)
    value_gives null text rest after outer is b =
        scalar_gives _ (text ++ rest) rest after outer refl (ap (λ t. scan_value (t ++ rest)) is ∙ null_scans rest b)
    value_gives (boolean true) text rest after outer is b =
        scalar_gives _ (text ++ rest) rest after outer refl (ap (λ t. scan_value (t ++ rest)) is ∙ true_scans rest b)
    value_gives (boolean false) text rest after outer is b =
        scalar_gives _ (text ++ rest) rest after outer refl (ap (λ t. scan_value (t ++ rest)) is ∙ false_scans rest b)
    value_gives (number raw) text rest after outer is b =
        scalar_gives (number_token raw) (text ++ rest) rest after outer (number_behind raw rest after outer)
        (ap (λ t. scan_value (t ++ rest)) is.0 ∙ number_scans raw rest is.1 (form raw is.1) b)
    value_gives (string raw) text rest after outer is b =
        scalar_gives (value_string raw) (text ++ rest) rest after outer refl
        (ap (λ t. scan_value (t ++ rest)) is.0
        ∙ ap (λ t. scan_value (quotation_mark ∷ t)) (append_assoc raw (quotation_mark ∷ []) rest)
        ∙ string_scans value_string (quotation_mark ∷ (raw ++ quotation_mark ∷ rest)) raw rest is.1)
    value_gives (array no_elements) text rest after outer is b =
        array_gives after outer rest text is.0 (tokens.end_array ∷ []) is.1 (array_ends_first after outer rest is.0 is.2)
    value_gives (array (element j es)) text rest after outer is b =
        array_gives after outer rest text is.0 (element_tokens (element j es) ++ tokens.end_array ∷ []) is.1
        (let first = is.2.0 in let more = is.2.1 in let pad = is.2.3 in let before = pad.0 in let value = pad.1 in let ws = pad.2 in
        let tail = ws ++ (more ++ end_array ∷ rest) in
        let flat = flat_element is.0 first more before value ws (end_array ∷ rest) is.2.2 pad.3 in
        element_leads j es first more before value ws rest after outer pad.5 (value_gives j value tail ArrayNextValueOrEnd (after ∷ outer) pad.5) (more_elements es ws more rest after outer pad.6 is.2.4) pad.6 is.2.4
        (at ArrayFirstValueOrEnd (after ∷ outer) (is.0 ++ end_array ∷ rest))
        (ap (λ l. next_answer (at ArrayFirstValueOrEnd (after ∷ outer) l)) flat ∙ first_value (after ∷ outer) before j value tail pad.4 pad.5))
    value_gives (object no_members) text rest after outer is b =
        object_gives after outer rest text is.0 (tokens.end_object ∷ []) is.1 (object_ends_first after outer rest is.0 is.2)
    value_gives (object (member name j ms)) text rest after outer is b =
        let first = is.2.0 in let more = is.2.1 in let m = is.2.3 in let pad = m.7 in let before = pad.0 in let value = pad.1 in let ws = pad.2 in
        let tail = ws ++ (more ++ end_object ∷ rest) in
        let flat = flat_member is.0 first more m.0 name m.1 m.2 before value ws (end_object ∷ rest) is.2.2 m.3 pad.3 in
        object_gives after outer rest text is.0 (member_tokens (member name j ms) ++ tokens.end_object ∷ []) is.1
        (member_leads name j ms more m.1 before value ws rest after outer pad.5 (value_gives j value tail ObjectNextKeyOrEnd (after ∷ outer) pad.5) (more_members ms ws more rest after outer pad.6 is.2.4) pad.6 is.2.4 m.5 m.6 pad.4
        (at ObjectFirstKeyOrEnd (after ∷ outer) (is.0 ++ end_object ∷ rest))
        (ap (λ l. next_answer (at ObjectFirstKeyOrEnd (after ∷ outer) l)) flat
        ∙ next_at ObjectFirstKeyOrEnd (after ∷ outer) m.0 quotation_mark (name ++ quotation_mark ∷ (m.1 ++ name_separator ∷ (before ++ (value ++ tail)))) m.4 refl))

    pub more_elements : (es : Elements) (ws more rest : List ℕ) (after : State) (outer : List State) → IsWs ws → AreMoreElements es more
        → Leads (at ArrayNextValueOrEnd (after ∷ outer) (ws ++ (more ++ end_array ∷ rest))) (element_tokens es ++ tokens.end_array ∷ []) (at after outer rest)
    more_elements no_elements ws more rest after outer h is =
        subst (λ m. Leads (at ArrayNextValueOrEnd (after ∷ outer) (ws ++ (m ++ end_array ∷ rest))) (tokens.end_array ∷ []) (at after outer rest)) (sym is) (array_ends after outer rest ws h)
    more_elements (element j es) ws [] rest after outer h is = absurd is
    more_elements (element j es) ws (b ∷ bytes) rest after outer h is =
        let first = is.1.0 in let more = is.1.1 in let pad = is.1.3 in let before = pad.0 in let value = pad.1 in let behind_it = pad.2 in
        let tail = behind_it ++ (more ++ end_array ∷ rest) in
        let flat = flat_element bytes first more before value behind_it (end_array ∷ rest) is.1.2 pad.3 in
        element_leads j es first more before value behind_it rest after outer pad.5 (value_gives j value tail ArrayNextValueOrEnd (after ∷ outer) pad.5) (more_elements es behind_it more rest after outer pad.6 is.1.4) pad.6 is.1.4
        (at ArrayNextValueOrEnd (after ∷ outer) (ws ++ (b ∷ bytes ++ end_array ∷ rest)))
        (ap (λ x. next_answer (at ArrayNextValueOrEnd (after ∷ outer) (ws ++ (x ∷ bytes ++ end_array ∷ rest)))) is.0
        ∙ next_at ArrayNextValueOrEnd (after ∷ outer) ws value_separator (bytes ++ end_array ∷ rest) h refl
        ∙ ap (λ l. value_answer ArrayNextValueOrEnd (after ∷ outer) (skip_ws l)) flat
        ∙ ap (value_answer ArrayNextValueOrEnd (after ∷ outer)) (past_ws_value before j value tail pad.4 pad.5))

    pub more_members : (ms : Members) (ws more rest : List ℕ) (after : State) (outer : List State) → IsWs ws → AreMoreMembers ms more
        → Leads (at ObjectNextKeyOrEnd (after ∷ outer) (ws ++ (more ++ end_object ∷ rest))) (member_tokens ms ++ tokens.end_object ∷ []) (at after outer rest)
    more_members no_members ws more rest after outer h is =
        subst (λ m. Leads (at ObjectNextKeyOrEnd (after ∷ outer) (ws ++ (m ++ end_object ∷ rest))) (tokens.end_object ∷ []) (at after outer rest)) (sym is) (object_ends after outer rest ws h)
    more_members (member name j ms) ws [] rest after outer h is = absurd is
    more_members (member name j ms) ws (b ∷ bytes) rest after outer h is =
        let first = is.1.0 in let more = is.1.1 in let m = is.1.3 in let pad = m.7 in let before = pad.0 in let value = pad.1 in let behind_it = pad.2 in
        let tail = behind_it ++ (more ++ end_object ∷ rest) in
        let flat = flat_member bytes first more m.0 name m.1 m.2 before value behind_it (end_object ∷ rest) is.1.2 m.3 pad.3 in
        member_leads name j ms more m.1 before value behind_it rest after outer pad.5 (value_gives j value tail ObjectNextKeyOrEnd (after ∷ outer) pad.5) (more_members ms behind_it more rest after outer pad.6 is.1.4) pad.6 is.1.4 m.5 m.6 pad.4
        (at ObjectNextKeyOrEnd (after ∷ outer) (ws ++ (b ∷ bytes ++ end_object ∷ rest)))
        (ap (λ x. next_answer (at ObjectNextKeyOrEnd (after ∷ outer) (ws ++ (x ∷ bytes ++ end_object ∷ rest)))) is.0
        ∙ next_at ObjectNextKeyOrEnd (after ∷ outer) ws value_separator (bytes ++ end_object ∷ rest) h refl
        ∙ ap (λ l. key_answer (after ∷ outer) (skip_ws l)) flat
        ∙ ap (key_answer (after ∷ outer)) (past_ws m.0 quotation_mark (name ++ quotation_mark ∷ (m.1 ++ name_separator ∷ (before ++ (value ++ tail)))) m.4 refl))

  -- the whole text: the tree's tokens, and then only blanks are left
  pub text_leads : (tree : Json) (input : List ℕ) → IsJsonText tree input → (rest : List ℕ) × IsWs rest × Leads (at Initial [] input) (tokens tree) (at Initial [] rest)
  text_leads tree input is =
      let rest = is.2 in (
        rest,
        is.6,
        subst (λ l. Leads (at Initial [] l) (tokens tree) (at Initial [] rest)) (sym is.3)
            (gives_leads (at Initial [] (is.0 ++ (is.1 ++ rest))) _ (tokens tree) (at Initial [] rest) (top_value [] is.0 tree is.1 rest is.4 is.5) (value_gives tree is.1 rest Initial [] is.5 (ws_is_boundary rest is.6))),
      )

-- and then None
skip_all : (s : List ℕ) → IsWs s → skip_ws s ≡ []
skip_all [] h = refl
skip_all (c ∷ s) h =
    let n = prefix_len is_ws s in
    let one : 1 + n ≡ suc n = omega arith in
    ap (λ w. drop (cond w (1 + n) 0) (c ∷ s)) (true_is (is_ws c) h.0) ∙ ap (λ m. drop m (c ∷ s)) one ∙ skip_all s h.1

pub blanks_finish : (outer : List State) (rest : List ℕ) → IsWs rest → next_answer (at Initial outer rest) ≡ finished
blanks_finish outer [] h = refl
blanks_finish outer (c ∷ s) h = ap (state_answer Initial outer) (skip_all (c ∷ s) h)

-- a text of a tree gives the tree's tokens and then None
pub text_gives : (tree : Json) (input : List ℕ) → IsJsonText tree input → GivesOnly (start input) (tokens tree)
text_gives tree input is =
    let leads = text_leads number_is_decimal tree input is in
    (at Initial [] leads.0, leads.2, blanks_finish [] leads.0 leads.1)
