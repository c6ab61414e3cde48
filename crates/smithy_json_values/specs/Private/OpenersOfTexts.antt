-- How many brackets are open at most from before a text on, by how many are from behind it on.
use Rattle.std.specs.Prelude.{◌≡◌, ◌≤◌, ℕ, suc, ◌-◌, ◌==◌, ◌||◌, List, [], ◌∷◌, ◌++◌, Bool, true, false, IsTrue, codes, refl}
use Rattle.std.proofs.Common.{sym, ◌∙◌, ap, arith, subst, append_assoc, inl, inr}
use Rattle.std.proofs.lemmas.Bool.Decides.{nat_tests}
use Rattle.smithy_json_grammar.specs.Ascii.{quotation_mark, escape, value_separator, name_separator, begin_array, end_array, begin_object, end_object, is_ws}
use Rattle.smithy_json_grammar.specs.Tree.{Json, null, boolean, number, string, array, object, Elements, no_elements, element, Members, no_members, member}
use Rattle.smithy_json_grammar.specs.Grammar.{IsWs, IsPadded, IsMember, IsValue, AreMoreElements, AreMoreMembers}
use Rattle.smithy_json_values.specs.Openers.{inside, greatest_rise, json_openers}
use Rattle.smithy_json_values.specs.Scalar.{JsonScalar, a_boolean, a_number, a_string}
use Rattle.smithy_json_values.specs.Tokens.{IsNumberRun, IsQuoted, IsToken, IsNameToken}
use Rattle.smithy_json_values.specs.Private.Lexical.{is_numeric, Pass, eq_false}
use Rattle.smithy_json_grammar.proofs.LenientTextLemmas.{chars_are_quoted}
use Rattle.smithy_json_values.specs.Private.TokenGrammar.{number_is_run}

-- ---- two kinds of texts

-- a text that adds nothing: the count of open brackets rises as far from before the text on as from behind it on
abbrev pub AddsNothing : List ℕ → Type 0
AddsNothing s = (rest : List ℕ) → json_openers (s ++ rest) ≡ json_openers rest

-- a text that takes nothing away: the count of open brackets rises at least as far from before the text on as from behind it on
abbrev pub TakesNothing : List ℕ → Type 0
TakesNothing s = (rest : List ℕ) → json_openers rest ≤ json_openers (s ++ rest)

at_least : (m n : ℕ) → m ≡ n → n ≤ m
at_least m n h = omega arith

pub takes_if_adds : (s : List ℕ) → AddsNothing s → TakesNothing s
takes_if_adds s h rest = at_least (json_openers (s ++ rest)) (json_openers rest) (h rest)

-- two texts that add nothing add nothing one behind the other
pub both_add : (s t : List ℕ) → AddsNothing s → AddsNothing t → AddsNothing (s ++ t)
both_add s t h k rest = ap json_openers (append_assoc s t rest) ∙ (h (t ++ rest) ∙ k rest)

up : (m n o : ℕ) → m ≤ n → n ≤ o → m ≤ o
up m n o h k = omega arith

pub both_take : (s t : List ℕ) → TakesNothing s → TakesNothing t → TakesNothing (s ++ t)
both_take s t h k rest =
    subst (λ bytes. json_openers rest ≤ json_openers bytes) (sym (append_assoc s t rest))
    (up (json_openers rest) (json_openers (t ++ rest)) (json_openers (s ++ (t ++ rest))) (k rest) (h (t ++ rest)))

-- ---- white space and numbers

-- a byte that can change the count of open brackets: a bracket or a quotation mark
abbrev pub is_counted : ℕ → Bool
is_counted b =
    (b == quotation_mark) || ((b == begin_object) || ((b == begin_array) || ((b == end_object) || (b == end_array))))

apart : (b x : ℕ) → is_counted b ≡ false → is_counted x ≡ true → (b == x) ≡ false
apart b x h k = grind (arith, nat_tests)

-- a byte that is neither a bracket nor a quotation mark adds nothing
plain_byte : (b : ℕ) (rest : List ℕ) → is_counted b ≡ false → json_openers (b ∷ rest) ≡ json_openers rest
plain_byte b rest h =
    rw (apart b quotation_mark h refl, apart b begin_object h refl, apart b begin_array h refl, apart b end_object h refl, apart b end_array h refl) refl

plain_bytes : (test : ℕ → Bool) → ((b : ℕ) → test b ≡ true → is_counted b ≡ false) → (s : List ℕ) → Pass test s → AddsNothing s
plain_bytes test plain [] h rest = refl
plain_bytes test plain (b ∷ s) h rest = plain_byte b (s ++ rest) (plain b h.0) ∙ plain_bytes test plain s h.1 rest

numeric_plain : (b : ℕ) → is_numeric b ≡ true → is_counted b ≡ false
numeric_plain b h = grind (arith, nat_tests)

-- a number adds nothing
number_adds : (raw : List ℕ) → IsNumberRun raw → AddsNothing raw
number_adds [] h = absurd h
number_adds (b ∷ raw) h = plain_bytes is_numeric numeric_plain (b ∷ raw) h

ws_plain : (b : ℕ) → IsTrue (is_ws b) → is_counted b ≡ false
ws_plain b h = grind (arith, nat_tests)

-- white space adds nothing
pub ws_adds : (s : List ℕ) → IsWs s → AddsNothing s
ws_adds [] h rest = refl
ws_adds (b ∷ s) h rest = plain_byte b (s ++ rest) (ws_plain b h.0) ∙ ws_adds s h.1 rest

-- ---- strings

-- behind its text a string ends
text_adds : (raw rest : List ℕ) → IsQuoted raw → greatest_rise inside (raw ++ quotation_mark ∷ rest) ≡ json_openers rest
text_adds [] rest h = refl
text_adds (b ∷ []) rest h = rw (eq_false b quotation_mark h.0, eq_false b escape h.1) refl
text_adds (b ∷ letter ∷ raw) rest (inl h) =
    rw (eq_false b quotation_mark h.0.0, eq_false b escape h.0.1) (text_adds (letter ∷ raw) rest h.1)
text_adds (b ∷ letter ∷ raw) rest (inr h) = rw h.0 (text_adds raw rest h.1)

-- a string adds nothing, whatever brackets are in it
string_adds : (raw : List ℕ) → IsQuoted raw → AddsNothing (quotation_mark ∷ (raw ++ quotation_mark ∷ []))
string_adds raw h rest =
    ap (λ bytes. json_openers (quotation_mark ∷ bytes)) (append_assoc raw (quotation_mark ∷ []) rest) ∙ text_adds raw rest h

-- a name, white space and a colon add nothing
pub name_adds : (raw bytes : List ℕ) → IsNameToken raw bytes → AddsNothing bytes
name_adds raw bytes h =
    let colon = both_add h.0 (name_separator ∷ []) (ws_adds h.0 h.3) (λ rest. refl) in
    let string = string_adds raw h.2 in
    let all = both_add (quotation_mark ∷ (raw ++ quotation_mark ∷ [])) (h.0 ++ name_separator ∷ []) string colon in
    let flat : (quotation_mark ∷ (raw ++ quotation_mark ∷ [])) ++ (h.0 ++ name_separator ∷ []) ≡ bytes = simp append_assoc (sym h.1) in
    subst AddsNothing flat all

-- ---- tokens

null_adds : AddsNothing (codes "null")
null_adds rest = refl

-- a null adds nothing
pub null_token_adds : (s : List ℕ) → s ≡ codes "null" → AddsNothing s
null_token_adds s h = subst AddsNothing (sym h) null_adds

-- nor does a scalar
pub token_adds : (x : JsonScalar) (s : List ℕ) → IsToken x s → AddsNothing s
token_adds (a_boolean true) s h = subst AddsNothing (sym h) (λ rest. refl)
token_adds (a_boolean false) s h = subst AddsNothing (sym h) (λ rest. refl)
token_adds (a_number raw) s h = subst AddsNothing (sym h.0) (number_adds raw h.1)
token_adds (a_string raw) s h = subst AddsNothing (sym h.0) (string_adds raw h.1)

-- ---- brackets

one_away : (m n : ℕ) → m - 1 ≤ n → m ≤ suc n
one_away m n h = omega arith

-- what stands in brackets takes nothing away with them, since the closing one takes one away at most
array_takes : (inner : List ℕ) → TakesNothing inner → TakesNothing (begin_array ∷ (inner ++ end_array ∷ []))
array_takes inner h rest =
    let behind : json_openers rest - 1 ≤ json_openers (inner ++ end_array ∷ rest) = h (end_array ∷ rest) in
    subst (λ bytes. json_openers rest ≤ suc (json_openers bytes)) (sym (append_assoc inner (end_array ∷ []) rest))
    (one_away (json_openers rest) (json_openers (inner ++ end_array ∷ rest)) behind)

object_takes : (inner : List ℕ) → TakesNothing inner → TakesNothing (begin_object ∷ (inner ++ end_object ∷ []))
object_takes inner h rest =
    let behind : json_openers rest - 1 ≤ json_openers (inner ++ end_object ∷ rest) = h (end_object ∷ rest) in
    subst (λ bytes. json_openers rest ≤ suc (json_openers bytes)) (sym (append_assoc inner (end_object ∷ []) rest))
    (one_away (json_openers rest) (json_openers (inner ++ end_object ∷ rest)) behind)

-- ---- values

ws_takes : (s : List ℕ) → IsWs s → TakesNothing s
ws_takes s h = takes_if_adds s (ws_adds s h)

padded_takes : (P : List ℕ → Type 0) → ((s : List ℕ) → P s → TakesNothing s) → (bytes : List ℕ) → IsPadded P bytes → TakesNothing bytes
padded_takes P takes bytes h =
    subst TakesNothing (sym h.3) (both_take h.0 (h.1 ++ h.2) (ws_takes h.0 h.4) (both_take h.1 h.2 (takes h.1 h.5) (ws_takes h.2 h.6)))

member_takes : (name : List ℕ) (P : List ℕ → Type 0) → ((s : List ℕ) → P s → TakesNothing s) → (bytes : List ℕ) → IsMember name P bytes → TakesNothing bytes
member_takes name P takes bytes h =
    let key = quotation_mark ∷ (name ++ (quotation_mark ∷ (h.1 ++ name_separator ∷ []))) in
    let flat : h.0 ++ (key ++ h.2) ≡ bytes = simp append_assoc (sym h.3) in
    let named = takes_if_adds key (name_adds name key (h.1, refl, chars_are_quoted name h.5.1, h.6)) in
    subst TakesNothing flat (both_take h.0 (key ++ h.2) (ws_takes h.0 h.4) (both_take key h.2 named (padded_takes P takes h.2 h.7)))

literal_takes : (s word : List ℕ) → AddsNothing word → s ≡ word → TakesNothing s
literal_takes s word adds is = takes_if_adds s (subst AddsNothing (sym is) adds)

separated_takes : (b : ℕ) (s : List ℕ) → b ≡ value_separator → TakesNothing s → TakesNothing (b ∷ s)
separated_takes b s is takes = subst (λ x. TakesNothing (x ∷ s)) (sym is) takes

mutual
  -- a value takes nothing away
  pub value_takes : (x : Json) (s : List ℕ) → IsValue x s → TakesNothing s
  value_takes null s h = literal_takes s (codes "null") (λ rest. refl) h
  value_takes (boolean true) s h = literal_takes s (codes "true") (λ rest. refl) h
  value_takes (boolean false) s h = literal_takes s (codes "false") (λ rest. refl) h
  value_takes (number raw) s h = literal_takes s raw (number_adds raw (number_is_run raw h.1)) h.0
  value_takes (string raw) s h = literal_takes s (quotation_mark ∷ (raw ++ quotation_mark ∷ [])) (string_adds raw (chars_are_quoted raw h.1.1)) h.0
  value_takes (array no_elements) s h = subst TakesNothing (sym h.1) (array_takes h.0 (ws_takes h.0 h.2))
  value_takes (array (element x es)) s h =
      let inner = both_take h.2.0 h.2.1 (padded_takes (IsValue x) (value_takes x) h.2.0 h.2.3) (elements_take es h.2.1 h.2.4) in
      subst TakesNothing (sym h.1) (array_takes h.0 (subst TakesNothing (sym h.2.2) inner))
  value_takes (object no_members) s h = subst TakesNothing (sym h.1) (object_takes h.0 (ws_takes h.0 h.2))
  value_takes (object (member name x ms)) s h =
      let inner = both_take h.2.0 h.2.1 (member_takes name (IsValue x) (value_takes x) h.2.0 h.2.3) (members_take ms h.2.1 h.2.4) in
      subst TakesNothing (sym h.1) (object_takes h.0 (subst TakesNothing (sym h.2.2) inner))

  elements_take : (es : Elements) (s : List ℕ) → AreMoreElements es s → TakesNothing s
  elements_take no_elements s h = subst TakesNothing (sym h) (λ rest. at_least (json_openers rest) (json_openers rest) refl)
  elements_take (element x es) [] h = absurd h
  elements_take (element x es) (b ∷ s) h =
      let more = h.1 in
      let inner = both_take more.0 more.1 (padded_takes (IsValue x) (value_takes x) more.0 more.3) (elements_take es more.1 more.4) in
      separated_takes b s h.0 (subst TakesNothing (sym more.2) inner)

  members_take : (ms : Members) (s : List ℕ) → AreMoreMembers ms s → TakesNothing s
  members_take no_members s h = subst TakesNothing (sym h) (λ rest. at_least (json_openers rest) (json_openers rest) refl)
  members_take (member name x ms) [] h = absurd h
  members_take (member name x ms) (b ∷ s) h =
      let more = h.1 in
      let inner = both_take more.0 more.1 (member_takes name (IsValue x) (value_takes x) more.0 more.3) (members_take ms more.1 more.4) in
      separated_takes b s h.0 (subst TakesNothing (sym more.2) inner)
