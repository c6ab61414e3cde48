-- What the tokens of an object say, its members say.
use Rattle.std.proofs.Common.{◌≡◌, ◌≤◌, ◌<◌, ◌+◌, ◌-◌, ◌==◌, ◌||◌, ◌&&◌, ℕ, zero, suc, max, nat_le, nat_lt, List, [], ◌∷◌, ◌++◌, Bool, true, false, Option, Some, None, Result, Ok, Err, is_some, if◌then◌else◌, codes, refl, sym, ap, ◌∙◌, subst, arith, append_assoc}
use Rattle.std.proofs.lemmas.Bool.Decides.{nat_tests}
use Rattle.std.proofs.lemmas.Slice.Eq.{bytes_eq-Decides}
use Rattle.std.specs.List.{list_all}
use Rattle.std.specs.Option.{option_map_or}
use Rattle.std.specs.Result.{IfOk, IfErr}
use Rattle.smithy_json_grammar.specs.Tree.{Json, null, boolean, number, string, array, object, Elements, no_elements, element, Members, no_members, member, nesting, elements_nesting, members_nesting}
use Rattle.smithy_json_grammar.specs.HeldNumber.{number_of}
use Rattle.smithy_json_grammar.specs.Unescape.{unescaped}
use Rattle.smithy_json_tokens.specs.Tokens as tokens
use Rattle.smithy_json_tokens.specs.Tokens.{JsonToken, start_array, start_object, value_null, value_bool, value_number, value_uncarried, value_string, object_key, tokens, element_tokens, member_tokens, number_token}
use Rattle.smithy_json_tokens.specs.TokenRules.{Cursor, Answer, finished, found, refused, next_answer, FindsContainer}
use Rattle.smithy_json_tokens.specs.TokenRuns.{start, Leads}
use Rattle.smithy_json_tokens.specs.declared.error.DeserializeErrorKind.{DeserializeErrorKind}
use Rattle.smithy_error_bodies.specs.Said.{Said, nothing_said, is_code, is_type, is_message, first_of}
use Rattle.smithy_error_bodies.specs.JsonErrors.{strings_under, last_text, is_looked_at, are_readable, object_says, ObjectSays, SaysFrom, JsonSays}
use Rattle.smithy_error_bodies.specs.Private.JsonKeys.{key_of}
use Rattle.smithy_error_bodies.specs.Private.JsonSteps.{State, fresh, with_text, under_key, end_step, whole, reads_by, reads, Tells, begins_object}
use Rattle.smithy_error_bodies.specs.declared.reading.Key.{Key}
use Rattle.smithy_error_bodies.specs.declared.reading.Key.TheVariants.{Code, Kind, Message, Other}
use Rattle.smithy_error_bodies.specs.declared.reading.Turn.TheVariants.{On, Done, Wrong}
use Rattle.smithy_error_bodies.proofs.JsonTelling.{found_here, finds_it}
use Rattle.smithy_error_bodies.proofs.JsonShapes.{Closes, members_of}

-- ---- what is read closes the object

never : {X : Type 0} (said : Said) → ◌≡◌ {A = Option Said} None (Some said) → X
never said h = absurd (cc)

abbrev Closed : List JsonToken → Type 0
Closed ts = (s : State) (said : Said) → reads s ts ≡ Some said → Closes (suc s.within) ts

started : (ts : List JsonToken) (s : State) (said : Said) (c : Bool) → Closed ts
    → reads_by (if c then (On, record s { within = suc s.within }) else (Wrong, s)) (λ u. reads u ts) ts ≡ Some said → Closes (suc (suc s.within)) ts
started ts s said true closed h = closed (record s { within = suc s.within }) said h
started ts s said false closed h = never said h

ended_last : (ts : List JsonToken) (s : State) (said : Said) → whole s ts ≡ Some said → ts ≡ []
ended_last [] s said h = refl
ended_last (t ∷ ts) s said h = never said h

inside : (n : ℕ) → (suc n == 0) ≡ false
inside n = grind (arith, nat_tests)

ended : (n : ℕ) (ts : List JsonToken) (s : State) (said : Said) → Closed ts
    → reads_by (if n == 0 then (Done, s) else (On, record s { within = n - 1 })) (λ u. reads u ts) ts ≡ Some said → Closes n ts
ended zero ts s said closed h = ended_last ts s said h
ended (suc n) ts s said closed h =
    let back : suc n - 1 ≡ n = omega arith in
    let goes = subst (λ c. reads_by (if c then (Done, s) else (On, record s { within = suc n - 1 })) (λ u. reads u ts) ts ≡ Some said) (inside n) h in
    subst (λ k. Closes (suc k) ts) back (closed (record s { within = suc n - 1 }) said goes)

named : (ts : List JsonToken) (s u : State) (said : Said) (c : Bool) → u.within ≡ s.within → Closed ts → reads (if c then u else s) ts ≡ Some said → Closes (suc s.within) ts
named ts s u said true same closed h = subst (λ n. Closes (suc n) ts) same (closed u said h)
named ts s u said false same closed h = closed s said h

put_within : (key : Key) (text : List ℕ) (s : State) → (with_text key text s).within ≡ s.within
put_within Code text s = refl
put_within Kind text s = refl
put_within Message text s = refl
put_within Other text s = refl

put : (ts : List JsonToken) (s : State) (key : Key) (o : Option (List ℕ)) (said : Said) → Closed ts → reads_by (under_key key s o) (λ u. reads u ts) ts ≡ Some said → Closes (suc s.within) ts
put ts s Other o said closed h = closed s said h
put ts s Code (Some text) said closed h = closed (record s { code = Some text }) said h
put ts s Kind (Some text) said closed h = closed (record s { kind = Some text }) said h
put ts s Message (Some text) said closed h = closed (record s { message = Some text }) said h
put ts s Code None said closed h = never said h
put ts s Kind None said closed h = never said h
put ts s Message None said closed h = never said h

stringed : (ts : List JsonToken) (s : State) (o : Option (List ℕ)) (said : Said) (c : Bool) → Closed ts
    → reads_by (if c then under_key s.under s o else (On, s)) (λ u. reads u ts) ts ≡ Some said → Closes (suc s.within) ts
stringed ts s o said true closed h = put ts s s.under o said closed h
stringed ts s o said false closed h = closed s said h

closed : (ts : List JsonToken) → Closed ts
closed [] s said h = never said h
closed (start_array ∷ ts) s said h = started ts s said (nat_lt s.within 512) (closed ts) h
closed (start_object ∷ ts) s said h = started ts s said (nat_lt s.within 512) (closed ts) h
closed (tokens.end_array ∷ ts) s said h = ended s.within ts s said (closed ts) h
closed (tokens.end_object ∷ ts) s said h = ended s.within ts s said (closed ts) h
closed (object_key raw ∷ ts) s said h = named ts s (record s { under = key_of raw }) said (s.within == 0) refl (closed ts) h
closed (value_string raw ∷ ts) s said h = stringed ts s (unescaped raw) said (s.within == 0) (closed ts) h
closed (value_null ∷ ts) s said h = closed ts s said h
closed (value_bool b ∷ ts) s said h = closed ts s said h
closed (value_number n ∷ ts) s said h = closed ts s said h
closed (value_uncarried text ∷ ts) s said h = closed ts s said h

-- ---- a value inside of a value

-- this, where the test holds
abbrev gate : Bool → Option Said → Option Said
gate c r = if c then r else None

both : (a b : Bool) (r : Option Said) → gate a (gate b r) ≡ gate (a && b) r
both true b r = refl
both false b r = refl

max_within : (n a b : ℕ) → (nat_le (n + a) 512 && nat_le (n + b) 512) ≡ nat_le (n + max a b) 512
max_within n a b = go (nat_le (n + a) 512) refl (nat_le (n + b) 512) refl
  where
    go : (x : Bool) → nat_le (n + a) 512 ≡ x → (y : Bool) → nat_le (n + b) 512 ≡ y → (x && y) ≡ nat_le (n + max a b) 512
    go true p true q =
        let low : n + a ≤ 512 = grind (arith, nat_tests) in
        let high : n + b ≤ 512 = grind (arith, nat_tests) in
        let all : n + max a b ≤ 512 = omega arith in
        grind (arith, nat_tests)
    go true p false q =
        let high : 512 < n + b = grind (arith, nat_tests) in
        let all : 512 < n + max a b = omega arith in
        grind (arith, nat_tests)
    go false p y q =
        let low : 512 < n + a = grind (arith, nat_tests) in
        let all : 512 < n + max a b = omega arith in
        grind (arith, nat_tests)

max_flat : (a b : ℕ) → (nat_le a 512 && nat_le b 512) ≡ nat_le (max a b) 512
max_flat a b =
    let first : 0 + a ≡ a = omega arith in
    let second : 0 + b ≡ b = omega arith in
    let greatest : 0 + max a b ≡ max a b = omega arith in
    ap (λ n. nat_le n 512 && nat_le b 512) (sym first) ∙ ap (λ n. nat_le (0 + a) 512 && nat_le n 512) (sym second) ∙ max_within 0 a b ∙ ap (λ n. nat_le n 512) greatest

-- inside of one more value than so many
abbrev deep : State → ℕ → State
deep s n = record s { within = suc n }

number_passes : (raw : List ℕ) (s : State) (rest : List JsonToken) → reads s (number_token raw ∷ rest) ≡ reads s rest
number_passes raw s rest = go (number_of raw)
  where
    go : (n : Option _) → reads s (option_map_or value_number n (value_uncarried raw) ∷ rest) ≡ reads s rest
    go (Some n) = refl
    go None = refl

-- a value of these nestings passes or doesn't, by the greatest
two_pass : (n a b : ℕ) (r : Option Said) → gate (nat_le (n + a) 512) (gate (nat_le (n + b) 512) r) ≡ gate (nat_le (n + max a b) 512) r
two_pass n a b r = both (nat_le (n + a) 512) (nat_le (n + b) 512) r ∙ ap (λ c. gate c r) (max_within n a b)

small : (n : ℕ) → n ≤ 512 → nat_le (n + 0) 512 ≡ true
small n h = grind (arith, nat_tests)

-- a token of a deeper container
string_inside : (s : State) (n : ℕ) (raw : List ℕ) (rest : List JsonToken) → reads (deep s n) (value_string raw ∷ rest) ≡ reads (deep s n) rest
string_inside s n raw rest = ap (λ c. reads_by (if c then under_key s.under (deep s n) (unescaped raw) else (On, deep s n)) (λ u. reads u rest) rest) (inside n)

key_inside : (s : State) (n : ℕ) (raw : List ℕ) (rest : List JsonToken) → reads (deep s n) (object_key raw ∷ rest) ≡ reads (deep s n) rest
key_inside s n raw rest = ap (λ c. reads (if c then record (deep s n) { under = key_of raw } else deep s n) rest) (inside n)

end_inside : (s : State) (n : ℕ) (rest : List JsonToken) → reads_by (end_step (deep s n)) (λ u. reads u rest) rest ≡ reads (record s { within = n }) rest
end_inside s n rest =
    let back : suc n - 1 ≡ n = omega arith in
    ap (λ c. reads_by (if c then (Done, deep s n) else (On, record s { within = suc n - 1 })) (λ u. reads u rest) rest) (inside n)
    ∙ ap (λ k. reads (record s { within = k }) rest) back

-- a container begins, or is one too many
opened : (s : State) (ts rest : List JsonToken) (w inside : ℕ) → ((w < 512) → reads (record s { within = suc w }) ts ≡ gate (nat_le (suc w + inside) 512) (reads (record s { within = w }) rest))
    → reads_by (if nat_lt w 512 then (On, record s { within = suc w }) else (Wrong, record s { within = w })) (λ u. reads u ts) ts
    ≡ gate (nat_le (w + suc inside) 512) (reads (record s { within = w }) rest)
opened s ts rest w inside others = go (nat_lt w 512) refl
  where
    same : nat_le (suc w + inside) 512 ≡ nat_le (w + suc inside) 512
    same = let n : suc w + inside ≡ w + suc inside = omega arith in ap (λ k. nat_le k 512) n

    go : (c : Bool) → nat_lt w 512 ≡ c → reads_by (if c then (On, record s { within = suc w }) else (Wrong, record s { within = w })) (λ u. reads u ts) ts
        ≡ gate (nat_le (w + suc inside) 512) (reads (record s { within = w }) rest)
    go true is =
        let less : w < 512 = grind (arith, nat_tests) in
        others less ∙ ap (λ c. gate c (reads (record s { within = w }) rest)) same
    go false is =
        let past : nat_le (w + suc inside) 512 ≡ false = grind (arith, nat_tests) in
        ap (λ c. gate c (reads (record s { within = w }) rest)) (sym past)

mutual
  passes : (j : Json) (s : State) (n : ℕ) (rest : List JsonToken) → suc n ≤ 512 → reads (deep s n) (tokens j ++ rest) ≡ gate (nat_le (suc n + nesting j) 512) (reads (deep s n) rest)
  passes null s n rest h = ap (λ c. gate c (reads (deep s n) rest)) (sym (small (suc n) h))
  passes (boolean b) s n rest h = ap (λ c. gate c (reads (deep s n) rest)) (sym (small (suc n) h))
  passes (string raw) s n rest h = string_inside s n raw rest ∙ ap (λ c. gate c (reads (deep s n) rest)) (sym (small (suc n) h))
  passes (number raw) s n rest h = number_passes raw (deep s n) rest ∙ ap (λ c. gate c (reads (deep s n) rest)) (sym (small (suc n) h))
  passes (array es) s n rest h =
      ap (λ l. reads (deep s n) (start_array ∷ l)) (append_assoc (element_tokens es) (tokens.end_array ∷ []) rest)
      ∙ opened s (element_tokens es ++ tokens.end_array ∷ rest) rest (suc n) (elements_nesting es) (λ less. elements_pass es s (suc n) (tokens.end_array ∷ rest) (omega (arith, less)) ∙ ap (gate (nat_le (suc (suc n) + elements_nesting es) 512)) (end_inside s (suc n) rest))
  passes (object ms) s n rest h =
      ap (λ l. reads (deep s n) (start_object ∷ l)) (append_assoc (member_tokens ms) (tokens.end_object ∷ []) rest)
      ∙ opened s (member_tokens ms ++ tokens.end_object ∷ rest) rest (suc n) (members_nesting ms) (λ less. members_pass ms s (suc n) (tokens.end_object ∷ rest) (omega (arith, less)) ∙ ap (gate (nat_le (suc (suc n) + members_nesting ms) 512)) (end_inside s (suc n) rest))

  elements_pass : (es : Elements) (s : State) (n : ℕ) (rest : List JsonToken) → suc n ≤ 512 → reads (deep s n) (element_tokens es ++ rest) ≡ gate (nat_le (suc n + elements_nesting es) 512) (reads (deep s n) rest)
  elements_pass no_elements s n rest h = ap (λ c. gate c (reads (deep s n) rest)) (sym (small (suc n) h))
  elements_pass (element j es) s n rest h =
      ap (reads (deep s n)) (append_assoc (tokens j) (element_tokens es) rest)
      ∙ passes j s n (element_tokens es ++ rest) h
      ∙ ap (gate (nat_le (suc n + nesting j) 512)) (elements_pass es s n rest h)
      ∙ two_pass (suc n) (nesting j) (elements_nesting es) (reads (deep s n) rest)

  members_pass : (ms : Members) (s : State) (n : ℕ) (rest : List JsonToken) → suc n ≤ 512 → reads (deep s n) (member_tokens ms ++ rest) ≡ gate (nat_le (suc n + members_nesting ms) 512) (reads (deep s n) rest)
  members_pass no_members s n rest h = ap (λ c. gate c (reads (deep s n) rest)) (sym (small (suc n) h))
  members_pass (member key j ms) s n rest h =
      key_inside s n key ((tokens j ++ member_tokens ms) ++ rest)
      ∙ ap (reads (deep s n)) (append_assoc (tokens j) (member_tokens ms) rest)
      ∙ passes j s n (member_tokens ms ++ rest) h
      ∙ ap (gate (nat_le (suc n + nesting j) 512)) (members_pass ms s n rest h)
      ∙ two_pass (suc n) (nesting j) (members_nesting ms) (reads (deep s n) rest)

-- ---- the members of the object itself

-- the text of the last string, where there is one, else what was there before
abbrev newest : List (List ℕ) → Option (List ℕ) → Option (List ℕ)
newest [] old = old
newest (raw ∷ raws) old = newest raws (unescaped raw)

newest_of : (raw : List ℕ) (raws : List (List ℕ)) (old : Option (List ℕ)) → newest (raw ∷ raws) old ≡ last_text (raw ∷ raws)
newest_of raw [] old = refl
newest_of raw (more ∷ raws) old = newest_of more raws (unescaped raw)

newest_is : (raws : List (List ℕ)) → newest raws None ≡ last_text raws
newest_is [] = refl
newest_is (raw ∷ raws) = newest_of raw raws None

abbrev readable : List (List ℕ) → Bool
readable raws = list_all (λ raw. is_some (unescaped raw)) raws

-- what is said of these strings, behind those before
abbrev sums : (codes kinds messages : List (List ℕ)) → State → Said
sums codes kinds messages s = record { code = first_of (newest codes s.code) (newest kinds s.kind); message = newest messages s.message }

-- what the tokens of the rest of the object say, by the members that are left
abbrev SaysRest : List JsonToken → ℕ → (looked codes kinds messages : List (List ℕ)) → Type 0
SaysRest ts deepest looked codes kinds messages =
    (s : State) → s.within ≡ 0 → reads s ts ≡ gate (nat_le deepest 512 && readable looked) (Some (sums codes kinds messages s))

-- a string under a key, by which key it is
abbrev chosen_key : (a b m : Bool) → Key
chosen_key a b m = if a then Code else if b then Kind else if m then Message else Other

refused_all : (a : Bool) (r : Option Said) → None ≡ gate (a && false) r
refused_all true r = refl
refused_all false r = refl

module _ (ts : List JsonToken) (deepest : ℕ) (looked codes kinds messages : List (List ℕ)) (rest : SaysRest ts deepest looked codes kinds messages) (raw : List ℕ) where
  abbrev With : Bool → List (List ℕ) → List (List ℕ)
  With c raws = if c then raw ∷ raws else raws

  refused_string : unescaped raw ≡ None → (r : Option Said) → None ≡ gate (nat_le deepest 512 && (is_some (unescaped raw) && readable looked)) r
  refused_string is r = refused_all (nat_le deepest 512) r ∙ ap (λ o. gate (nat_le deepest 512 && (is_some o && readable looked)) r) (sym is)

  -- of the three tests one at most holds
  string_said : (a b m : Bool) → (a ≡ true → (b ≡ false) × (m ≡ false)) → (b ≡ true → m ≡ false) → (s : State) → s.within ≡ 0 → (o : Option (List ℕ)) → unescaped raw ≡ o
      → reads_by (under_key (chosen_key a b m) s o) (λ u. reads u ts) ts
      ≡ gate (nat_le deepest 512 && readable (With (a || b || m) looked)) (Some (sums (With a codes) (With b kinds) (With m messages) s))
  string_said false false false one two s flat o is = rest s flat
  string_said true b m one two s flat (Some text) is =
      rw ((one refl).0, (one refl).1) (rest (record s { code = Some text }) flat
      ∙ ap (λ o. gate (nat_le deepest 512 && (is_some o && readable looked)) (Some (record { code = first_of (newest codes o) (newest kinds s.kind); message = newest messages s.message }))) (sym is))
  string_said true b m one two s flat None is = refused_string is _
  string_said false true m one two s flat (Some text) is =
      rw (two refl) (rest (record s { kind = Some text }) flat
      ∙ ap (λ o. gate (nat_le deepest 512 && (is_some o && readable looked)) (Some (record { code = first_of (newest codes s.code) (newest kinds o); message = newest messages s.message }))) (sym is))
  string_said false true m one two s flat None is = refused_string is _
  string_said false false true one two s flat (Some text) is =
      rest (record s { message = Some text }) flat
      ∙ ap (λ o. gate (nat_le deepest 512 && (is_some o && readable looked)) (Some (record { code = first_of (newest codes s.code) (newest kinds s.kind); message = newest messages o }))) (sym is)
  string_said false false true one two s flat None is = refused_string is _

-- no key is of two kinds
no_code_else : (key : List ℕ) → is_code key ≡ true → (is_type key ≡ false) × (is_message key ≡ false)
no_code_else key h = let same = (bytes_eq-Decides key (codes "code")).0 h in rw same (refl, refl)

pub no_type_else : (key : List ℕ) → is_type key ≡ true → is_message key ≡ false
no_type_else key h = let same = (bytes_eq-Decides key (codes "__type")).0 h in rw same refl

-- a value that is no string passes where it doesn't nest too deep
flat_state : (s : State) → s.within ≡ 0 → s ≡ record s { within = 0 }
flat_state s h = ap (λ n. record s { within = n }) h

none_more : (n : ℕ) → 0 + n ≡ n
none_more n = omega arith

array_said : (es : Elements) (s : State) (rest : List JsonToken) → s.within ≡ 0 → reads s (tokens (array es) ++ rest) ≡ gate (nat_le (nesting (array es)) 512) (reads s rest)
array_said es s rest flat =
    subst (λ x. reads x (tokens (array es) ++ rest) ≡ gate (nat_le (nesting (array es)) 512) (reads x rest)) (sym (flat_state s flat))
    (ap (λ l. reads (record s { within = 0 }) (start_array ∷ l)) (append_assoc (element_tokens es) (tokens.end_array ∷ []) rest)
    ∙ opened s (element_tokens es ++ tokens.end_array ∷ rest) rest 0 (elements_nesting es) (λ less. elements_pass es s 0 (tokens.end_array ∷ rest) (omega arith) ∙ ap (gate (nat_le (suc 0 + elements_nesting es) 512)) (end_inside s 0 rest))
    ∙ ap (λ n. gate (nat_le n 512) (reads (record s { within = 0 }) rest)) (none_more (suc (elements_nesting es))))

object_said : (ms : Members) (s : State) (rest : List JsonToken) → s.within ≡ 0 → reads s (tokens (object ms) ++ rest) ≡ gate (nat_le (nesting (object ms)) 512) (reads s rest)
object_said ms s rest flat =
    subst (λ x. reads x (tokens (object ms) ++ rest) ≡ gate (nat_le (nesting (object ms)) 512) (reads x rest)) (sym (flat_state s flat))
    (ap (λ l. reads (record s { within = 0 }) (start_object ∷ l)) (append_assoc (member_tokens ms) (tokens.end_object ∷ []) rest)
    ∙ opened s (member_tokens ms ++ tokens.end_object ∷ rest) rest 0 (members_nesting ms) (λ less. members_pass ms s 0 (tokens.end_object ∷ rest) (omega arith) ∙ ap (gate (nat_le (suc 0 + members_nesting ms) 512)) (end_inside s 0 rest))
    ∙ ap (λ n. gate (nat_le n 512) (reads (record s { within = 0 }) rest)) (none_more (suc (members_nesting ms))))

-- the nesting of one value before those of the others
nested_first : (a b : ℕ) (can : Bool) (r : Option Said) → gate (nat_le a 512) (gate (nat_le b 512 && can) r) ≡ gate (nat_le (max a b) 512 && can) r
nested_first a b can r =
    both (nat_le a 512) (nat_le b 512 && can) r
    ∙ ap (λ c. gate c r) (regroup (nat_le a 512) (nat_le b 512) can)
    ∙ ap (λ c. gate (c && can) r) (max_flat a b)
  where
    regroup : (x y z : Bool) → (x && (y && z)) ≡ ((x && y) && z)
    regroup true y z = refl
    regroup false y z = refl

-- a key of the object itself
keyed : (s : State) (key : List ℕ) (ts : List JsonToken) → s.within ≡ 0 → reads s (object_key key ∷ ts) ≡ reads (record s { under = key_of key }) ts
keyed s key ts flat = ap (λ n. reads (if n == 0 then record s { under = key_of key } else s) ts) flat

-- a string of the object itself
a_string : (s : State) (raw : List ℕ) (ts : List JsonToken) → s.within ≡ 0 → reads s (value_string raw ∷ ts) ≡ reads_by (under_key s.under s (unescaped raw)) (λ u. reads u ts) ts
a_string s raw ts flat = ap (λ n. reads_by (if n == 0 then under_key s.under s (unescaped raw) else (On, s)) (λ u. reads u ts) ts) flat

abbrev Ends : Members → List JsonToken
Ends ms = member_tokens ms ++ tokens.end_object ∷ []

abbrev MembersSaid : Members → Type 0
MembersSaid ms = SaysRest (Ends ms) (members_nesting ms) (strings_under is_looked_at ms) (strings_under is_code ms) (strings_under is_type ms) (strings_under is_message ms)

-- a member whose value is no string
other_said : (key : List ℕ) (j : Json) (ms : Members) (s : State) → s.within ≡ 0
    → ((u : State) → u.within ≡ 0 → reads u (tokens j ++ Ends ms) ≡ gate (nat_le (nesting j) 512) (reads u (Ends ms)))
    → MembersSaid ms
    → reads s (object_key key ∷ ((tokens j ++ member_tokens ms) ++ tokens.end_object ∷ []))
    ≡ gate (nat_le (max (nesting j) (members_nesting ms)) 512 && are_readable ms) (Some (sums (strings_under is_code ms) (strings_under is_type ms) (strings_under is_message ms) s))
other_said key j ms s flat value others =
    keyed s key ((tokens j ++ member_tokens ms) ++ tokens.end_object ∷ []) flat
    ∙ ap (reads (record s { under = key_of key })) (append_assoc (tokens j) (member_tokens ms) (tokens.end_object ∷ []))
    ∙ value (record s { under = key_of key }) flat
    ∙ ap (gate (nat_le (nesting j) 512)) (others (record s { under = key_of key }) flat)
    ∙ nested_first (nesting j) (members_nesting ms) (are_readable ms) _

members_said : (ms : Members) → MembersSaid ms
members_said no_members s flat = ap (λ n. reads_by (if n == 0 then (Done, s) else (On, record s { within = n - 1 })) (λ u. reads u []) []) flat
members_said (member key (string raw) ms) s flat =
    let u = record s { under = key_of key } in
    keyed s key (value_string raw ∷ Ends ms) flat
    ∙ a_string u raw (Ends ms) flat
    ∙ string_said (Ends ms) (max 0 (members_nesting ms)) (strings_under is_looked_at ms) (strings_under is_code ms) (strings_under is_type ms) (strings_under is_message ms)
    (λ v even. members_said ms v even ∙ ap (λ n. gate (nat_le n 512 && are_readable ms) (Some (sums (strings_under is_code ms) (strings_under is_type ms) (strings_under is_message ms) v))) (deepest (members_nesting ms)))
    raw (is_code key) (is_type key) (is_message key) (no_code_else key) (no_type_else key) u flat (unescaped raw) refl
  where
    deepest : (n : ℕ) → n ≡ max 0 n
    deepest n = omega arith
members_said (member key null ms) s flat = other_said key null ms s flat (λ u even. refl) (members_said ms)
members_said (member key (boolean b) ms) s flat = other_said key (boolean b) ms s flat (λ u even. refl) (members_said ms)
members_said (member key (number raw) ms) s flat = other_said key (number raw) ms s flat (λ u even. number_passes raw u (Ends ms)) (members_said ms)
members_said (member key (array es) ms) s flat = other_said key (array es) ms s flat (λ u even. array_said es u (Ends ms) even) (members_said ms)
members_said (member key (object inner) ms) s flat = other_said key (object inner) ms s flat (λ u even. object_said inner u (Ends ms) even) (members_said ms)

object_read : (ms : Members) → reads fresh (Ends ms) ≡ object_says ms
object_read ms =
    members_said ms fresh refl
    ∙ rw (newest_is (strings_under is_code ms), newest_is (strings_under is_type ms), newest_is (strings_under is_message ms)) refl

-- ---- the whole body

told_object : (body : List ℕ) (c : Cursor) (here : List ℕ) (r : Option Said) → next_answer (start body) ≡ found start_object here c → Tells (reads fresh) c r → ObjectSays body r
told_object body c here (Some said) is (ts, d, leads, tells) =
    let parts = members_of body c d here ts is leads (closed ts fresh said tells) in
    (parts.0, d, subst (λ us. Leads (start body) (start_object ∷ us) d) parts.1 (c, finds_it (start body) c start_object here is, leads), sym (object_read parts.0) ∙ ap (reads fresh) (sym parts.1) ∙ tells)
told_object body c here None is told =
    λ ms d leads.
    let same = found_here (start body) leads.0 start_object start_object here c is leads.1 in
    sym (object_read ms) ∙ told (Ends ms) d (subst (λ x. Leads x (Ends ms) d) (sym same.1) leads.2)

begun : (t : JsonToken) → begins_object t ≡ true → t ≡ start_object
begun start_object h = refl
begun start_array h = cc
begun tokens.end_array h = cc
begun tokens.end_object h = cc
begun value_null h = cc
begun (value_bool b) h = cc
begun (value_number n) h = cc
begun (value_uncarried text) h = cc
begun (value_string raw) h = cc
begun (object_key raw) h = cc

pub says_object : (body : List ℕ) (c : Cursor) (t : JsonToken) (here : List ℕ) (r : Option Said) → next_answer (start body) ≡ found t here c → begins_object t ≡ true → Tells (reads fresh) c r → JsonSays body r
says_object body c t here r is begins told =
    let first : next_answer (start body) ≡ found start_object here c = is ∙ ap (λ u. found u here c) (begun t begins) in
    subst (λ a. SaysFrom a body r) (sym first) (told_object body c here r first told)

no_object : (t : JsonToken) (here : List ℕ) (c : Cursor) (body : List ℕ) → begins_object t ≡ false → SaysFrom (found t here c) body (Some nothing_said)
no_object start_object here c body h = cc
no_object start_array here c body h = refl
no_object tokens.end_array here c body h = refl
no_object tokens.end_object here c body h = refl
no_object value_null here c body h = refl
no_object (value_bool b) here c body h = refl
no_object (value_number n) here c body h = refl
no_object (value_uncarried text) here c body h = refl
no_object (value_string raw) here c body h = refl
no_object (object_key raw) here c body h = refl

pub says_other : (body : List ℕ) (c : Cursor) (t : JsonToken) (here : List ℕ) → next_answer (start body) ≡ found t here c → begins_object t ≡ false → JsonSays body (Some nothing_said)
says_other body c t here is other = subst (λ a. SaysFrom a body (Some nothing_said)) (sym is) (no_object t here c body other)

pub says_nothing : (body : List ℕ) → next_answer (start body) ≡ finished → JsonSays body (Some nothing_said)
says_nothing body is = subst (λ a. SaysFrom a body (Some nothing_said)) (sym is) refl

pub says_refused : (body : List ℕ) (kind : DeserializeErrorKind) (place : List ℕ) → next_answer (start body) ≡ refused kind place → JsonSays body None
says_refused body kind place is = subst (λ a. SaysFrom a body None) (sym is) refl

-- what holds of each answer
pub each_ok : {A E : Type 0} (P Q : A → Type 0) (r : Result A E) → ((x : A) → P x → Q x) → IfOk r P → IfOk r Q
each_ok P Q (Ok x) f h = f x h
each_ok P Q (Err e) f h = tt

pub each_err : {A E : Type 0} (P Q : E → Type 0) (r : Result A E) → ((e : E) → P e → Q e) → IfErr r P → IfErr r Q
each_err P Q (Ok x) f h = tt
each_err P Q (Err e) f h = f e h

-- a token that begins an object begins a container
pub object_container : (a : Answer) (t : JsonToken) (here : List ℕ) (c : Cursor) → a ≡ found t here c → begins_object t ≡ true → FindsContainer a
object_container a start_object here c is begins = subst FindsContainer (sym is) tt
object_container a start_array here c is begins = absurd (cc (begins))
object_container a tokens.end_array here c is begins = absurd (cc (begins))
object_container a tokens.end_object here c is begins = absurd (cc (begins))
object_container a value_null here c is begins = absurd (cc (begins))
object_container a (value_bool b) here c is begins = absurd (cc (begins))
object_container a (value_number n) here c is begins = absurd (cc (begins))
object_container a (value_uncarried raw) here c is begins = absurd (cc (begins))
object_container a (value_string raw) here c is begins = absurd (cc (begins))
object_container a (object_key raw) here c is begins = absurd (cc (begins))
