-- A token that lies at a place of the input, and a name, is determined, with its end.
use Rattle.std.specs.Prelude.{◌≡◌, ℕ, ◌<◌, ◌==◌, length, drop, List, [], ◌∷◌, ◌++◌, Bool, true, false, if◌then◌else◌, codes, refl}
use Rattle.std.proofs.Common.{sym, ◌∙◌, ap, arith, subst, append_assoc, inl, inr}
use Rattle.std.proofs.lemmas.Bool.Decides.{nat_tests}
use Rattle.smithy_json_grammar.specs.Ascii.{quotation_mark, escape, value_separator, name_separator, begin_array, begin_object, end_object, is_ws}
use Rattle.smithy_json_values.specs.Scalar.{JsonScalar, a_boolean, a_number, a_string}
use Rattle.smithy_json_values.specs.Standing.{IsFront, Lies, IsByte, without_ws, begins_with_null, begins_with_alphanumeric}
use Rattle.smithy_json_values.specs.Tokens.{is_numeric, EndsRun, IsQuoted, IsToken, EndsToken, IsNameToken, NameTokens}
use Rattle.smithy_json_values.specs.Private.Lexical.{first, run, behind, run_text, behind_text, Stops, run_all, behind_all, past_ws, eq_false}
use Rattle.smithy_json_values.specs.Private.BytePlaces.{same_end, ends_ahead, past_byte, same_byte, same_separated, separated_ahead}
use Rattle.smithy_json_values.specs.Private.ValueSorts.{json_sort, no_n}
use Rattle.smithy_wire.specs.Wire.{a_scalar}

-- ---- what stands between quotation marks ends at the first that no backslash takes

stop_text : (r : List ℕ) → (run_text (quotation_mark ∷ r) ≡ []) × (behind_text (quotation_mark ∷ r) ≡ quotation_mark ∷ r)
stop_text [] = (refl, refl)
stop_text (c ∷ r) = (refl, refl)

pub quoted_all : (s r : List ℕ) → IsQuoted s
    → (run_text (s ++ quotation_mark ∷ r) ≡ s) × (behind_text (s ++ quotation_mark ∷ r) ≡ quotation_mark ∷ r)
quoted_all [] r h = stop_text r
quoted_all (b ∷ []) r h =
    let n = stop_text r in
    (rw (eq_false b quotation_mark h.0, eq_false b escape h.1, n.0) refl, rw (eq_false b quotation_mark h.0, eq_false b escape h.1, n.1) refl)
quoted_all (b ∷ c ∷ s) r (inl h) =
    let n = quoted_all (c ∷ s) r h.1 in (
      rw (eq_false b quotation_mark h.0.0, eq_false b escape h.0.1) (ap (λ t. b ∷ t) n.0),
      rw (eq_false b quotation_mark h.0.0, eq_false b escape h.0.1) n.1,
    )
quoted_all (b ∷ c ∷ s) r (inr h) =
    let n = quoted_all s r h.1 in
    (rw h.0 (ap (λ t. escape ∷ c ∷ t) n.0), rw h.0 n.1)

-- ---- which token comes first

-- the token that the bytes begin with, and what is left behind it
abbrev token_of : List ℕ → JsonScalar × List ℕ
token_of s =
    if is_numeric (first s) then (a_number (run is_numeric s), behind is_numeric s)
    else (if first s == 0x74 then (a_boolean true, drop 4 s)
    else (if first s == 0x66 then (a_boolean false, drop 5 s)
    else (a_string (run_text (drop 1 s)), drop 1 (behind_text (drop 1 s)))))

ends_stops : (r : List ℕ) → EndsRun r → Stops is_numeric r
ends_stops [] h = tt
ends_stops (b ∷ r) h = h

string_parts : (raw r : List ℕ) → (quotation_mark ∷ (raw ++ quotation_mark ∷ [])) ++ r ≡ quotation_mark ∷ (raw ++ quotation_mark ∷ r)
string_parts raw r = simp append_assoc

token_read : (x : JsonScalar) (s r : List ℕ) → IsToken x s → EndsToken x r → token_of (s ++ r) ≡ (x, r)
token_read (a_boolean true) s r h ends = rw h refl
token_read (a_boolean false) s r h ends = rw h refl
token_read (a_number []) s r h ends = absurd h.1
token_read (a_number (b ∷ raw)) s r h ends =
    rw (h.0, h.1.0) (rw (run_all is_numeric raw r h.1.1 (ends_stops r ends), behind_all is_numeric raw r h.1.1 (ends_stops r ends)) refl)
token_read (a_string raw) s r h ends =
    let n = quoted_all raw r h.1 in
    rw (h.0, string_parts raw r) (rw (n.0, n.1) refl)

same_token : (x y : JsonScalar) (s t r q : List ℕ) → IsToken x s → EndsToken x r → IsToken y t → EndsToken y q → s ++ r ≡ t ++ q → (x ≡ y) × (r ≡ q)
same_token x y s t r q h ends k stops same =
    let both : (x, r) ≡ (y, q) = sym (token_read x s r h ends) ∙ ap token_of same ∙ token_read y t q k stops in
    (ap (λ (p : JsonScalar × List ℕ). p.0) both, ap (λ (p : JsonScalar × List ℕ). p.1) both)

-- ---- how it begins

numeric_plain : (b : ℕ) → is_numeric b ≡ true → is_ws b ≡ false
numeric_plain b h = grind (arith, nat_tests)

token_stops : (x : JsonScalar) (s r : List ℕ) → IsToken x s → Stops is_ws (s ++ r)
token_stops (a_boolean true) s r h = rw h refl
token_stops (a_boolean false) s r h = rw h refl
token_stops (a_number []) s r h = absurd h.1
token_stops (a_number (b ∷ raw)) s r h = rw h.0 (numeric_plain b h.1.0)
token_stops (a_string raw) s r h = rw h.0 refl

token_fills : (x : JsonScalar) (s : List ℕ) → IsToken x s → 0 < length s
token_fills (a_boolean true) s h = rw h (omega arith)
token_fills (a_boolean false) s h = rw h (omega arith)
token_fills (a_number []) s h = absurd h.1
token_fills (a_number (b ∷ raw)) s h = rw h.0 (omega arith)
token_fills (a_string raw) s h = rw h.0 (omega arith)

-- behind the white space come the token and the rest
pub past_token : (x : JsonScalar) (s r : List ℕ) → (h : IsFront (IsToken x) s r) → without_ws s ≡ h.1 ++ r
past_token x s r h = ap without_ws h.2 ∙ past_ws h.0 (h.1 ++ r) h.3 (token_stops x h.1 r h.4)

numeric_sort : (b : ℕ) (rest : List ℕ) → is_numeric b ≡ true → json_sort (b ∷ rest) ≡ a_scalar
numeric_sort b rest h =
    let not_n : (b == 0x6e) ≡ false = grind (arith, nat_tests) in
    let not_array : (b == begin_array) ≡ false = grind (arith, nat_tests) in
    let not_object : (b == begin_object) ≡ false = grind (arith, nat_tests) in
    rw (no_n (b ∷ rest) not_n, not_array, not_object) refl

token_sort : (x : JsonScalar) (s r : List ℕ) → IsToken x s → json_sort (s ++ r) ≡ a_scalar
token_sort (a_boolean true) s r h = rw h refl
token_sort (a_boolean false) s r h = rw h refl
token_sort (a_number []) s r h = absurd h.1
token_sort (a_number (b ∷ raw)) s r h = rw h.0 (numeric_sort b (raw ++ r) h.1.0)
token_sort (a_string raw) s r h = rw (h.0, no_n (quotation_mark ∷ ((raw ++ quotation_mark ∷ []) ++ r)) refl) refl

-- ---- tokens that lie in the input

pub one_token : (i : List ℕ) (x y : JsonScalar) (a e f : ℕ) → Lies (IsToken x) i a e → EndsToken x (drop e i) → Lies (IsToken y) i a f → EndsToken y (drop f i)
    → (x ≡ y) × (e ≡ f)
one_token i x y a e f h ends k stops =
    let same : h.2.1 ++ drop e i ≡ k.2.1 ++ drop f i = sym (past_token x (drop a i) (drop e i) h.2) ∙ past_token y (drop a i) (drop f i) k.2 in
    let both = same_token x y h.2.1 k.2.1 (drop e i) (drop f i) h.2.4 ends k.2.4 stops same in
    (both.0, same_end i e f h.1 k.1 both.1)

pub token_ahead : (i : List ℕ) (x : JsonScalar) (a e : ℕ) → Lies (IsToken x) i a e → a < e
token_ahead i x a e h = ends_ahead (IsToken x) i a e h (token_fills x h.2.1 h.2.4)

pub token_begins : (i : List ℕ) (x : JsonScalar) (a e : ℕ) → Lies (IsToken x) i a e → json_sort (without_ws (drop a i)) ≡ a_scalar
token_begins i x a e h = rw (past_token x (drop a i) (drop e i) h.2) (token_sort x h.2.1 (drop e i) h.2.4)

-- ---- nulls

abbrev pub IsNullToken : List ℕ → Type 0
IsNullToken bytes = bytes ≡ codes "null"

pub past_null : (s r : List ℕ) → IsFront IsNullToken s r → without_ws s ≡ codes "null" ++ r
past_null s r h = rw (h.2, h.4) (past_ws h.0 (codes "null" ++ r) h.3 refl)

pub one_null : (i : List ℕ) (a e f : ℕ) → Lies IsNullToken i a e → Lies IsNullToken i a f → e ≡ f
one_null i a e f h k =
    let same : codes "null" ++ drop e i ≡ codes "null" ++ drop f i = sym (past_null (drop a i) (drop e i) h.2) ∙ past_null (drop a i) (drop f i) k.2 in
    same_end i e f h.1 k.1 (ap (drop 4) same)

pub null_ahead : (i : List ℕ) (a e : ℕ) → Lies IsNullToken i a e → a < e
null_ahead i a e h = ends_ahead IsNullToken i a e h (rw h.2.4 (omega arith))

pub null_token_begins : (i : List ℕ) (a e : ℕ) → Lies IsNullToken i a e → begins_with_alphanumeric (drop e i) ≡ false
    → begins_with_null (without_ws (drop a i)) ≡ true
null_token_begins i a e h ends = rw (past_null (drop a i) (drop e i) h.2, ends) refl

-- ---- names

name_parts : (raw middle r : List ℕ)
    → (quotation_mark ∷ (raw ++ (quotation_mark ∷ (middle ++ name_separator ∷ [])))) ++ r
    ≡ quotation_mark ∷ (raw ++ (quotation_mark ∷ (middle ++ (name_separator ∷ r))))
name_parts raw middle r = simp append_assoc

pub past_name : (raw s r : List ℕ) → (h : IsFront (IsNameToken raw) s r)
    → without_ws s ≡ quotation_mark ∷ (raw ++ (quotation_mark ∷ (h.4.0 ++ (name_separator ∷ r))))
past_name raw s r h =
    let t = quotation_mark ∷ (raw ++ (quotation_mark ∷ (h.4.0 ++ (name_separator ∷ r)))) in
    rw (h.2, h.4.1, name_parts raw h.4.0 r) (past_ws h.0 t h.3 refl)

raw_is : (raw s r : List ℕ) → IsFront (IsNameToken raw) s r → run_text (drop 1 (without_ws s)) ≡ raw
raw_is raw s r h = rw (past_name raw s r h) (quoted_all raw (h.4.0 ++ (name_separator ∷ r)) h.4.2).0

colon_is : (raw s r : List ℕ) → IsFront (IsNameToken raw) s r → drop 1 (without_ws (drop 1 (behind_text (drop 1 (without_ws s))))) ≡ r
colon_is raw s r h =
    rw (past_name raw s r h) (rw ((quoted_all raw (h.4.0 ++ (name_separator ∷ r)) h.4.2).1)
    (rw (past_ws h.4.0 (name_separator ∷ r) h.4.3 refl) refl))

same_name : (i raw raw' : List ℕ) (d c c' : ℕ) → Lies (IsNameToken raw) i d c → Lies (IsNameToken raw') i d c' → (raw ≡ raw') × (c ≡ c')
same_name i raw raw' d c c' h k = (
  sym (raw_is raw (drop d i) (drop c i) h.2) ∙ raw_is raw' (drop d i) (drop c' i) k.2,
  same_end i c c' h.1 k.1 (sym (colon_is raw (drop d i) (drop c i) h.2) ∙ colon_is raw' (drop d i) (drop c' i) k.2),
)

pub same_names : (i : List ℕ) (m : Bool) (b : ℕ) (raw raw' : List ℕ) (c c' : ℕ) → NameTokens m i b raw c → NameTokens m i b raw' c' → (raw ≡ raw') × (c ≡ c')
same_names i m b raw raw' c c' h k =
    let there = same_separated i m b h.0 k.0 h.1 k.1 in
    same_name i raw raw' h.0 c c' h.2 (subst (λ y. Lies (IsNameToken raw') i y c') (sym there) k.2)

no_name_end : (i raw : List ℕ) (d c e : ℕ) → Lies (IsNameToken raw) i d c → Lies (IsByte end_object) i d e → ⊥
no_name_end i raw d c e h k =
    let one : without_ws (drop d i) ≡ end_object ∷ drop e i = past_byte end_object (drop d i) (drop e i) refl k.2 in
    let two : ◌≡◌ {A = ℕ} quotation_mark end_object = ap first (sym (past_name raw (drop d i) (drop c i) h.2) ∙ one) in
    omega arith

pub names_or_end : (i : List ℕ) (m : Bool) (b : ℕ) (raw : List ℕ) (c e : ℕ) → NameTokens m i b raw c → Lies (IsByte end_object) i b e → ⊥
names_or_end i false b raw c e h k = no_name_end i raw h.0 c e h.2 (subst (λ x. Lies (IsByte end_object) i x e) (sym h.1) k)
names_or_end i true b raw c e h k =
    let same : ◌≡◌ {A = ℕ} value_separator end_object = (same_byte i b h.0 e value_separator end_object refl refl h.1 k).0 in omega arith

pub names_ahead : (i : List ℕ) (m : Bool) (b : ℕ) (raw : List ℕ) (c : ℕ) → NameTokens m i b raw c → b < c
names_ahead i m b raw c h =
    let k = ends_ahead (IsNameToken raw) i h.0 c h.2 (rw h.2.2.4.1 (omega arith)) in
    omega (arith, k, separated_ahead i m b h.0 h.1)

pub no_names : (i : List ℕ) (m : Bool) (b : ℕ) (raw : List ℕ) (c : ℕ) → i ≡ [] → NameTokens m i b raw c → ⊥
no_names i m b raw c empty h = omega (arith, ap length empty, names_ahead i m b raw c h, h.2.1)
