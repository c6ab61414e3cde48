-- A scalar of the grammar is scanned as its token.
use Rattle.std.proofs.Common.{◌≡◌, ◌≢◌, ◌≤◌, ℕ, suc, List, [], ◌∷◌, ◌++◌, length, take, drop, Bool, true, false, ◌==◌, ◌||◌, IsTrue, ◌⊎◌, Some, None, is_some, cond, codes, refl, sym, ap, ◌∙◌, arith, inl, inr, subst, nat_lt, take_at, drop_at}
use Rattle.std.proofs.lemmas.Bool.Decides.{nat_tests}
use Rattle.std.proofs.lemmas.Str.{is_utf8-from_IsUtf8}
use Rattle.std.specs.Char.{is_ascii_digit, IsAsciiDigit}
use Rattle.std.specs.List.{AllByRecursion}
use Rattle.smithy_json_grammar.specs.Ascii.{quotation_mark, escape, value_separator, begin_array, end_array, begin_object, end_object, minus_sign, letter_f, letter_n, letter_t, space, is_ws, is_e}
use Rattle.smithy_json_grammar.specs.Grammar.{AreDigits, IsInt, IsFrac, IsSign, IsExp, IsNumber, IsUnescaped, AreChars, IsStringText, IsBoundary}
use Rattle.smithy_types.specs.Decimal.{is_decimal}
use Rattle.smithy_json_grammar.specs.HeldNumber.{number_of}
use Rattle.smithy_json_tokens.specs.Tokens.{JsonToken, value_null, value_bool, number_token}
use Rattle.smithy_json_tokens.specs.declared.error.DeserializeErrorKind.TheVariants.{InvalidUtf8}
use Rattle.smithy_json_tokens.specs.TokenRules.{scanned, failed, cut, at_boundary, is_boundary_byte, is_piece, number_length, run_token, at_run, scan_number, text_length, at_mark, scan_string, scan_value}

pub eq_false : (b c : ℕ) → b ≢ c → (b == c) ≡ false
eq_false b c h = grind (arith, nat_tests)

-- ---- a boundary

boundary_byte : (b : ℕ) → IsTrue (is_ws b) ⊎ ((b ≡ value_separator) ⊎ ((b ≡ end_array) ⊎ (b ≡ end_object))) → is_boundary_byte b ≡ true
boundary_byte b (inl h) = grind (arith, nat_tests)
boundary_byte b (inr (inl h)) = rw h refl
boundary_byte b (inr (inr (inl h))) = rw h refl
boundary_byte b (inr (inr (inr h))) = rw h refl

pub at_boundary-boundary : (t : JsonToken) (rest : List ℕ) → IsBoundary rest → at_boundary t rest ≡ scanned t rest
at_boundary-boundary t [] h = refl
at_boundary-boundary t (b ∷ rest) h = rw (boundary_byte b h) refl

-- ---- numbers

-- the bytes are of one run, which may go on without a sign
abbrev pub Passes : Bool → List ℕ → Type 0
Passes sign [] = sign ≡ false
Passes sign (b ∷ s) =
    ((is_piece sign b ≡ true) × Passes false s)
    ⊎ ((is_piece sign b ≡ false) × (is_e b ≡ true) × Passes true s)

-- a boundary ends a run
boundary_ends : (b : ℕ) → IsTrue (is_ws b) ⊎ ((b ≡ value_separator) ⊎ ((b ≡ end_array) ⊎ (b ≡ end_object))) → (is_piece false b ≡ false) × (is_e b ≡ false)
boundary_ends b (inl h) = (grind (arith, nat_tests), grind (arith, nat_tests))
boundary_ends b (inr (inl h)) = rw h (refl, refl)
boundary_ends b (inr (inr (inl h))) = rw h (refl, refl)
boundary_ends b (inr (inr (inr h))) = rw h (refl, refl)

number_length-boundary : (rest : List ℕ) → IsBoundary rest → number_length false rest ≡ 0
number_length-boundary [] h = refl
number_length-boundary (b ∷ rest) h =
    let ends = boundary_ends b h in
    let piece : is_piece false b ≡ false = ends.0 in
    ap (λ p. cond p (suc (number_length false rest)) (cond (is_e b) (suc (number_length true rest)) 0)) piece
    ∙ ap (λ p. cond p (suc (number_length true rest)) 0) ends.1

number_length-passes : (sign : Bool) (s rest : List ℕ) → Passes sign s → IsBoundary rest → number_length sign (s ++ rest) ≡ length s
number_length-passes false [] rest h k = number_length-boundary rest k
number_length-passes true [] rest h k = cc
number_length-passes sign (b ∷ s) rest (inl h) k =
    let piece : is_piece sign b ≡ true = h.0 in
    ap (λ p. cond p (suc (number_length false (s ++ rest))) (cond (is_e b) (suc (number_length true (s ++ rest))) 0)) piece
    ∙ ap suc (number_length-passes false s rest h.1 k)
number_length-passes sign (b ∷ s) rest (inr h) k =
    let piece : is_piece sign b ≡ false = h.0 in
    ap (λ p. cond p (suc (number_length false (s ++ rest))) (cond (is_e b) (suc (number_length true (s ++ rest))) 0)) piece
    ∙ ap (λ p. cond p (suc (number_length true (s ++ rest))) 0) h.1
    ∙ ap suc (number_length-passes true s rest h.2 k)

passes_both : (sign : Bool) (s r : List ℕ) → Passes sign s → Passes false r → Passes sign (s ++ r)
passes_both false [] r h k = k
passes_both true [] r h k = cc
passes_both sign (b ∷ s) r (inl h) k = inl (h.0, passes_both false s r h.1 k)
passes_both sign (b ∷ s) r (inr h) k = inr (h.0, h.1, passes_both true s r h.2 k)

digit_piece : (sign : Bool) (b : ℕ) → IsAsciiDigit b → is_piece sign b ≡ true
digit_piece sign b h =
    let digit : is_ascii_digit b ≡ true = grind (arith, nat_tests) in
    rw digit refl

digits_pass : (s : List ℕ) → AllByRecursion IsAsciiDigit s → Passes false s
digits_pass [] h = refl
digits_pass (b ∷ s) h = inl (digit_piece false b h.0, digits_pass s h.1)

-- at least one digit, where a sign may come
some_digits_pass : (s : List ℕ) → AreDigits s → Passes true s
some_digits_pass [] h = absurd (omega (arith, h.0))
some_digits_pass (b ∷ s) h = inl (digit_piece true b h.1.0, digits_pass s h.1.1)

frac_pass : (s : List ℕ) → IsFrac s → Passes false s
frac_pass [] h = refl
frac_pass (b ∷ s) h = inl (rw h.0 refl, digits_pass s h.1.1)

e_is : (b : ℕ) → IsTrue (is_e b) → (is_piece false b ≡ false) × (is_e b ≡ true)
e_is b h = (grind (arith, nat_tests), h)

exp_digits : (sign digits : List ℕ) → IsSign sign → AreDigits digits → Passes true (sign ++ digits)
exp_digits sign digits (inl h) are = rw h (some_digits_pass digits are)
exp_digits sign digits (inr (inl h)) are = rw h (inl (refl, digits_pass digits are.1))
exp_digits sign digits (inr (inr h)) are = rw h (inl (refl, digits_pass digits are.1))

exp_pass : (s : List ℕ) → IsExp s → Passes false s
exp_pass [] h = refl
exp_pass (b ∷ s) h =
    let e = e_is b h.0 in
    inr (e.0, e.1, subst (Passes true) (sym h.1.2) (exp_digits h.1.0 h.1.1 h.1.3 h.1.4))

-- a number begins with a minus or a digit, and the others are of its run
pub record NumberFront (raw : List ℕ) : Type 0 where
  pub first : ℕ
  pub others : List ℕ
  pub split : raw ≡ first ∷ others
  pub first_is : (first ≡ minus_sign) ⊎ IsAsciiDigit first
  pub run : Passes false others

int_run : (d : ℕ) (ds : List ℕ) → IsInt (d ∷ ds) → IsAsciiDigit d × Passes false ds
int_run d [] h = (h, refl)
int_run d (e ∷ ds) h = (h.0, digits_pass (e ∷ ds) h.2)

front_of : (raw minus int more : List ℕ) → raw ≡ minus ++ (int ++ more) → (minus ≡ []) ⊎ (minus ≡ minus_sign ∷ []) → IsInt int → Passes false more → NumberFront raw
front_of raw minus [] more parts m i pass = absurd i
front_of raw minus (d ∷ ds) more parts (inl m) i pass =
    let int = int_run d ds i in
    record { first = d; others = ds ++ more; split = parts ∙ ap (λ s. s ++ (d ∷ ds ++ more)) m; first_is = inr int.0; run = passes_both false ds more int.1 pass }
front_of raw minus (d ∷ ds) more parts (inr m) i pass =
    let int = int_run d ds i in
    record {
      first = minus_sign;
      others = d ∷ ds ++ more;
      split = parts ∙ ap (λ s. s ++ (d ∷ ds ++ more)) m;
      first_is = inl refl;
      run = inl (digit_piece false d int.0, passes_both false ds more int.1 pass);
    }

pub number_front : (raw : List ℕ) → IsNumber raw → NumberFront raw
number_front raw h =
    front_of raw h.minus h.int (h.frac ++ h.exp) h.parts h.is_minus h.is_int (passes_both false h.frac h.exp (frac_pass h.frac h.is_frac) (exp_pass h.exp h.is_exp))

-- which scan such a byte leads to
pub number_scan : (b : ℕ) (rest : List ℕ) → (b ≡ minus_sign) ⊎ IsAsciiDigit b → scan_value (b ∷ rest) ≡ scan_number b rest
number_scan b rest (inl h) = rw h refl
number_scan b rest (inr h) =
    let digit : is_ascii_digit b ≡ true = grind (arith, nat_tests) in
    rw (
      eq_false b begin_object (λ e. omega (arith, e, h.0, h.1)),
      eq_false b begin_array (λ e. omega (arith, e, h.0, h.1)),
      eq_false b quotation_mark (λ e. omega (arith, e, h.0, h.1)),
      eq_false b letter_n (λ e. omega (arith, e, h.0, h.1)),
      eq_false b letter_t (λ e. omega (arith, e, h.0, h.1)),
      eq_false b letter_f (λ e. omega (arith, e, h.0, h.1)),
      eq_false b minus_sign (λ e. omega (arith, e, h.0, h.1)),
      digit,
    ) refl

-- a decimal text has a token
token_of_run : (raw : List ℕ) → is_decimal raw ≡ true → run_token raw ≡ Some (number_token raw)
token_of_run raw form = go (is_some (number_of raw)) refl
  where
    go : (held : Bool) → is_some (number_of raw) ≡ held → run_token raw ≡ Some (number_token raw)
    go true e = ap (λ h. cond (h || is_decimal raw) (Some (number_token raw)) None) e
    go false e = ap (λ h. cond (h || is_decimal raw) (Some (number_token raw)) None) e ∙ ap (λ f. cond f (Some (number_token raw)) None) form

pub number_scans : (raw rest : List ℕ) → IsNumber raw → is_decimal raw ≡ true → IsBoundary rest → scan_value (raw ++ rest) ≡ scanned (number_token raw) rest
number_scans raw rest is form boundary =
    let front = number_front raw is in
    let len : number_length false (front.others ++ rest) ≡ length front.others = number_length-passes false front.others rest front.run boundary in
    ap (λ s. scan_value (s ++ rest)) front.split
    ∙ number_scan front.first (front.others ++ rest) front.first_is
    ∙ ap (λ n. at_run (front.first ∷ (front.others ++ rest)) (drop n (front.others ++ rest)) (run_token (front.first ∷ take n (front.others ++ rest)))) len
    ∙ ap (λ s. at_run (front.first ∷ (front.others ++ rest)) (drop (length front.others) (front.others ++ rest)) (run_token (front.first ∷ s))) (take_at front.others rest _ refl)
    ∙ ap (λ s. at_run (front.first ∷ (front.others ++ rest)) s (run_token (front.first ∷ front.others))) (drop_at front.others rest _ refl)
    ∙ ap (λ s. at_run (front.first ∷ (front.others ++ rest)) rest (run_token s)) (sym front.split)
    ∙ ap (at_run (front.first ∷ (front.others ++ rest)) rest) (token_of_run raw form)
    ∙ at_boundary-boundary (number_token raw) rest boundary

-- ---- strings

low : (b : ℕ) → IsUnescaped b → nat_lt b space ≡ false
low b h = grind (arith, nat_tests)

text_length-all : (s rest : List ℕ) → AreChars s → text_length (s ++ quotation_mark ∷ rest) ≡ length s
text_length-all [] rest h = refl
text_length-all (b ∷ []) rest h = rw (eq_false b quotation_mark h.1, eq_false b escape h.2, low b h) refl
text_length-all (b ∷ c ∷ s) rest (inl h) =
    rw (eq_false b quotation_mark h.0.1, eq_false b escape h.0.2, low b h.0) (ap suc (text_length-all (c ∷ s) rest h.1))
text_length-all (b ∷ c ∷ s) rest (inr h) = rw h.0 (ap (λ n. suc (suc n)) (text_length-all s rest h.2))

pub string_scans : (t : List ℕ → JsonToken) (here raw rest : List ℕ) → IsStringText raw → scan_string t here (raw ++ quotation_mark ∷ rest) ≡ scanned (t raw) rest
string_scans t here raw rest is =
    let len = text_length-all raw rest is.1 in
    let all = raw ++ quotation_mark ∷ rest in
    ap (λ n. at_mark t here (take n all) (drop n all)) len
    ∙ ap (λ s. at_mark t here s (drop (length raw) all)) (take_at raw (quotation_mark ∷ rest) _ refl)
    ∙ ap (λ s. at_mark t here raw s) (drop_at raw (quotation_mark ∷ rest) _ refl)
    ∙ ap (λ u. cond u (scanned (t raw) rest) (failed InvalidUtf8 here)) (is_utf8-from_IsUtf8 raw is.0)

-- ---- literals

long_enough : (n : ℕ) (s : List ℕ) → n ≤ length s → nat_lt (length s) n ≡ false
long_enough n s h = grind (arith, nat_tests)

module _ (rest : List ℕ) (boundary : IsBoundary rest) where
  -- a literal that comes
  comes : (n : ℕ) (s : List ℕ) (t : JsonToken) → n ≤ length s → cond (nat_lt (length s) n) cut (at_boundary t rest) ≡ scanned t rest
  comes n s t h = ap (λ c. cond c cut (at_boundary t rest)) (long_enough n s h) ∙ at_boundary-boundary t rest boundary

  pub null_scans : scan_value (codes "null" ++ rest) ≡ scanned value_null rest
  null_scans = comes 4 (codes "null" ++ rest) value_null (omega arith)

  pub true_scans : scan_value (codes "true" ++ rest) ≡ scanned (value_bool true) rest
  true_scans = comes 4 (codes "true" ++ rest) (value_bool true) (omega arith)

  pub false_scans : scan_value (codes "false" ++ rest) ≡ scanned (value_bool false) rest
  false_scans = comes 5 (codes "false" ++ rest) (value_bool false) (omega arith)
