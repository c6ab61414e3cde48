-- The bytes of numbers, strings and white space, and where each of them ends.
use Rattle.std.specs.Prelude.{◌≡◌, ◌≢◌, ℕ, ◌==◌, ◌||◌, ◌&&◌, List, [], ◌∷◌, ◌++◌, Bool, true, false, IsTrue, codes, ◌⊎◌, if◌then◌else◌, nat_le, refl}
use Rattle.std.specs.List.{AllByRecursion}
use Rattle.std.specs.Char.{IsAsciiDigit}
use Rattle.std.proofs.Common.{ap, arith, inl, inr}
use Rattle.std.proofs.lemmas.Bool.Decides.{nat_tests}
use Rattle.smithy_json_grammar.specs.Ascii.{quotation_mark, escape, begin_array, end_array, begin_object, end_object, minus_sign, plus_sign, decimal_point, is_ws, is_e}
use Rattle.smithy_json_grammar.specs.Tree.{Json, null, boolean, number, string, array, object, no_elements, element, Elements, no_members, member, Members}
use Rattle.smithy_json_grammar.specs.Grammar.{IsWs, IsInt, IsFrac, IsSign, IsExp, IsNumber, AreChars, IsBoundary, IsValue, AreMoreElements, AreMoreMembers}
use Rattle.smithy_json_values.specs.Standing.{without_ws}

-- ---- classes of bytes, and runs of them

-- a byte that a number's text may have
abbrev pub is_numeric : ℕ → Bool
is_numeric b =
    (nat_le 0x30 b && nat_le b 0x39) || ((b == minus_sign) || (b == plus_sign) || (b == decimal_point) || is_e b)

-- a byte with which a value begins
abbrev pub begins_value : ℕ → Bool
begins_value b =
    is_numeric b
    || ((b == 0x6e) || (b == 0x74) || (b == 0x66) || (b == quotation_mark) || (b == begin_array) || (b == begin_object))

-- the first bytes that pass a test; and, as `behind`, the bytes after them
abbrev pub run : (ℕ → Bool) → List ℕ → List ℕ
run test [] = []
run test (b ∷ s) = if test b then b ∷ run test s else []

abbrev pub behind : (ℕ → Bool) → List ℕ → List ℕ
behind test [] = []
behind test (b ∷ s) = if test b then behind test s else b ∷ s

-- the bytes up to a quotation mark that is not escaped; and, as `behind_text`, the bytes from that mark on
abbrev pub run_text : List ℕ → List ℕ
run_text [] = []
run_text (b ∷ []) = if b == quotation_mark then [] else b ∷ []
run_text (b ∷ c ∷ s) =
    if b == quotation_mark then [] else (if b == escape then b ∷ c ∷ run_text s else b ∷ run_text (c ∷ s))

abbrev pub behind_text : List ℕ → List ℕ
behind_text [] = []
behind_text (b ∷ []) = if b == quotation_mark then b ∷ [] else []
behind_text (b ∷ c ∷ s) =
    if b == quotation_mark then b ∷ c ∷ s else (if b == escape then behind_text s else behind_text (c ∷ s))

-- the first byte, and 0 where there is none
abbrev pub first : List ℕ → ℕ
first [] = 0
first (b ∷ s) = b

abbrev pub Stops : (ℕ → Bool) → List ℕ → Type 0
Stops test [] = Unit {0}
Stops test (b ∷ s) = test b ≡ false

abbrev pub Pass : (ℕ → Bool) → List ℕ → Type 0
Pass test = AllByRecursion (λ b. test b ≡ true)

-- a run ends where the next byte fails the test
pub run_all : (test : ℕ → Bool) (s r : List ℕ) → Pass test s → Stops test r → run test (s ++ r) ≡ s
run_all test [] [] h k = refl
run_all test [] (b ∷ r) h k = rw k refl
run_all test (b ∷ s) r h k = rw (h.0, run_all test s r h.1 k) refl

-- behind a run of bytes that pass a test stands the rest
pub behind_all : (test : ℕ → Bool) (s r : List ℕ) → Pass test s → Stops test r → behind test (s ++ r) ≡ r
behind_all test [] [] h k = refl
behind_all test [] (b ∷ r) h k = rw k refl
behind_all test (b ∷ s) r h k = rw (h.0, behind_all test s r h.1 k) refl

pass_both : (test : ℕ → Bool) (s r : List ℕ) → Pass test s → Pass test r → Pass test (s ++ r)
pass_both test [] r h k = k
pass_both test (b ∷ s) r h k = (h.0, pass_both test s r h.1 k)

-- ---- white space

true_is : (b : Bool) → IsTrue b → b ≡ true
true_is true h = refl
true_is false h = cc

-- the white space at the front ends where other bytes begin
pub past_ws : (s r : List ℕ) → IsWs s → Stops is_ws r → without_ws (s ++ r) ≡ r
past_ws [] [] h k = refl
past_ws [] (b ∷ r) h k = rw k refl
past_ws (b ∷ s) r h k = rw (true_is (is_ws b) h.0) (past_ws s r h.1 k)

-- white space before a boundary is one itself
pub ws_boundary : (s r : List ℕ) → IsWs s → IsBoundary r → IsBoundary (s ++ r)
ws_boundary [] r h k = k
ws_boundary (b ∷ s) r h k = inl h.0

-- white space up to the end of the input is a boundary
pub ws_is_boundary : (s : List ℕ) → IsWs s → IsBoundary s
ws_is_boundary [] h = tt
ws_is_boundary (b ∷ s) h = inl h.0

-- ---- strings

-- the test for equal bytes fails for two bytes that differ
pub eq_false : (b c : ℕ) → b ≢ c → (b == c) ≡ false
eq_false b c h = grind (arith, nat_tests)

stop_text : (r : List ℕ) → (run_text (quotation_mark ∷ r) ≡ []) × (behind_text (quotation_mark ∷ r) ≡ quotation_mark ∷ r)
stop_text [] = (refl, refl)
stop_text (c ∷ r) = (refl, refl)

-- a string's text ends at its quotation mark
pub text_all : (s r : List ℕ) → AreChars s
    → (run_text (s ++ quotation_mark ∷ r) ≡ s) × (behind_text (s ++ quotation_mark ∷ r) ≡ quotation_mark ∷ r)
text_all [] r h = stop_text r
text_all (b ∷ []) r h =
    let n = stop_text r in
    (rw (eq_false b quotation_mark h.1, eq_false b escape h.2, n.0) refl, rw (eq_false b quotation_mark h.1, eq_false b escape h.2, n.1) refl)
text_all (b ∷ c ∷ s) r (inl h) =
    let n = text_all (c ∷ s) r h.1 in (
      rw (eq_false b quotation_mark h.0.1, eq_false b escape h.0.2) (ap (λ t. b ∷ t) n.0),
      rw (eq_false b quotation_mark h.0.1, eq_false b escape h.0.2) n.1,
    )
text_all (b ∷ c ∷ s) r (inr h) =
    let n = text_all s r h.2 in
    (rw h.0 (ap (λ t. escape ∷ c ∷ t) n.0), rw h.0 n.1)

-- ---- numbers

digit_is : (b : ℕ) → IsAsciiDigit b → is_numeric b ≡ true
digit_is b h = grind (arith, nat_tests)

digits_pass : (s : List ℕ) → AllByRecursion IsAsciiDigit s → Pass is_numeric s
digits_pass [] h = tt
digits_pass (b ∷ s) h = (digit_is b h.0, digits_pass s h.1)

int_pass : (s : List ℕ) → IsInt s → Pass is_numeric s
int_pass [] h = tt
int_pass (b ∷ []) h = (digit_is b h, tt)
int_pass (b ∷ c ∷ s) h = (digit_is b h.0, digits_pass (c ∷ s) h.2)

frac_pass : (s : List ℕ) → IsFrac s → Pass is_numeric s
frac_pass [] h = tt
frac_pass (b ∷ s) h = (rw h.0 refl, digits_pass s h.1.1)

sign_pass : (s : List ℕ) → IsSign s → Pass is_numeric s
sign_pass s (inl h) = rw h tt
sign_pass s (inr (inl h)) = rw h (refl, tt)
sign_pass s (inr (inr h)) = rw h (refl, tt)

e_is : (b : ℕ) → IsTrue (is_e b) → is_numeric b ≡ true
e_is b h = grind (arith, nat_tests)

exp_pass : (s : List ℕ) → IsExp s → Pass is_numeric s
exp_pass [] h = tt
exp_pass (b ∷ s) h =
    (e_is b h.0, rw h.1.2 (pass_both is_numeric h.1.0 h.1.1 (sign_pass h.1.0 h.1.3) (digits_pass h.1.1 h.1.4.1)))

minus_pass : (s : List ℕ) → (s ≡ []) ⊎ (s ≡ minus_sign ∷ []) → Pass is_numeric s
minus_pass s (inl h) = rw h tt
minus_pass s (inr h) = rw h (refl, tt)

-- a number has no other bytes
pub number_pass : (raw : List ℕ) → IsNumber raw → Pass is_numeric raw
number_pass raw h = rw h.parts (pass_both is_numeric h.minus (h.int ++ (h.frac ++ h.exp)) (minus_pass h.minus h.is_minus)
    (pass_both is_numeric h.int (h.frac ++ h.exp) (int_pass h.int h.is_int)
    (pass_both is_numeric h.frac h.exp (frac_pass h.frac h.is_frac) (exp_pass h.exp h.is_exp))))

-- the bytes of a number stop at a boundary
pub boundary_stops : (s : List ℕ) → IsBoundary s → Stops is_numeric s
boundary_stops [] h = tt
boundary_stops (b ∷ s) (inl h) = grind (arith, nat_tests)
boundary_stops (b ∷ s) (inr (inl h)) = rw h refl
boundary_stops (b ∷ s) (inr (inr (inl h))) = rw h refl
boundary_stops (b ∷ s) (inr (inr (inr h))) = rw h refl

no_number : (a b c : List ℕ) → [] ≡ a ++ (b ++ c) → IsInt b → ⊥
no_number [] [] c h k = absurd k
no_number [] (x ∷ b) c h k = cc
no_number (x ∷ a) b c h k = cc

-- no number is empty
pub number_fills : IsNumber [] → ⊥
number_fills h = no_number h.minus h.int (h.frac ++ h.exp) h.parts h.is_int

-- ---- how values begin

-- a text that begins as a value does
pub record Begins (s : List ℕ) : Type 0 where
  pub byte : ℕ
  pub more : List ℕ
  pub is : s ≡ byte ∷ more
  pub begins : begins_value byte ≡ true

numeric_begins : (b : ℕ) → is_numeric b ≡ true → begins_value b ≡ true
numeric_begins b h = rw h refl

number_begins : (raw : List ℕ) → IsNumber raw → Begins raw
number_begins [] h = absurd (number_fills h)
number_begins (b ∷ s) h = record { byte = b; more = s; is = refl; begins = numeric_begins b (number_pass (b ∷ s) h).0 }

-- each value begins so
pub value_begins : (x : Json) (s : List ℕ) → IsValue x s → Begins s
value_begins null s h = record { byte = 0x6e; more = codes "ull"; is = h; begins = refl }
value_begins (boolean true) s h = record { byte = 0x74; more = codes "rue"; is = h; begins = refl }
value_begins (boolean false) s h = record { byte = 0x66; more = codes "alse"; is = h; begins = refl }
value_begins (number raw) s h = rw h.0 (number_begins raw h.1)
value_begins (string raw) s h = record { byte = quotation_mark; more = raw ++ quotation_mark ∷ []; is = h.0; begins = refl }
value_begins (array no_elements) s h = record { byte = begin_array; more = h.0 ++ end_array ∷ []; is = h.1; begins = refl }
value_begins (array (element x es)) s h = record { byte = begin_array; more = h.0 ++ end_array ∷ []; is = h.1; begins = refl }
value_begins (object no_members) s h = record { byte = begin_object; more = h.0 ++ end_object ∷ []; is = h.1; begins = refl }
value_begins (object (member name x ms)) s h =
    record { byte = begin_object; more = h.0 ++ end_object ∷ []; is = h.1; begins = refl }

-- a byte with which a value begins is no white space
pub begins_plain : (b : ℕ) → begins_value b ≡ true → is_ws b ≡ false
begins_plain b h = grind (arith, nat_tests)

-- white space stops where a value begins
pub begins_stops : (s r : List ℕ) → Begins s → Stops is_ws (s ++ r)
begins_stops s r h = rw h.is (begins_plain h.byte h.begins)

-- the first byte of a value's text begins a value
pub begins_first : (s r : List ℕ) → Begins s → begins_value (first (s ++ r)) ≡ true
begins_first s r h = rw h.is h.begins

-- behind an element a value may end
pub elements_boundary : (es : Elements) (more r : List ℕ) → AreMoreElements es more → IsBoundary (more ++ end_array ∷ r)
elements_boundary no_elements more r h = rw h (inr (inr (inl refl)))
elements_boundary (element x es) [] r h = absurd h
elements_boundary (element x es) (c ∷ more) r h = inr (inl h.0)

-- behind a member a value may end
pub members_boundary : (ms : Members) (more r : List ℕ) → AreMoreMembers ms more → IsBoundary (more ++ end_object ∷ r)
members_boundary no_members more r h = rw h (inr (inr (inr refl)))
members_boundary (member name x ms) [] r h = absurd h
members_boundary (member name x ms) (c ∷ more) r h = inr (inl h.0)
