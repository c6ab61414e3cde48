-- A number of any grammar that stands in an input is the longest run of bytes of numbers there.
use Rattle.std.proofs.Common.{◌≡◌, ◌⊎◌, ◌+◌, ◌-◌, ◌<◌, ℕ, zero, suc, List, [], ◌∷◌, ◌++◌, length, drop, get_or, true, slice_range, refl, sym, ap, subst, ◌∙◌, arith, inl, inr}
use Rattle.std.proofs.lemmas.Bool.Decides.{nat_tests}
use Rattle.std.proofs.lemmas.List.{get_or-drop}
use Rattle.std.specs.Char.{IsAsciiDigit}
use Rattle.std.specs.List.{AllByRecursion}
use Rattle.smithy_json_grammar.specs.Ascii.{minus_sign, is_numeric, is_e}
use Rattle.smithy_json_grammar.specs.Grammar.{IsSign, IsExp}
use Rattle.smithy_json_grammar.specs.NumberGrammar.{IsIntOf, IsFracOf, IsNumberOf}
use Rattle.smithy_json_grammar.specs.Standing.{IsRunAt, StandsAt}
use Rattle.smithy_json_grammar.specs.declared.number_grammar.NumberGrammar.{NumberGrammar}
use Rattle.smithy_json_grammar.proofs.SliceLemmas.{drop-slice, length-slice}
use Rattle.smithy_json_grammar.proofs.WholeLemmas.{int_digits}
use Rattle.smithy_json_grammar.proofs.SignedLemmas.{boundary_stops}

-- each byte is one of numbers
abbrev pub AreNumeric : List ℕ → Type 0
AreNumeric text = AllByRecursion (λ b. is_numeric b ≡ true) text

both_numeric : (a b : List ℕ) → AreNumeric a → AreNumeric b → AreNumeric (a ++ b)
both_numeric [] b left right = right
both_numeric (x ∷ a) b left right = (left.0, both_numeric a b left.1 right)

digit_numeric : (b : ℕ) → IsAsciiDigit b → is_numeric b ≡ true
digit_numeric b h = grind (arith, nat_tests)

e_numeric : (b : ℕ) → is_e b ≡ true → is_numeric b ≡ true
e_numeric b h = grind (arith, nat_tests)

digits_numeric : (digits : List ℕ) → AllByRecursion IsAsciiDigit digits → AreNumeric digits
digits_numeric [] are = tt
digits_numeric (d ∷ digits) are = (digit_numeric d are.0, digits_numeric digits are.1)

minus_numeric : (minus : List ℕ) → (minus ≡ []) ⊎ (minus ≡ minus_sign ∷ []) → AreNumeric minus
minus_numeric minus (inl none) = rw none tt
minus_numeric minus (inr one) = rw one (refl, tt)

sign_numeric : (sign : List ℕ) → IsSign sign → AreNumeric sign
sign_numeric sign (inl none) = rw none tt
sign_numeric sign (inr (inl plus)) = rw plus (refl, tt)
sign_numeric sign (inr (inr minus)) = rw minus (refl, tt)

exp_numeric : (exp : List ℕ) → IsExp exp → AreNumeric exp
exp_numeric [] is = tt
exp_numeric (e ∷ rest) is = (e_numeric e is.0, rw is.1.2 (both_numeric is.1.0 is.1.1 (sign_numeric is.1.0 is.1.3) (digits_numeric is.1.1 is.1.4.1)))

frac_numeric : (g : NumberGrammar) (frac : List ℕ) → IsFracOf g frac → AreNumeric frac
frac_numeric g [] is = tt
frac_numeric g (point ∷ digits) (inl is) = rw is.0 (refl, digits_numeric digits is.1.1)
frac_numeric g (point ∷ digits) (inr is) = subst AreNumeric (sym is.1) (refl, tt)

int_numeric : (g : NumberGrammar) (minus int frac : List ℕ) → IsIntOf g minus int frac → AreNumeric int
int_numeric g minus int frac (inl is) = digits_numeric int (int_digits int is)
int_numeric g minus int frac (inr (inl are)) = digits_numeric int are.1.1
int_numeric g minus int frac (inr (inr is)) = rw is.2 tt

pub number_numeric : (g : NumberGrammar) (raw : List ℕ) → IsNumberOf g raw → AreNumeric raw
number_numeric g raw n =
    rw n.parts (both_numeric n.minus (n.int ++ (n.frac ++ n.exp)) (minus_numeric n.minus n.is_minus)
    (both_numeric n.int (n.frac ++ n.exp) (int_numeric g n.minus n.int n.frac n.is_int)
    (both_numeric n.frac n.exp (frac_numeric g n.frac n.is_frac) (exp_numeric n.exp n.is_exp))))

numeric_at : (text rest : List ℕ) (i : ℕ) → AreNumeric text → i < length text → is_numeric (get_or (text ++ rest) i 0) ≡ true
numeric_at [] rest i are short = absurd (omega (arith, short))
numeric_at (b ∷ text) rest zero are short = are.0
numeric_at (b ∷ text) rest (suc i) are short = numeric_at text rest i are.1 (omega (arith, short))

pub number_is_run : (g : NumberGrammar) (input : List ℕ) (at end : ℕ) → StandsAt (IsNumberOf g) input at end → IsRunAt is_numeric input at end
number_is_run g input at end stands =
    let are = number_numeric g (slice_range input at end) stands.text in
    let size = length-slice input at end stands.ordered stands.within in
    let last : end + 0 ≡ end = omega arith in record {
      ordered = stands.ordered;
      within = stands.within;
      pass = λ k from to.
          let there : at + (k - at) ≡ k = omega arith in
          let passes = numeric_at (slice_range input at end) (drop end input) (k - at) are (omega (arith, size, from, to)) in
          sym (ap is_numeric (get_or-drop at input (k - at) 0 ∙ ap (λ i. get_or input i 0) there)) ∙ ap (λ s. is_numeric (get_or s (k - at) 0)) (drop-slice input at end stands.ordered) ∙ passes;
      stops = λ short. sym (ap is_numeric (get_or-drop end input 0 0 ∙ ap (λ k. get_or input k 0) last)) ∙ boundary_stops (drop end input) stands.boundary;
    }
