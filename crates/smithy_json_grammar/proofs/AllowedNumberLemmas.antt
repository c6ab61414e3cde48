-- A text passes the test of a grammar of numbers exactly where it is a number of the grammar, and so it is where one stands.
use Rattle.std.proofs.Common.{◌≡◌, ◌⊎◌, ◌<◌, ◌≤◌, ℕ, List, [], ◌∷◌, ◌++◌, length, drop, Bool, true, false, not, ◌&&◌, ◌==◌, Option, Some, None, option_and_then, slice_range, refl, sym, ap, subst, ◌∙◌, arith, inl, inr}
use Rattle.std.specs.Prelude.{◌↔◌}
use Rattle.std.specs.Option.{option_map_or}
use Rattle.std.specs.Char.{is_ascii_digit, IsAsciiDigit}
use Rattle.std.proofs.lemmas.Bool.Decides.{nat_tests}
use Rattle.std.proofs.lemmas.List.{append-nil, append_assoc, drop_at, drop-drop}
use Rattle.smithy_json_grammar.specs.Ascii.{minus_sign, decimal_point}
use Rattle.smithy_json_grammar.specs.Grammar.{AreDigits, IsInt, IsFrac, IsBoundary}
use Rattle.smithy_json_grammar.specs.NumberGrammar.{IsIntOf, IsFracOf, IsNumberOf}
use Rattle.smithy_json_grammar.specs.NumberText.{is_number_of}
use Rattle.smithy_json_grammar.specs.Standing.{StandsAt}
use Rattle.smithy_json_grammar.specs.Private.Numeral.{first_byte, digit_count, after_digits, after_minus, after_exp}
use Rattle.smithy_json_grammar.specs.Private.AllowedNumeral.{omits_int, after_int_of, after_whole_of, after_decimals_of, after_frac_of, after_frac_and_exp_of, after_number_of}
use Rattle.smithy_json_grammar.specs.declared.number_grammar.NumberGrammar.{NumberGrammar}
use Rattle.smithy_json_grammar.proofs.SliceLemmas.{drop-slice, slice_between}
use Rattle.smithy_json_grammar.proofs.NumberLemmas.{Begins, IsMinus, first_is, begins_minus, begins_digits, begins_int, begins_exp}
use Rattle.smithy_json_grammar.proofs.NumberRestLemmas.{NoDigit, digit_test, digit_alone, digit_count-digits, after_digits-digits, after_minus-minus, after_int-int, after_exp-exp, boundary_ends, before_exp}
use Rattle.smithy_json_grammar.proofs.NumberTextLemmas.{both_steps, nothing_left}
use Rattle.smithy_json_grammar.proofs.WholeLemmas.{int_digits}

both : (a b : Bool) → (a && b) ≡ true → (a ≡ true) × (b ≡ true)
both true b h = (refl, h)
both false b h = cc

and_false : (a : Bool) → (a && false) ≡ false
and_false true = refl
and_false false = refl

-- ---- what was found is of the grammar

-- a digit comes first, so some do
some_digit : (s : List ℕ) → is_ascii_digit (first_byte s) ≡ true → (digit_count s == 0) ≡ false
some_digit [] h = cc
some_digit (d ∷ s) h = rw h (grind (arith, nat_tests))

module _ (g : NumberGrammar) where
  -- digits behind a point
  frac_digits : (s rest : List ℕ) → (first_byte s == decimal_point) ≡ true → (digit_count (drop 1 s) == 0) ≡ false → after_frac_of g s ≡ Some rest
      → (digits : List ℕ) × (s ≡ (decimal_point ∷ digits) ++ rest) × AreDigits digits
  frac_digits s rest point some e =
      let found : after_decimals_of g (drop 1 s) ≡ Some rest = rw point at e in
      let same : after_decimals_of g (drop 1 s) ≡ after_digits (drop 1 s) = rw (some, and_false (not g.allow_trailing_decimal_point)) refl in
      let digits = begins_digits (drop 1 s) rest (sym same ∙ found) in
      (digits.part, first_is s decimal_point (grind (arith, nat_tests)) (omega arith) ∙ ap (λ t. decimal_point ∷ t) digits.split, digits.is)

  begins_frac_of : (s rest : List ℕ) → after_frac_of g s ≡ Some rest → Begins (IsFracOf g) s rest
  begins_frac_of s rest e = go (first_byte s == decimal_point) refl (digit_count (drop 1 s) == 0) refl
    where
      alone : (flag : Bool) → g.allow_trailing_decimal_point ≡ flag → (first_byte s == decimal_point) ≡ true → (digit_count (drop 1 s) == 0) ≡ true → Begins (IsFracOf g) s rest
      alone true flag point none =
          let zero : digit_count (drop 1 s) ≡ 0 = grind (arith, nat_tests) in
          let found : ◌≡◌ {A = Option (List ℕ)} (Some (drop 1 s)) (Some rest) = rw (point, flag, zero) at e in
          let same : drop 1 s ≡ rest = cc in
          record { part = decimal_point ∷ []; split = first_is s decimal_point (grind (arith, nat_tests)) (omega arith) ∙ ap (λ t. decimal_point ∷ t) same; is = inr (flag, refl) }
      alone false flag point none =
          let no : ◌≡◌ {A = Option (List ℕ)} None (Some rest) = rw (point, flag, none) at e in cc

      go : (point : Bool) → (first_byte s == decimal_point) ≡ point → (none : Bool) → (digit_count (drop 1 s) == 0) ≡ none → Begins (IsFracOf g) s rest
      go false point none _ =
          let found : ◌≡◌ {A = Option (List ℕ)} (Some s) (Some rest) = rw point at e in
          record { part = []; split = cc; is = inl tt }
      go true point false some =
          let d = frac_digits s rest point some e in
          record { part = decimal_point ∷ d.0; split = d.1; is = inl (refl, d.2) }
      go true point true none = alone g.allow_trailing_decimal_point refl point none

  has_int : (minus int frac : List ℕ) → IsInt int ⊎ ((g.allow_leading_zeros ≡ true) × AreDigits int) → IsIntOf g minus int frac
  has_int minus int frac (inl is) = inl is
  has_int minus int frac (inr are) = inr (inl are)

  begins_int_of : (s rest : List ℕ) → after_int_of g s ≡ Some rest → Begins (λ int. IsInt int ⊎ ((g.allow_leading_zeros ≡ true) × AreDigits int)) s rest
  begins_int_of s rest e = go g.allow_leading_zeros refl
    where
      go : (flag : Bool) → g.allow_leading_zeros ≡ flag → Begins (λ int. IsInt int ⊎ ((g.allow_leading_zeros ≡ true) × AreDigits int)) s rest
      go true flag =
          let digits = begins_digits s rest (rw flag at e) in
          record { part = digits.part; split = digits.split; is = inr (flag, digits.is) }
      go false flag =
          let int = begins_int s rest (rw flag at e) in
          record { part = int.part; split = int.split; is = inl int.is }

  -- an int that isn't there, with the fraction that has to come
  module _ (s tail middle rest : List ℕ) (omits : omits_int g s ≡ true) (whole : after_whole_of g s ≡ Some tail) (frac : after_frac_of g tail ≡ Some middle) (exp : after_exp middle ≡ Some rest) where
    pub begins_omitted : Begins (IsNumberOf g) s rest
    begins_omitted =
        let behind = both (g.allow_empty_integer_part && first_byte s == minus_sign && first_byte (drop 1 s) == decimal_point) _ omits in
        let point = both (g.allow_empty_integer_part && first_byte s == minus_sign) _ behind.0 in
        let flag = both g.allow_empty_integer_part (first_byte s == minus_sign) point.0 in
        let found : ◌≡◌ {A = Option (List ℕ)} (Some (drop 1 s)) (Some tail) = rw omits at whole in
        let same : drop 1 s ≡ tail = cc in
        let minus = flag.1 in
        let digit : is_ascii_digit (first_byte (drop 1 tail)) ≡ true = subst (λ t. is_ascii_digit (first_byte (drop 1 t)) ≡ true) same (ap (λ t. is_ascii_digit (first_byte t)) (drop-drop 1 1 s) ∙ behind.1) in
        let d = frac_digits tail middle (subst (λ t. (first_byte t == decimal_point) ≡ true) same point.1) (some_digit (drop 1 tail) digit) frac in
        let e = begins_exp middle rest exp in
        record {
          part = minus_sign ∷ (decimal_point ∷ d.0) ++ e.part;
          split = first_is s minus_sign (grind (arith, nat_tests)) (omega arith) ∙ ap (λ t. minus_sign ∷ t) (same ∙ d.1 ∙ ap (λ t. (decimal_point ∷ d.0) ++ t) e.split ∙ sym (append_assoc (decimal_point ∷ d.0) e.part rest));
          is = record {
            minus = minus_sign ∷ [];
            int = [];
            frac = decimal_point ∷ d.0;
            exp = e.part;
            parts = refl;
            is_minus = inr refl;
            is_int = inr (inr (flag.0, refl, refl, (refl, d.2), omega arith));
            is_frac = inl (refl, d.2);
            is_exp = e.is;
          };
        }

  -- what the computed rest says of the bytes before it
  pub begins_number : (s rest : List ℕ) → after_number_of g s ≡ Some rest → Begins (IsNumberOf g) s rest
  begins_number s rest e =
      let whole = both_steps (after_frac_and_exp_of g) (after_whole_of g s) rest e in
      let more = both_steps after_exp (after_frac_of g whole.0) rest whole.2 in
      go whole.0 more.0 whole.1 more.1 more.2 (omits_int g s) refl
    where
      go : (tail middle : List ℕ) → after_whole_of g s ≡ Some tail → after_frac_of g tail ≡ Some middle → after_exp middle ≡ Some rest → (omits : Bool) → omits_int g s ≡ omits → Begins (IsNumberOf g) s rest
      go tail middle whole frac exp true omits = begins_omitted s tail middle rest omits whole frac exp
      go tail middle whole frac exp false omits =
          let minus = begins_minus s in
          let int = begins_int_of (after_minus s) tail (rw omits at whole) in
          let f = begins_frac_of tail middle frac in
          let e = begins_exp middle rest exp in
          record {
            part = minus.part ++ (int.part ++ (f.part ++ e.part));
            split = minus.split ∙ ap (λ t. minus.part ++ t) (int.split ∙ ap (λ t. int.part ++ t) (f.split ∙ ap (λ t. f.part ++ t) e.split)) ∙ sym (simp append_assoc);
            is = record {
              minus = minus.part;
              int = int.part;
              frac = f.part;
              exp = e.part;
              parts = refl;
              is_minus = minus.is;
              is_int = has_int minus.part int.part f.part int.is;
              is_frac = f.is;
              is_exp = e.is;
            };
          }

-- ---- after each part the computed rest is the rest

-- digits come first, so no minus and no point does
no_sign_first : (int rest : List ℕ) → AreDigits int → ((first_byte (int ++ rest) == minus_sign) ≡ false) × ((first_byte (int ++ rest) == decimal_point) ≡ false)
no_sign_first [] rest are = absurd (omega (arith, are.0))
no_sign_first (d ∷ int) rest are = ((digit_alone d are.1.0).0, not_point d are.1.0)
  where
    not_point : (b : ℕ) → IsAsciiDigit b → (b == decimal_point) ≡ false
    not_point b h = grind (arith, nat_tests)

minus_before_digits : (minus int rest : List ℕ) → IsMinus minus → AreDigits int → after_minus (minus ++ (int ++ rest)) ≡ int ++ rest
minus_before_digits minus int rest (inl none) are = rw (none, (no_sign_first int rest are).0) refl
minus_before_digits minus int rest (inr one) are = rw one refl

no_count : (s : List ℕ) → NoDigit s → digit_count s ≡ 0
no_count [] none = refl
no_count (b ∷ s) none = rw none refl

int_some : (int : List ℕ) → IsInt int → AreDigits int
int_some [] is = absurd is
int_some (d ∷ int) is = (omega arith, int_digits (d ∷ int) is)

before_frac_of : (g : NumberGrammar) (frac rest : List ℕ) → IsFracOf g frac → NoDigit rest → NoDigit (frac ++ rest)
before_frac_of g [] rest is none = none
before_frac_of g (point ∷ frac) rest (inl is) none = rw is.0 refl
before_frac_of g (point ∷ frac) rest (inr is) none = let same : point ≡ decimal_point = cc in rw same refl

module _ (g : NumberGrammar) where
  digits_int : (int rest : List ℕ) → g.allow_leading_zeros ≡ true → AreDigits int → NoDigit rest → after_int_of g (int ++ rest) ≡ Some rest
  digits_int int rest flag are none = rw flag (after_digits-digits int rest are none)

  after_int : (int rest : List ℕ) → IsInt int → NoDigit rest → after_int_of g (int ++ rest) ≡ Some rest
  after_int int rest is none = go g.allow_leading_zeros refl
    where
      go : (flag : Bool) → g.allow_leading_zeros ≡ flag → after_int_of g (int ++ rest) ≡ Some rest
      go true flag = digits_int int rest flag (int_some int is) none
      go false flag = rw flag (after_int-int int rest is none)

  -- an int that is there isn't left out
  int_there : (minus int rest : List ℕ) → IsMinus minus → AreDigits int → omits_int g (minus ++ (int ++ rest)) ≡ false
  int_there minus int rest (inl none) are =
      rw (none, (no_sign_first int rest are).0, and_false g.allow_empty_integer_part) refl
  int_there minus int rest (inr one) are =
      rw (one, (no_sign_first int rest are).1, and_false (g.allow_empty_integer_part && true)) refl

  -- and one that isn't is
  omitted : (frac rest : List ℕ) → g.allow_empty_integer_part ≡ true → IsFrac frac → 0 < length frac → after_whole_of g (minus_sign ∷ (frac ++ rest)) ≡ Some (frac ++ rest)
  omitted [] rest flag is some = absurd (omega (arith, some))
  omitted (point ∷ []) rest flag is some = absurd (omega (arith, is.1.0))
  omitted (point ∷ d ∷ digits) rest flag is some = rw (flag, is.0, digit_test d is.1.1.0) refl

  after_whole : (minus int frac rest : List ℕ) → IsMinus minus → IsIntOf g minus int frac → NoDigit (frac ++ rest) → after_whole_of g (minus ++ (int ++ (frac ++ rest))) ≡ Some (frac ++ rest)
  after_whole minus int frac rest m (inl is) none =
      rw (int_there minus int (frac ++ rest) m (int_some int is), after_minus-minus minus int (frac ++ rest) m is) (after_int int (frac ++ rest) is none)
  after_whole minus int frac rest m (inr (inl are)) none =
      rw (int_there minus int (frac ++ rest) m are.1, minus_before_digits minus int (frac ++ rest) m are.1) (digits_int int (frac ++ rest) are.0 are.1 none)
  after_whole minus int frac rest m (inr (inr is)) none = rw (is.1, is.2) (omitted frac rest is.0 is.3 is.4)

  after_frac : (frac rest : List ℕ) → IsFracOf g frac → NoDigit rest → (first_byte rest == decimal_point) ≡ false → after_frac_of g (frac ++ rest) ≡ Some rest
  after_frac [] rest is none other = rw other refl
  after_frac (point ∷ digits) rest (inl is) none other =
      let count : (length digits == 0) ≡ false = let positive = is.1.0 in grind (arith, nat_tests) in
      rw (is.0, digit_count-digits digits rest is.1.1 none, count, and_false (not g.allow_trailing_decimal_point)) (ap Some (drop_at digits rest _ refl))
  after_frac (point ∷ digits) rest (inr is) none other =
      let first : point ≡ decimal_point = cc in
      let alone : digits ≡ [] = cc in
      rw (first, alone, is.0, no_count rest none) refl

  -- after a number of the grammar, before what may follow one
  pub after_number : (raw rest : List ℕ) → IsNumberOf g raw → IsBoundary rest → after_number_of g (raw ++ rest) ≡ Some rest
  after_number raw rest n ends =
      let exp = before_exp n.exp rest n.is_exp ends in
      let end = boundary_ends rest ends in
      let none = before_frac_of g n.frac (n.exp ++ rest) n.is_frac exp.0 in
      let whole : raw ++ rest ≡ n.minus ++ (n.int ++ (n.frac ++ (n.exp ++ rest))) = ap (λ t. t ++ rest) n.parts ∙ simp append_assoc in
      ap (after_number_of g) whole
      ∙ ap (option_and_then (after_frac_and_exp_of g)) (after_whole n.minus n.int n.frac (n.exp ++ rest) n.is_minus n.is_int none)
      ∙ ap (option_and_then after_exp) (after_frac n.frac (n.exp ++ rest) n.is_frac exp.0 exp.1)
      ∙ after_exp-exp n.exp rest n.is_exp end.0 end.2

passes_number : (g : NumberGrammar) (text : List ℕ) → is_number_of g text ≡ true → IsNumberOf g text
passes_number g text h =
    let found = begins_number g text [] (nothing_left (after_number_of g text) h) in
    subst (IsNumberOf g) (sym (found.split ∙ append-nil found.part)) found.is

number_passes : (g : NumberGrammar) (text : List ℕ) → IsNumberOf g text → is_number_of g text ≡ true
number_passes g text n =
    let behind : after_number_of g text ≡ Some [] = ap (after_number_of g) (sym (append-nil text)) ∙ after_number g text [] n tt in
    ap (λ r. option_map_or (λ rest. length rest == 0) r false) behind

pub tells_numbers_of : (g : NumberGrammar) (text : List ℕ) → (is_number_of g text ≡ true) ↔ IsNumberOf g text
tells_numbers_of g text = (passes_number g text, number_passes g text)

-- ---- where a number stands

module _ (g : NumberGrammar) (input : List ℕ) (at : ℕ) where
  pub number_rest : (end : ℕ) → StandsAt (IsNumberOf g) input at end → after_number_of g (drop at input) ≡ Some (drop end input)
  number_rest end stands =
      ap (after_number_of g) (drop-slice input at end stands.ordered) ∙ after_number g (slice_range input at end) (drop end input) stands.text stands.boundary

  pub number_stands : (end : ℕ) → at ≤ end → end ≤ length input → after_number_of g (drop at input) ≡ Some (drop end input) → IsBoundary (drop end input) → StandsAt (IsNumberOf g) input at end
  number_stands end ordered within behind boundary =
      let found = begins_number g (drop at input) (drop end input) behind in
      record {
        ordered = ordered;
        within = within;
        text = subst (IsNumberOf g) (sym (slice_between input at end found.part ordered within found.split)) found.is;
        boundary = boundary;
      }
