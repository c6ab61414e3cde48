-- The grammar of numbers (RFC 8259, section 6) with what a reader may allow beyond it.
use Rattle.std.specs.Prelude.{◌≡◌, ◌⊎◌, ◌<◌, List, ℕ, [], ◌∷◌, ◌++◌, length, true, false}
use Rattle.smithy_json_grammar.specs.Ascii.{minus_sign, decimal_point}
use Rattle.smithy_json_grammar.specs.Grammar.{AreDigits, IsInt, IsFrac, IsExp}
use Rattle.smithy_json_grammar.specs.declared.number_grammar.NumberGrammar.{NumberGrammar}

-- that of the standard
abbrev pub standard_numbers : NumberGrammar
standard_numbers =
    record { allow_leading_zeros = false; allow_trailing_decimal_point = false; allow_empty_integer_part = false }

-- int; or digits, of which some zeros may come first; or nothing between a minus and a fraction with digits
abbrev pub IsIntOf : NumberGrammar → List ℕ → List ℕ → List ℕ → Type 0
IsIntOf g minus int frac =
    IsInt int
    ⊎ ((g.allow_leading_zeros ≡ true) × AreDigits int)
    ⊎ ((g.allow_empty_integer_part ≡ true) × (minus ≡ minus_sign ∷ []) × (int ≡ []) × IsFrac frac
    × (0 < length frac))

-- [ frac ], or a decimal point alone
abbrev pub IsFracOf : NumberGrammar → List ℕ → Type 0
IsFracOf g frac = IsFrac frac ⊎ ((g.allow_trailing_decimal_point ≡ true) × (frac ≡ decimal_point ∷ []))

-- number = [ minus ] int [ frac ] [ exp ], with what the grammar allows
pub record IsNumberOf (g : NumberGrammar) (raw : List ℕ) : Type 0 where
  pub minus : List ℕ
  pub int : List ℕ
  pub frac : List ℕ
  pub exp : List ℕ
  pub parts : raw ≡ minus ++ (int ++ (frac ++ exp))
  pub is_minus : (minus ≡ []) ⊎ (minus ≡ minus_sign ∷ [])
  pub is_int : IsIntOf g minus int frac
  pub is_frac : IsFracOf g frac
  pub is_exp : IsExp exp
