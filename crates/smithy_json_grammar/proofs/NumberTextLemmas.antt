-- A text passes the test exactly where it is a number.
use Rattle.std.proofs.Common.{◌≡◌, ℕ, List, [], ◌∷◌, ◌++◌, length, true, false, ◌==◌, Option, Some, None, refl, sym, ap, ◌∙◌, arith}
use Rattle.std.specs.Prelude.{◌↔◌, option_and_then}
use Rattle.std.specs.Option.{option_map_or}
use Rattle.std.proofs.lemmas.Bool.Decides.{nat_tests}
use Rattle.std.proofs.lemmas.List.{append-nil}
use Rattle.smithy_json_grammar.specs.Grammar.{IsNumber}
use Rattle.smithy_json_grammar.specs.NumberText.{is_number}
use Rattle.smithy_json_grammar.specs.Private.Numeral.{after_minus, after_frac, after_exp, after_whole, after_frac_and_exp}
use Rattle.smithy_json_grammar.proofs.NumberLemmas.{begins_minus, begins_int, begins_frac, begins_exp}
use Rattle.smithy_json_grammar.proofs.NumberRestLemmas.{after_whole-number, after_frac_and_exp-number}

-- a number passes
number_passes : (text : List ℕ) → IsNumber text → is_number text ≡ true
number_passes text n =
    let none = append-nil n.exp in
    let whole = n.minus ++ (n.int ++ (n.frac ++ (n.exp ++ []))) in
    let same : text ≡ whole = n.parts ∙ ap (λ e. n.minus ++ (n.int ++ (n.frac ++ e))) (sym none) in
    let behind : option_and_then after_frac_and_exp (after_whole text) ≡ Some [] =
    ap (λ t. option_and_then after_frac_and_exp (after_whole t)) same
    ∙ ap (option_and_then after_frac_and_exp) (after_whole-number n.minus n.int n.frac n.exp [] n.is_minus n.is_int n.is_frac n.is_exp tt)
    ∙ after_frac_and_exp-number n.frac n.exp [] n.is_frac n.is_exp tt in
    ap (λ r. option_map_or (λ rest. length rest == 0) r false) behind

-- a step of two that gives something
pub both_steps : {A B : Type 0} (f : A → Option B) (o : Option A) (b : B) → option_and_then f o ≡ Some b → (a : A) × (o ≡ Some a) × (f a ≡ Some b)
both_steps f None b h = cc
both_steps f (Some a) b h = (a, refl, h)

empty_is : (rest : List ℕ) → (length rest == 0) ≡ true → rest ≡ []
empty_is [] h = refl
empty_is (b ∷ rest) h = absurd (grind (arith, nat_tests))

pub nothing_left : (o : Option (List ℕ)) → option_map_or (λ rest. length rest == 0) o false ≡ true → o ≡ Some []
nothing_left None h = cc
nothing_left (Some rest) h = ap Some (empty_is rest h)

-- and nothing else does
passes_number : (text : List ℕ) → is_number text ≡ true → IsNumber text
passes_number text h =
    let behind = nothing_left (option_and_then after_frac_and_exp (after_whole text)) h in
    let whole = both_steps after_frac_and_exp (after_whole text) [] behind in
    let more = both_steps after_exp (after_frac whole.0) [] whole.2 in
    let minus = begins_minus text in
    let int = begins_int (after_minus text) whole.0 whole.1 in
    let frac = begins_frac whole.0 more.0 more.1 in
    let exp = begins_exp more.0 [] more.2 in
    record {
      minus = minus.part;
      int = int.part;
      frac = frac.part;
      exp = exp.part;
      parts = minus.split ∙ ap (λ t. minus.part ++ t) (int.split ∙ ap (λ t. int.part ++ t) (frac.split ∙ ap (λ t. frac.part ++ t) (exp.split ∙ append-nil exp.part)));
      is_minus = minus.is;
      is_int = int.is;
      is_frac = frac.is;
      is_exp = exp.is;
    }

pub tells_numbers : (text : List ℕ) → (is_number text ≡ true) ↔ IsNumber text
tells_numbers text = (passes_number text, number_passes text)
