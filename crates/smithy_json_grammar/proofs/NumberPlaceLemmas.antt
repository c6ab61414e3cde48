-- Where a number stands in an input.
use Rattle.std.proofs.Common.{◌≡◌, ◌≢◌, ◌+◌, ◌≤◌, ℕ, List, [], ◌∷◌, ◌++◌, length, drop, true, false, Option, Some, None, is_some, nat_eq, slice_range, refl, sym, ap, ◌∙◌, arith, cond}
use Rattle.std.proofs.lemmas.Bool.Decides.{nat_tests}
use Rattle.std.proofs.lemmas.List.{append_assoc, length-append, length-drop, drop-drop}
use Rattle.std.proofs.lemmas.Option.{IfSome_then}
use Rattle.smithy_json_grammar.specs.Ascii.{is_e}
use Rattle.smithy_json_grammar.specs.Grammar.{IsInt, IsFrac, IsExp, IsNumber}
use Rattle.smithy_json_grammar.specs.Number.{whole_number}
use Rattle.smithy_json_grammar.specs.Standing.{StandsAt}
use Rattle.smithy_json_grammar.specs.Private.Numeral.{EndsAt, first_byte, after_digits, after_sign, after_minus, after_frac, after_exp, after_whole, after_frac_and_exp}
use Rattle.smithy_json_grammar.proofs.SliceLemmas.{drop-slice, slice_between}
use Rattle.smithy_json_grammar.proofs.NumberLemmas.{IsMinus, begins_minus, begins_int, begins_frac, begins_exp}
use Rattle.smithy_json_grammar.proofs.NumberRestLemmas.{after_whole-number, after_frac_and_exp-number}
use Rattle.smithy_json_grammar.proofs.WholeLemmas.{whole_before, whole_number-parts, no_digits_more}

-- a number that stands there has its computed rests
pub number_rests : (input : List ℕ) (at end : ℕ) → StandsAt IsNumber input at end
    → (tail : List ℕ) × (after_whole (drop at input) ≡ Some tail) × (after_frac_and_exp tail ≡ Some (drop end input))
number_rests input at end stands =
    let n = stands.text in
    let rest = drop end input in
    let front : drop at input ≡ n.minus ++ (n.int ++ (n.frac ++ (n.exp ++ rest))) =
    drop-slice input at end stands.ordered ∙ ap (λ t. t ++ rest) n.parts ∙ simp append_assoc in (
      n.frac ++ (n.exp ++ rest),
      ap after_whole front ∙ after_whole-number n.minus n.int n.frac n.exp rest n.is_minus n.is_int n.is_frac n.is_exp stands.boundary,
      after_frac_and_exp-number n.frac n.exp rest n.is_frac n.is_exp stands.boundary,
    )

-- and its second rest is that behind the place where the first was found
pub number_rest : (input : List ℕ) (at whole end : ℕ) → Some (drop whole input) ≡ after_whole (drop at input) → StandsAt IsNumber input at end
    → after_frac_and_exp (drop whole input) ≡ Some (drop end input)
number_rest input at whole end first stands =
    let rests = number_rests input at end stands in
    let both = first ∙ rests.1 in
    let same : drop whole input ≡ rests.0 = cc in
    ap after_frac_and_exp same ∙ rests.2

-- what the computed rests say of the bytes before them
pub record NumberParts (input : List ℕ) (at whole end : ℕ) : Type 0 where
  pub minus : List ℕ
  pub int : List ℕ
  pub frac : List ℕ
  pub exp : List ℕ
  pub whole_text : drop at input ≡ minus ++ (int ++ drop whole input)
  pub more_text : drop whole input ≡ frac ++ (exp ++ drop end input)
  pub is_minus : IsMinus minus
  pub is_int : IsInt int
  pub is_frac : IsFrac frac
  pub is_exp : IsExp exp

after_frac_some : (s rest : List ℕ) → after_frac_and_exp s ≡ Some rest → (middle : List ℕ) × (after_frac s ≡ Some middle) × (after_exp middle ≡ Some rest)
after_frac_some s rest e = go (after_frac s) refl
  where
    go : (found : Option (List ℕ)) → after_frac s ≡ found → (middle : List ℕ) × (after_frac s ≡ Some middle) × (after_exp middle ≡ Some rest)
    go None is = let no : ◌≡◌ {A = Option (List ℕ)} None (Some rest) = rw is at e in cc
    go (Some middle) is = (middle, is, rw is at e)

module _ (input : List ℕ) (at whole end : ℕ) (first : after_whole (drop at input) ≡ Some (drop whole input)) (then : after_frac_and_exp (drop whole input) ≡ Some (drop end input)) where
  pub number_parts : NumberParts input at whole end
  number_parts =
      let minus = begins_minus (drop at input) in
      let int = begins_int (after_minus (drop at input)) (drop whole input) first in
      let middle = after_frac_some (drop whole input) (drop end input) then in
      let frac = begins_frac (drop whole input) middle.0 middle.1 in
      let exp = begins_exp middle.0 (drop end input) middle.2 in
      record {
        minus = minus.part;
        int = int.part;
        frac = frac.part;
        exp = exp.part;
        whole_text = minus.split ∙ ap (λ t. minus.part ++ t) int.split;
        more_text = frac.split ∙ ap (λ t. frac.part ++ t) exp.split;
        is_minus = minus.is;
        is_int = int.is;
        is_frac = frac.is;
        is_exp = exp.is;
      }

  module _ (ordered : at ≤ end) (within : end ≤ length input) where
    number_text : slice_range input at end ≡ number_parts.minus ++ (number_parts.int ++ (number_parts.frac ++ number_parts.exp))
    number_text =
        let p = number_parts in
        slice_between input at end (p.minus ++ (p.int ++ (p.frac ++ p.exp))) ordered within
        (p.whole_text ∙ ap (λ t. p.minus ++ (p.int ++ t)) p.more_text ∙ sym (simp append_assoc))

    -- the computed rests are those of a number
    pub is_number : IsNumber (slice_range input at end)
    is_number =
        let p = number_parts in
        record { minus = p.minus; int = p.int; frac = p.frac; exp = p.exp; parts = number_text; is_minus = p.is_minus; is_int = p.is_int; is_frac = p.is_frac; is_exp = p.is_exp }

    value : whole_number (slice_range input at end) ≡ whole_before number_parts.minus number_parts.int (number_parts.frac ++ number_parts.exp)
    value =
        let p = number_parts in
        ap whole_number number_text ∙ whole_number-parts p.minus p.int (p.frac ++ p.exp) p.is_minus p.is_int (no_digits_more p.frac p.exp p.is_frac p.is_exp)

    more_size : length (drop whole input) ≡ length (number_parts.frac ++ number_parts.exp) + length (drop end input)
    more_size =
        let p = number_parts in
        ap length (p.more_text ∙ sym (append_assoc p.frac p.exp (drop end input))) ∙ length-append (p.frac ++ p.exp) (drop end input)

    -- which is a whole number exactly where nothing follows its int
    pub is_whole : whole ≤ end → nat_eq whole end ≡ is_some (whole_number (slice_range input at end))
    is_whole further = go (number_parts.frac ++ number_parts.exp) refl
      where
        go : (more : List ℕ) → number_parts.frac ++ number_parts.exp ≡ more → nat_eq whole end ≡ is_some (whole_number (slice_range input at end))
        go [] same =
            let size : whole ≡ end = omega (arith, more_size, ap length same, length-drop whole input, length-drop end input) in
            let equal : nat_eq whole end ≡ true = grind (arith, nat_tests) in
            equal ∙ sym (ap is_some (value ∙ ap (whole_before number_parts.minus number_parts.int) same))
        go (b ∷ more) same =
            let size : whole ≢ end = λ (e : whole ≡ end). omega (arith, more_size, ap length same, ap (λ k. length (drop k input)) e) in
            let other : nat_eq whole end ≡ false = grind (arith, nat_tests) in
            other ∙ sym (ap is_some (value ∙ ap (whole_before number_parts.minus number_parts.int) same))

-- an exponent ends where its digits do
pub ends_after_e : (input : List ℕ) (at sign_end : ℕ) (result : Option ℕ) → is_e (first_byte (drop at input)) ≡ true → drop sign_end input ≡ after_sign (drop (at + 1) input)
    → at + 1 ≤ sign_end → EndsAt input sign_end result (after_digits (drop sign_end input)) → EndsAt input at result (after_exp (drop at input))
ends_after_e input at sign_end result letter sign ordered ends = (
  ends.0 ∙ ap after_digits (sign ∙ ap after_sign (sym (drop-drop 1 at input)))
      ∙ sym (ap (λ b. cond b (after_digits (after_sign (drop 1 (drop at input)))) (Some (drop at input))) letter),
  IfSome_then result ends.1 (λ end bounds. (omega (arith, bounds.0), bounds.1)),
)
