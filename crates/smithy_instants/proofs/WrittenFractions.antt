-- Fractions digit by digit, as they are written.
use Rattle.std.proofs.Common.{◌≡◌, ◌+◌, ◌-◌, ◌/◌, ◌%◌, ◌^◌, ◌<◌, ℕ, zero, suc, List, [], ◌∷◌, ◌++◌, append-nil, cond, false, nat_eq, sym, ap, ◌∙◌, arith}
use Rattle.std.proofs.lemmas.Bool.Decides.{nat_tests}
use Rattle.smithy_instants.specs.WrittenDate.{fraction_digits}

-- the first digit and the others
pub fraction_step : (width n : ℕ) → 0 < n → 0 < width → fraction_digits width n ≡ (48 + n / 10 ^ (width - 1)) ∷ fraction_digits (width - 1) (n % 10 ^ (width - 1))
fraction_step zero n h w = absurd (omega arith)
fraction_step (suc width) n h w =
    let test : nat_eq n 0 ≡ false = grind (arith, nat_tests) in
    let e : suc width - 1 ≡ width = omega arith in
    ap (λ t. cond t [] ((48 + n / 10 ^ width) ∷ fraction_digits width (n % 10 ^ width))) test
    ∙ ap (λ k. (48 + n / 10 ^ k) ∷ fraction_digits k (n % 10 ^ k)) (sym e)

-- behind the last digit nothing is left
pub fraction_end : (done : List ℕ) (width n : ℕ) → n ≡ 0 → done ++ fraction_digits width n ≡ done
fraction_end done zero n none = append-nil done
fraction_end done (suc width) n none =
    ap (λ k. done ++ fraction_digits (suc width) k) none ∙ append-nil done

-- a number that is there has a place
pub width_positive : (width n : ℕ) → 0 < n → n < 10 ^ width → 0 < width
width_positive zero n h small = absurd (omega arith)
width_positive (suc width) n h small = omega arith
