-- A text that is a number of the grammar from its start to its end.
use Rattle.std.proofs.Common.{◌≡◌, ◌-◌, ℕ, List, length, take, drop, slice_range, Some, sym, ap, ◌∙◌, arith, subst}
use Rattle.std.proofs.Math.Seq.{take-length, drop-length}
use Rattle.std.proofs.lemmas.List.{length-drop}
use Rattle.smithy_json_grammar.specs.Grammar.{IsNumber, IsBoundary}
use Rattle.smithy_json_grammar.specs.Standing.{StandsAt}
use Rattle.smithy_json_grammar.specs.Private.Numeral.{after_frac_and_exp}
use Rattle.smithy_json_grammar.proofs.NumberPlaceLemmas.{number_rests}

-- it stands there
pub whole_stands : (text : List ℕ) → IsNumber text → StandsAt IsNumber text 0 (length text)
whole_stands text is =
    let size : length text - 0 ≡ length text = omega arith in
    let all : slice_range text 0 (length text) ≡ text = ap (λ n. take n text) size ∙ take-length text in
    record {
      ordered = omega arith;
      within = omega arith;
      text = subst IsNumber (sym all) is;
      boundary = subst IsBoundary (sym (drop-length text)) tt;
    }

some_same : {A : Type 0} (x y : A) → Some x ≡ Some y → x ≡ y
some_same x y e = cc

-- and no number that stands there ends before
pub whole_ends : (text : List ℕ) (end : ℕ) → IsNumber text → StandsAt IsNumber text 0 end → end ≡ length text
whole_ends text end is stands =
    let here = number_rests text 0 end stands in
    let there = number_rests text 0 (length text) (whole_stands text is) in
    let tail : here.0 ≡ there.0 = some_same here.0 there.0 (sym here.1 ∙ there.1) in
    let rest : drop end text ≡ drop (length text) text =
    some_same (drop end text) (drop (length text) text) (sym here.2 ∙ ap after_frac_and_exp tail ∙ there.2) in
    let none : length (drop end text) ≡ 0 = ap length (rest ∙ drop-length text) in
    omega (arith, none, length-drop end text, stands.within)
