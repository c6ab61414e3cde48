-- Where a literal stands.
use Rattle.std.proofs.Common.{◌≡◌, ◌+◌, ◌≤◌, ℕ, List, ◌++◌, length, take, drop, Bool, true, false, slice_range, IsTrue, ◌↔◌, eqb, ap, ◌∙◌, arith, subst, refl}
use Rattle.std.proofs.lemmas.Slice.Eq.{starts_is}
use Rattle.std.proofs.lemmas.Bool.Decides.{Decides-eqb}
use Rattle.std.specs.Cmp.Lexicographic.{pointwise}
use Rattle.std.specs.Bool.{then_some}
use Rattle.std.specs.List.{starts_with}
use Rattle.std.proofs.lemmas.List.{take_rest}
use Rattle.smithy_json_grammar.specs.Grammar.{IsBoundary}
use Rattle.smithy_json_grammar.specs.Private.Literal.{EndsLiteral}
use Rattle.smithy_json_grammar.specs.Standing.{StandsAt}
use Rattle.smithy_json_grammar.proofs.SliceLemmas.{drop-slice, length-slice, slice_is_text, end_within}

module _ (literal input : List ℕ) (at : ℕ) (bound : at ≤ length input) (starts : Bool) (tested : starts ≡ starts_with eqb (slice_range input at (length input)) literal) where
  is : starts ≡ pointwise eqb literal (take (length literal) (drop at input))
  is = tested ∙ ap (λ rest. pointwise eqb literal (take (length literal) rest)) (take_rest input at)

  found_here : (end : ℕ) → StandsAt (λ text. text ≡ literal) input at end → drop at input ≡ literal ++ drop end input
  found_here end stands = drop-slice input at end stands.ordered ∙ ap (λ text. text ++ drop end input) stands.text

  pub no_literal : starts ≡ false → (end : ℕ) → StandsAt (λ text. text ≡ literal) input at end → ⊥
  no_literal fails end stands =
      let holds = (starts_is Decides-eqb (drop at input) literal starts is).1 (drop end input) (found_here end stands) in cc

  pub ends_literal : starts ≡ true → (boundary : Bool) → (IsTrue boundary ↔ IsBoundary (drop (at + length literal) input)) → EndsLiteral literal input at (then_some boundary (at + length literal))
  ends_literal holds true ends =
      let here = (starts_is Decides-eqb (drop at input) literal starts is).0 holds in record {
        ordered = omega arith;
        within = end_within input at literal _ here bound;
        text = slice_is_text input at literal _ here bound;
        boundary = ends.0 refl;
      }
  ends_literal holds false ends = λ end stands.
      let size : length (slice_range input at end) ≡ length literal = ap length stands.text in
      let same : end ≡ at + length literal = omega (arith, length-slice input at end stands.ordered stands.within) in
      let no : false ≡ true = ends.1 (subst (λ n. IsBoundary (drop n input)) same stands.boundary) in cc
