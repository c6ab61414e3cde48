-- What stands between the quotation marks of a string stands in the input from its own place on, and names the text where it has no escape.
use Rattle.std.proofs.Common.{◌≡◌, ◌+◌, ◌-◌, ◌≤◌, ℕ, List, length, take, drop, slice_range, false, Some, IsUtf8, sym, ap, subst, ◌∙◌, arith}
use Rattle.std.specs.Result.{result_ok}
use Rattle.smithy_schema.specs.declared.spans.TextSpan.TheVariants.{Placed}
use Rattle.smithy_schema.specs.Spans.{text_bytes, IsTextPlaced, IsTextBetween}
use Rattle.smithy_json_grammar.specs.Standing.{IsQuotedAt}
use Rattle.smithy_json_grammar.specs.Unescape.{has_escape}
use Rattle.smithy_json_grammar.proofs.SliceLemmas.{length-slice}
use Rattle.smithy_json_values.specs.Private.PlacedTexts.{StandsFrom, IsMeantFrom}
use Rattle.smithy_json_values.proofs.TextLemmas.{without_escape}

module _ (i raw : List ℕ) (a opening closing : ℕ) (up : a ≤ opening) (here : IsQuotedAt i opening closing) (is : raw ≡ slice_range i (opening + 1) closing) where
  size : length raw ≡ closing - (opening + 1)
  size = ap length is ∙ length-slice i (opening + 1) closing (omega (arith, here.ordered)) (omega (arith, here.within))

  pub stands_behind_mark : (e : ℕ) → closing ≤ e → StandsFrom i a e (opening + 1) raw
  stands_behind_mark e more = record {
    behind = omega (arith, up);
    before = omega (arith, size, here.ordered, more);
    within = omega (arith, size, here.ordered, here.within);
    is = ap (λ n. take n (drop (opening + 1) i)) size ∙ sym is;
  }

  pub begins_within : length raw ≤ closing
  begins_within = omega (arith, size)

  pub stands_before_mark : StandsFrom i a (closing + 1) (closing - length raw) raw
  stands_before_mark =
      let begin : closing - length raw ≡ opening + 1 = omega (arith, size, here.ordered) in
      subst (λ n. StandsFrom i a (closing + 1) n raw) (sym begin) (stands_behind_mark (closing + 1) (omega arith))

-- a text without an escape is named by its place
pub placed_means : (raw : List ℕ) (at : ℕ) → has_escape raw ≡ false → IsUtf8 raw → IsMeantFrom text_bytes IsTextPlaced IsTextBetween at raw (Some (Placed at (length raw)))
placed_means raw at plain text input a e stands = (
  ap result_ok (without_escape raw plain) ∙ ap Some (sym stands.is),
  record { within = stands.within; text = subst IsUtf8 (sym stands.is) text },
  (stands.behind, stands.before),
)

-- what stands behind one place stands behind each before it
pub stands_sooner : (input : List ℕ) (b a e at : ℕ) (raw : List ℕ) → b ≤ a → StandsFrom input a e at raw → StandsFrom input b e at raw
stands_sooner input b a e at raw up stands = record { behind = omega (arith, up, stands.behind); before = stands.before; within = stands.within; is = stands.is }
