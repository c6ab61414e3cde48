use Rattle.std.proofs.Common.{◌≡◌, suc, length, map}
use Rattle.std.specs.List.{slice_split}
use Rattle.smithy_query.specs.Split.{is_ampersand}
use Rattle.smithy_form.specs.Forms.{pairs_from}
use Rattle.smithy_form.specs.Private.Kept.{named_text}
use Rattle.smithy_form.specs.Private.Order.{AreNumbered}
use Rattle.smithy_form.proofs.PieceLemmas.{with_front}
use Rattle.smithy_form.proofs.pieces.pairs_of.Given as goal

-- the pairs that were read, with those of what is left, are all
abbrev pub invariant-loop-pairs : goal.invariant-loop-pairs
invariant-loop-pairs l = record {
  all : with_front (map named_text l.pairs.items) (pairs_from (suc (length l.pairs.items)) (slice_split is_ampersand l.rest))
      ≡ pairs_from 1 (slice_split is_ampersand l.input);
  numbered : AreNumbered 1 l.pairs.items;
}

abbrev pub decreases-loop-pairs : goal.decreases-loop-pairs
decreases-loop-pairs l = length l.rest
