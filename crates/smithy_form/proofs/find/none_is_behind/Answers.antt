use Rattle.std.proofs.Common.{length, refl, sym, ◌∙◌, arith}
use Rattle.smithy_form.proofs.PlaceLemmas.{none_end, all_end}
use Rattle.smithy_form.proofs.find.none_is_behind.Goals as goal

pub returns-then-count-eq0 : goal.returns-then-count-eq0
returns-then-count-eq0 c = λ yes. none_end c.args.at c.args.segment.now c.args.pairs.now c.if-count-eq0.true

pub returns : goal.returns
returns c =
    λ yes. all_end c.args.at c.args.segment.now c.args.pairs.now c.index-pairs-count.result (length c.args.pairs.now) c.requires refl
    (omega (arith, c.if-count-eq0.false)) c.index-pairs-count.is (sym c.is_not_behind.ensures ∙ yes)
