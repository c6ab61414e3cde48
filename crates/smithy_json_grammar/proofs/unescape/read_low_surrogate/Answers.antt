use Rattle.std.proofs.Common.{sym, ◌∙◌}
use Rattle.smithy_json_grammar.proofs.UnescapingLemmas.{not_first, not_second, pair_unescapes}
use Rattle.smithy_json_grammar.proofs.unescape.read_low_surrogate.Goals as goal
use Rattle.smithy_json_grammar.proofs.unescape.read_low_surrogate.Goals.{then-rest-ne92-via-then-rest-ne92, then-rest-ne92-via-else-rest-ne92+then-rest-ne117}

pub returns-then-rest-ne92 : goal.returns-then-rest-ne92
returns-then-rest-ne92 c = elim c.then-rest-ne92.branch [
  | then-rest-ne92-via-then-rest-ne92 w ↦ not_first c.args.high c.args.rest.now c.if-rest-lt6.false w.if-rest-ne92.true
  | then-rest-ne92-via-else-rest-ne92+then-rest-ne117 w ↦ not_second c.args.high c.args.rest.now c.if-rest-lt6.false w.if-rest-ne117.true
]

pub returns : goal.returns
returns c =
    let low = sym c.is_low_surrogate.ensures ∙ c.if-not-is_low_surrogate.false in
    let pair = pair_unescapes c.args.high c.args.rest.now c.if-rest-lt6.false c.if-rest-ne92.false c.if-rest-ne117.false c.in_ok-low.low (sym c.in_ok-low.ensures) low in
    rw c.surrogate_pair.ensures pair
