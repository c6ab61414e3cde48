use Rattle.std.proofs.Common.{◌≡◌, ◌+◌, ◌-◌, not, eqb, length, sym, ap, ◌∙◌, arith}
use Rattle.smithy_json_grammar.specs.Private.Chars.{run_end}
use Rattle.smithy_json_grammar.proofs.LaneLemmas.{run_inside, run_over}
use Rattle.smithy_json_grammar.proofs.lanes.end_in_two.Goals as goal

-- the last bytes begin inside of the run
pub returns-in-Some-end_in : goal.returns-in-Some-end_in
returns-in-Some-end_in g c =
    let inside = run_inside (not (eqb g.row.CONTROLS 0)) (not (eqb g.row.ASCII 0)) c.args.input.now c.args.at (length c.args.input.now - g.row.N) (c.args.at + g.row.N) (omega (arith, c.requires.many)) (omega (arith, c.requires.few)) c.in_default.ensures.none in
    c.in-Some-end_in.ensures.found ∙ sym inside

pub returns-in-None : goal.returns-in-None
returns-in-None g c =
    let input = c.args.input.now in
    let run = run_end (not (eqb g.row.CONTROLS 0)) (not (eqb g.row.ASCII 0)) input in
    let inside = run_inside (not (eqb g.row.CONTROLS 0)) (not (eqb g.row.ASCII 0)) input c.args.at (length input - g.row.N) (c.args.at + g.row.N) (omega (arith, c.requires.many)) (omega (arith, c.requires.few)) c.in_default.ensures.none in
    let whole : length input - g.row.N + g.row.N ≡ length input = omega (arith, c.requires.many) in
    sym (inside ∙ c.in-None.ensures.none ∙ ap run whole ∙ run_over (not (eqb g.row.CONTROLS 0)) (not (eqb g.row.ASCII 0)) input)
