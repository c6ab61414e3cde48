use Rattle.std.proofs.Common.{◌≡◌, ◌+◌, ◌-◌, not, eqb, length, sym, ap, ◌∙◌, arith}
use Rattle.smithy_json_grammar.specs.Private.Chars.{run_end}
use Rattle.smithy_json_grammar.proofs.LaneLemmas.{run_inside, run_over}
use Rattle.smithy_json_grammar.proofs.lanes.end_in_many.Goals as goal

-- the last bytes begin inside of the run
pub returns-in-Some-end_in : goal.returns-in-Some-end_in
returns-in-Some-end_in g c =
    let l = c.loop-end in
    let inside = run_inside (not (eqb g.row.CONTROLS 0)) (not (eqb g.row.ASCII 0)) c.args.input.now c.args.at (length c.args.input.now - 32) l.end (omega (arith, c.requires)) (omega (arith, c.loop-end-test.false)) l.invariant.same_run in
    c.in-Some-end_in.ensures.found ∙ sym inside

pub returns-in-None : goal.returns-in-None
returns-in-None g c =
    let input = c.args.input.now in
    let l = c.loop-end in
    let run = run_end (not (eqb g.row.CONTROLS 0)) (not (eqb g.row.ASCII 0)) input in
    let inside = run_inside (not (eqb g.row.CONTROLS 0)) (not (eqb g.row.ASCII 0)) input c.args.at (length input - 32) l.end (omega (arith, c.requires)) (omega (arith, c.loop-end-test.false)) l.invariant.same_run in
    let whole : length input - 32 + 32 ≡ length input = omega (arith, c.requires) in
    sym (inside ∙ c.in-None.ensures.none ∙ ap run whole ∙ run_over (not (eqb g.row.CONTROLS 0)) (not (eqb g.row.ASCII 0)) input)
