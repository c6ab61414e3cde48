use Rattle.std.proofs.Common.{◌∙◌, not, eqb, sym, ap, arith}
use Rattle.smithy_json_grammar.specs.Private.Chars.{ends_run}
use Rattle.smithy_json_grammar.proofs.LaneLemmas.{through, ends_in}
use Rattle.smithy_json_grammar.proofs.lanes.end_in.Goals as goal
use lib.Count.{count_trailing_zeros}

pub returns-then-found-eq0-clause-none : goal.returns-then-found-eq0-clause-none
returns-then-found-eq0-clause-none g c =
    let run = through (ends_run (not (eqb g.row.CONTROLS 0)) (not (eqb g.row.ASCII 0))) c.args.input.now c.args.at g.row.N c.requires.within (omega (arith, c.ends-found.ensures, c.if-found-eq0.true)) in
    omega (arith, run)

pub returns-clause-found : goal.returns-clause-found
returns-clause-found g c =
    let found = c.ends-found in
    let run = ends_in (ends_run (not (eqb g.row.CONTROLS 0)) (not (eqb g.row.ASCII 0))) c.args.input.now c.args.at g.row.N c.requires.within c.requires.lanes (omega (arith, found.ensures, c.if-found-eq0.false)) ∙ ap (count_trailing_zeros 64) (sym found.ensures) in
    omega (arith, run)
