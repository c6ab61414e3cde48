use Rattle.std.proofs.Common.{◌∙◌, ◌-◌, true, false, sym, ap, arith}
use Rattle.smithy_json_grammar.specs.Private.Chars.{ends_run}
use Rattle.smithy_json_grammar.proofs.LaneLemmas.{run_bound, ends_in}
use Rattle.smithy_json_tokens.proofs.string_end.plain_stop.Goals as goal
use lib.Count.{count_trailing_zeros}

pub returns-clause-value : goal.returns-clause-value
returns-clause-value c =
    let a = c.args in
    let need = c.requires in
    let run = ends_in (ends_run true false) a.input.now a.at (a.behind - a.at) (omega (arith, need.ordered, need.within)) (omega (arith, need.short)) (omega (arith, need.rest, need.some)) ∙ ap (count_trailing_zeros 64) (sym need.rest) in
    omega (arith, run)

pub returns-clause-bound : goal.returns-clause-bound
returns-clause-bound c =
    let a = c.args in
    let need = c.requires in
    let run = ends_in (ends_run true false) a.input.now a.at (a.behind - a.at) (omega (arith, need.ordered, need.within)) (omega (arith, need.short)) (omega (arith, need.rest, need.some)) ∙ ap (count_trailing_zeros 64) (sym need.rest) in
    omega (arith, run, run_bound true false a.input.now a.at (omega (arith, need.ordered, need.within)))
