use Rattle.std.proofs.Common.{◌≡◌, drop, subst, sym, ◌∙◌}
use Rattle.smithy_json_grammar.specs.Grammar.{IsBoundary}
use Rattle.smithy_json_grammar.proofs.AllowedNumberLemmas.{number_rest, number_stands}
use Rattle.smithy_json_grammar.proofs.NumberRunLemmas.{number_is_run}
use Rattle.smithy_json_grammar.proofs.number_grammar.scan_number_of.Goals as goal

pub returns-in_err-end-clause-none : goal.returns-in_err-end-clause-none
returns-in_err-end-clause-none c =
    rw c.from_residual.ensures (λ end stands.
    let rest = number_rest c.args.grammar c.args.input.now c.args.at end stands in
    let none = c.in_err-end.ensures.0 in cc)

pub returns-then-not-is_boundary-clause-none : goal.returns-then-not-is_boundary-clause-none
returns-then-not-is_boundary-clause-none c = λ end stands.
    let both = c.in_ok-end.ensures.0 ∙ number_rest c.args.grammar c.args.input.now c.args.at end stands in
    let same : drop end c.args.input.now ≡ drop c.in_ok-end.end c.args.input.now = cc in
    let holds = c.is_boundary.ensures.1 (subst IsBoundary same stands.boundary) in
    let fails = c.if-not-is_boundary.true in cc

pub returns-clause-found : goal.returns-clause-found
returns-clause-found c =
    let end = c.in_ok-end.ensures in
    number_stands c.args.grammar c.args.input.now c.args.at c.in_ok-end.end end.1.0 end.1.1 (sym end.0) (c.is_boundary.ensures.0 c.if-not-is_boundary.false)

pub returns-clause-run : goal.returns-clause-run
returns-clause-run c = number_is_run c.args.grammar c.args.input.now c.args.at c.in_ok-end.end (returns-clause-found c)
