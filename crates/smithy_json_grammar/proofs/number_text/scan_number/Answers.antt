use Rattle.std.proofs.Common.{◌≡◌, drop, subst, sym, ◌∙◌, arith}
use Rattle.smithy_json_grammar.specs.Grammar.{IsBoundary}
use Rattle.smithy_json_grammar.proofs.NumberPlaceLemmas.{number_rests, number_rest, is_number, is_whole}
use Rattle.smithy_json_grammar.proofs.number_text.scan_number.Goals as goal

pub returns-in_err-whole_end-clause-none : goal.returns-in_err-whole_end-clause-none
returns-in_err-whole_end-clause-none c =
    rw c.from_residual.ensures (λ end stands.
    let rests = number_rests c.args.input.now c.args.at end stands in
    let none = c.in_err-whole_end.ensures.0 in cc)

pub returns-in_err-end-clause-none : goal.returns-in_err-end-clause-none
returns-in_err-end-clause-none c =
    rw c.from_residual-in_err-end.ensures (λ end stands.
    let rest = number_rest c.args.input.now c.args.at c.in_ok-whole_end.whole_end end c.in_ok-whole_end.ensures.0 stands in
    let none = c.in_err-end.ensures.0 in cc)

pub returns-then-not-is_boundary-clause-none : goal.returns-then-not-is_boundary-clause-none
returns-then-not-is_boundary-clause-none c = λ end stands.
    let both = c.in_ok-end.ensures.0 ∙ number_rest c.args.input.now c.args.at c.in_ok-whole_end.whole_end end c.in_ok-whole_end.ensures.0 stands in
    let same : drop end c.args.input.now ≡ drop c.in_ok-end.end c.args.input.now = cc in
    let holds = c.is_boundary.ensures.1 (subst IsBoundary same stands.boundary) in
    let fails = c.if-not-is_boundary.true in cc

pub returns-clause-found : goal.returns-clause-found
returns-clause-found c =
    let whole = c.in_ok-whole_end.ensures in
    let end = c.in_ok-end.ensures in record {
      ordered = omega (arith, whole.1.0, end.1.0);
      within = end.1.1;
      text = is_number c.args.input.now c.args.at c.in_ok-whole_end.whole_end c.in_ok-end.end (sym whole.0) (sym end.0) (omega (arith, whole.1.0, end.1.0)) end.1.1;
      boundary = c.is_boundary.ensures.0 c.if-not-is_boundary.false;
    }

pub returns-clause-is_whole : goal.returns-clause-is_whole
returns-clause-is_whole c =
    let whole = c.in_ok-whole_end.ensures in
    let end = c.in_ok-end.ensures in
    is_whole c.args.input.now c.args.at c.in_ok-whole_end.whole_end c.in_ok-end.end (sym whole.0) (sym end.0) (omega (arith, whole.1.0, end.1.0)) end.1.1 end.1.0
