use Rattle.std.proofs.Common.{drop, subst, sym, ap, ◌∙◌, arith, inl, inr, w64}
use Rattle.std.proofs.lemmas.Int.{to_z-of_z}
use Rattle.smithy_json_grammar.specs.Grammar.{IsBoundary}
use Rattle.smithy_json_grammar.specs.Standing.{IsLongAt}
use Rattle.smithy_json_grammar.specs.Private.Numeral.{is_int_between, long_of}
use Rattle.smithy_json_grammar.proofs.LongLemmas.{some_digits, end_is, is_int_there, no_wide_long, no_long, long_found, long_fits}
use Rattle.smithy_json_grammar.proofs.number_text.read_long.Goals as goal

pub returns-in_err-magnitude-clause-none : goal.returns-in_err-magnitude-clause-none
returns-in_err-magnitude-clause-none c =
    rw c.from_residual.ensures (λ n end long.
    let start = c.minus_end-start.ensures in
    let none = c.in_err-magnitude.ensures in elim none [
      | inl no_digit ↦ omega (arith, some_digits c.args.input.now c.args.at _ start.value start.within end n long)
      | inr wide ↦ no_wide_long c.args.input.now c.args.at _ start.value start.within end n long wide
    ])

pub returns-then-not-is_int_between-clause-none : goal.returns-then-not-is_int_between-clause-none
returns-then-not-is_int_between-clause-none c = λ n end long.
    let start = c.minus_end-start.ensures in
    let same = end_is c.args.input.now c.args.at _ start.value start.within end n long ∙ sym c.in_ok-magnitude.ensures.1 in
    let holds = is_int_there c.args.input.now c.args.at _ start.value start.within end n long in
    let fails = sym (ap (is_int_between c.args.input.now c.minus_end-start.result) same) ∙ holds in
    let test = sym c.is_int_between.ensures ∙ c.if-not-is_int_between.true in cc

pub returns-then-not-is_boundary-clause-none : goal.returns-then-not-is_boundary-clause-none
returns-then-not-is_boundary-clause-none c = λ n end long.
    let start = c.minus_end-start.ensures in
    let same = end_is c.args.input.now c.args.at _ start.value start.within end n long ∙ sym c.in_ok-magnitude.ensures.1 in
    let holds = c.is_boundary.ensures.1 (subst (λ k. IsBoundary (drop k c.args.input.now)) same long.number.boundary) in
    let fails = c.if-not-is_boundary.true in cc

pub returns-in_err-n-clause-none : goal.returns-in_err-n-clause-none
returns-in_err-n-clause-none c =
    rw c.from_residual-in_err-n.ensures (λ n end long.
    let start = c.minus_end-start.ensures in
    let none = c.in_err-n.ensures ∙ ap (long_of _) c.in_ok-magnitude.ensures.0 in
    no_long c.args.input.now c.args.at _ start.value start.within end n long (sym none))

pub returns-clause-found : goal.returns-clause-found
returns-clause-found c =
    let start = c.minus_end-start.ensures in
    let read = c.in_ok-magnitude.ensures in
    let test = sym c.is_int_between.ensures ∙ c.if-not-is_int_between.false in
    let value = sym (c.in_ok-n.ensures ∙ ap (long_of _) read.0) in
    let found = long_found c.args.input.now c.args.at _ c.in_ok-magnitude.end c.in_ok-n.n start.value start.ordered start.within read.2 read.1 read.3 test (c.is_boundary.ensures.0 c.if-not-is_boundary.false) value in
    subst (IsLongAt c.args.input.now c.args.at c.in_ok-magnitude.end) (sym (to_z-of_z w64 c.in_ok-n.n (long_fits c.in_ok-n.n found.fits))) found
