use Rattle.std.proofs.Common.{◌==◌, drop, subst, sym, ap, ◌∙◌, arith, inl, inr, w64}
use Rattle.std.proofs.lemmas.Int.{to_z-of_z}
use Rattle.smithy_json_grammar.specs.Ascii.{minus_sign, is_numeric}
use Rattle.smithy_json_grammar.specs.Standing.{IsSignedAt}
use Rattle.smithy_json_grammar.specs.Private.Numeral.{first_byte, long_of}
use Rattle.smithy_json_grammar.proofs.LongLemmas.{long_fits}
use Rattle.smithy_json_grammar.proofs.SignedLemmas.{some_digits, end_is, no_wide, no_long, run_ends_there, signed_found}
use Rattle.smithy_json_grammar.proofs.number_run.read_signed.Goals as goal

pub returns-in_err-magnitude-clause-none : goal.returns-in_err-magnitude-clause-none
returns-in_err-magnitude-clause-none c =
    rw c.from_residual.ensures (λ n end signed.
    let start = c.sign_end-start.ensures in
    let none = c.in_err-magnitude.ensures in elim none [
      | inl no_digit ↦ omega (arith, some_digits c.args.input.now c.args.at _ start.value start.within end n signed)
      | inr wide ↦ no_wide c.args.input.now c.args.at _ start.value start.within end n signed wide
    ])

pub returns-then-run_goes_on-clause-none : goal.returns-then-run_goes_on-clause-none
returns-then-run_goes_on-clause-none c = λ n end signed.
    let start = c.sign_end-start.ensures in
    let same = end_is c.args.input.now c.args.at _ start.value start.within end n signed ∙ sym c.in_ok-magnitude.ensures.1 in
    let ends = run_ends_there c.args.input.now c.args.at _ start.value start.within end n signed in
    let here = ap (λ k. is_numeric (first_byte (drop k c.args.input.now))) same in
    let goes_on = sym c.run_goes_on.ensures ∙ c.if-run_goes_on.true in cc

pub returns-in_err-n-clause-none : goal.returns-in_err-n-clause-none
returns-in_err-n-clause-none c =
    rw c.from_residual-in_err-n.ensures (λ n end signed.
    let start = c.sign_end-start.ensures in
    let none = c.in_err-n.ensures ∙ ap (λ b. long_of (b == minus_sign) c.in_ok-magnitude.magnitude) c.byte_at.ensures ∙ ap (long_of (first_byte (drop c.args.at c.args.input.now) == minus_sign)) c.in_ok-magnitude.ensures.0 in
    no_long c.args.input.now c.args.at _ start.value start.within end n signed (sym none))

pub returns-clause-found : goal.returns-clause-found
returns-clause-found c =
    let start = c.sign_end-start.ensures in
    let read = c.in_ok-magnitude.ensures in
    let stop = sym c.run_goes_on.ensures ∙ c.if-run_goes_on.false in
    let value = sym (c.in_ok-n.ensures ∙ ap (λ b. long_of (b == minus_sign) c.in_ok-magnitude.magnitude) c.byte_at.ensures ∙ ap (long_of (first_byte (drop c.args.at c.args.input.now) == minus_sign)) read.0) in
    let found = signed_found c.args.input.now c.args.at _ c.in_ok-magnitude.end c.in_ok-n.n start.value start.ordered start.within read.2 read.1 read.3 stop value in
    subst (IsSignedAt c.args.input.now c.args.at c.in_ok-magnitude.end) (sym (to_z-of_z w64 c.in_ok-n.n (long_fits c.in_ok-n.n found.fits))) found
