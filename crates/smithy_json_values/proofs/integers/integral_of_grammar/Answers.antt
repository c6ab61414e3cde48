use Rattle.std.proofs.Common.{subst, sym, w64}
use Rattle.std.proofs.lemmas.Int.{to_z-of_z}
use Rattle.smithy_json_grammar.proofs.LongLemmas.{long_fits}
use Rattle.smithy_json_values.specs.Codec.{held_settings}
use Rattle.smithy_json_values.specs.Private.NumberAtPlace.{IntegerStands}
use Rattle.smithy_json_values.proofs.IntegerReads.{of_integral, integral_of, other_integral}
use Rattle.smithy_json_values.proofs.integers.integral_of_grammar.Goals as goal

pub returns-in_err-end-clause-none : goal.returns-in_err-end-clause-none
returns-in_err-end-clause-none c =
    rw c.from_residual.ensures (λ n e h.
    c.in_err-end.ensures.none e (integral_of (held_settings c.args.settings.now) c.args.input.now c.args.start e n c.requires.integral h).0)

pub returns-in_err-number-clause-none : goal.returns-in_err-number-clause-none
returns-in_err-number-clause-none c =
    rw c.from_residual-in_err-number.ensures (λ n e h.
    other_integral (held_settings c.args.settings.now) c.args.input.now c.args.start e n c.requires.integral _ c.in_ok-end.ensures.found.run (sym c.in_err-number.ensures) h)

pub returns-clause-found : goal.returns-clause-found
returns-clause-found c =
    let n = c.in_ok-number.number in
    let value = sym c.in_ok-number.ensures in
    let found = of_integral (held_settings c.args.settings.now) c.args.input.now c.args.start c.in_ok-end.end n c.requires.integral c.in_ok-end.ensures.found value in
    subst (IntegerStands (held_settings c.args.settings.now) c.args.input.now c.args.start c.in_ok-end.end) (sym (to_z-of_z w64 n (long_fits n found.fits))) found
