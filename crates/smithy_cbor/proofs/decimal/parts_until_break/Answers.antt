-- Where no break is, both parts stand before it.
use Rattle.std.proofs.Common.{inl, inr, arith}
use Rattle.std.proofs.lemmas.Grind.{common_steps}
use Rattle.std.proofs.lemmas.Result.{err_from_is_err_and}
use Rattle.smithy_cbor.proofs.decimal.parts_until_break.Goals as goal

pub returns-in_err-exponent : goal.returns-in_err-exponent
returns-in_err-exponent c =
    let p = err_from_is_err_and c.from_residual.result c.from_residual.ensures.1 in
    rw (p.1, p.2) (record { found = tt; fits = tt; refused = inl c.in_err-exponent.ensures.finds.refused })

pub returns-in_err-end : goal.returns-in_err-end
returns-in_err-end c =
    let found = c.in_ok-exponent.ensures.finds.found in
    let p = err_from_is_err_and c.from_residual-in_err-end.result c.from_residual-in_err-end.ensures.1 in
    rw (p.1, p.2) (record { found = tt; fits = tt; refused = inr (c.in_ok-exponent.end, (c.in_ok-exponent.exponent, found.0, found.1), c.in_err-end.ensures.refused) })

pub parts_at-requires : goal.parts_at-requires
parts_at-requires c = grind (arith, common_steps)

pub break_at-requires : goal.break_at-requires
break_at-requires c = grind (arith, common_steps)
