use Rattle.std.proofs.Common.{arith}
use Rattle.std.proofs.lemmas.Result.{err_from_is_err_and}
use Rattle.smithy_lint.proofs.CborEnds.{bytes_behind, whole_fails}
use Rattle.smithy_lint.proofs.cbor_end.check_item.Goals as goal

pub returns-in_err-end : goal.returns-in_err-end
returns-in_err-end c =
    let p = err_from_is_err_and c.from_residual.result c.from_residual.ensures.1 in
    rw (p.1, p.2) (whole_fails c.args.bytes.now c.in_err-end.field-0.0 c.in_err-end.ensures)

pub returns-then-end-bytes : goal.returns-then-end-bytes
returns-then-end-bytes c = bytes_behind c.args.bytes.now c.in_ok-end.end (omega (arith, c.if-end-bytes.true)) c.in_ok-end.ensures
