use Rattle.std.proofs.Common.{List, ℕ, subst}
use Rattle.smithy_outside.specs.Outside.{IsWritten}
use Rattle.smithy_outside.proofs.Written.{written_more, cut_short}
use Rattle.smithy_table_commands.proofs.reporting.write_two.Goals as goal

pub returns-in_err-write_bytes : goal.returns-in_err-write_bytes
returns-in_err-write_bytes g c =
    let told = g.E.Sink.told in
    let front = c.in_err-write_bytes.ensures.written in
    cut_short _ c.args.text.now c.args.id.now c.from_residual.result (told c.args.err.now) (told c.write_bytes.new.sink)
    c.from_residual.ensures.1 front.0 front.1

pub returns : goal.returns
returns g c =
    let told = g.E.Sink.told in
    let front = c.in_ok-write_bytes.ensures.written in
    let id = subst (λ (text : List ℕ). IsWritten text c.write_bytes-2.result (told c.write_bytes.new.sink) (told c.write_bytes-2.new.sink))
    c.as_bytes.ensures.value c.write_bytes-2.ensures.written in
    written_more c.args.text.now c.args.id.now c.write_bytes-2.result (told c.args.err.now) (told c.write_bytes.new.sink) (told c.write_bytes-2.new.sink)
    front.0 front.1 id
