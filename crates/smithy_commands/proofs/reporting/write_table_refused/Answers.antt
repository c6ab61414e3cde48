use Rattle.std.proofs.Common.{[], codes}
use Rattle.std.specs.Option.{option_map_or}
use Rattle.smithy_commands.specs.Status.{refusal_of, refusal_text}
use Rattle.smithy_outside.proofs.Written.{written_more, cut_short}
use Rattle.smithy_commands.proofs.reporting.write_table_refused.Goals as goal

pub returns-in_err-write_bytes : goal.returns-in_err-write_bytes
returns-in_err-write_bytes g c =
    let told = g.E.Sink.told in
    let front = c.in_err-write_bytes.ensures.written in
    cut_short _ (codes "table refused: ") (option_map_or refusal_text (refusal_of c.args.fault) []) c.from_residual.result
    (told c.args.err.now) (told c.write_bytes.new.sink) c.from_residual.ensures.1 front.0 front.1

pub returns : goal.returns
returns g c =
    let told = g.E.Sink.told in
    let front = c.in_ok-write_bytes.ensures.written in
    written_more (codes "table refused: ") (option_map_or refusal_text (refusal_of c.args.fault) []) c.write_refusal.result
    (told c.args.err.now) (told c.write_bytes.new.sink) (told c.write_refusal.new.err) front.0 front.1 c.write_refusal.ensures
