use Rattle.smithy_outside.proofs.Written.{written_and_finished}
use Rattle.smithy_outside.proofs.streams.write_all.Goals as goal

pub returns-clause-written : goal.returns-clause-written
returns-clause-written g c =
    let told = g.K.Sink.told in
    let part = c.in_ok-write_bytes.ensures.written in
    written_and_finished c.args.bytes.now c.finish.result (told c.args.sink.now) (told c.write_bytes.new.sink) (told c.finish.new.self)
    part.0 part.1 c.finish.ensures.took c.finish.ensures.counts
