use Rattle.std.proofs.Common.{◌++◌, take, append_assoc, arith}
use Rattle.std.proofs.lemmas.Grind.{common_steps}
use Rattle.smithy_outside.proofs.Faults.{no_fault_after}
use Rattle.smithy_outside.proofs.Moved.{took_more}
use Rattle.smithy_outside.proofs.streams.write_bytes.Goals as goal

pub loop-rest-preserved : goal.loop-rest-preserved
loop-rest-preserved g c =
    let before = c.loop-rest.invariant.took in
    let told = g.K.Sink.told in
    record {
      took = (before.0 ++ take c.in_ok-count.count c.loop-rest.rest.now, rw append_assoc (grind (arith, common_steps)), took_more before.0 _ (told c.args.sink.now) (told c.loop-rest.sink) (told c.write.new.self) before.2 c.in_ok-count.ensures.took);
      no_fault = no_fault_after (told c.args.sink.now) (told c.loop-rest.sink) (told c.write.new.self) c.loop-rest.invariant.no_fault c.in_ok-count.ensures.counts;
    }
