use Rattle.std.proofs.Common.{◌≡◌, false}
use Rattle.smithy_schema.specs.Writing.{open_map_at_key}
use Rattle.smithy_schema.specs.Written.{IsInside}
use Rattle.reader_rows.proofs.numbers.EntriesWriteElements.write.Given as goal

-- the container is open as it was, and no call has failed
abbrev pub invariant-loop-n : goal.invariant-loop-n
invariant-loop-n g l =
    let sink = g.S.ShapeSerializer in
    record {
      nests : sink.open_in (sink.state l.sink) ≡ sink.open_in (sink.state l.fn.sink);
      inside : IsInside open_map_at_key (sink.open_in (sink.state l.sink));
      sound : sink.failed l.sink ≡ false;
    }
