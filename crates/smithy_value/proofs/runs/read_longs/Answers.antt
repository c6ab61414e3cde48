use Rattle.std.proofs.Common.{take, inr}
use Rattle.smithy_value.proofs.runs.read_longs.Goals as goal

pub returns : goal.returns
returns g c = record {
  same = c.read_longs-count.ensures.same;
  numbers = take c.read_longs-count.result c.read_longs-count.new._room;
  longs = inr c.requires.long;
  turn = c.read_longs-count.ensures.reads;
  shown = c.push_numbers.ensures.ok;
  begun = c.push_numbers.ensures.begun;
  memory = c.push_numbers.ensures.err;
}
