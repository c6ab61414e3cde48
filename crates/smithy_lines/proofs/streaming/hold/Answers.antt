use Rattle.std.proofs.Common.{rules}
use Rattle.smithy_lines.proofs.StreamLemmas.{held_full, more_held, cut_held}
use Rattle.smithy_lines.proofs.streaming.hold.Goals as goal

pub returns-in_default : goal.returns-in_default
returns-in_default c line is = held_full c.args.longest c.args.held.now.items line c.args.bytes.now (search rules) is

pub returns-then-bytes-room : goal.returns-then-bytes-room
returns-then-bytes-room c = more_held c.args.longest c.args.held.now.items c.args.bytes.now c.extend_from_slice.result c.extend_from_slice.new.self.items (search rules) (search rules)

pub returns : goal.returns
returns c = cut_held c.args.longest c.in-Some.room c.args.held.now.items c.args.bytes.now c.part.result.now c.extend_from_slice-2.result c.extend_from_slice-2.new.self.items (search rules) c.part.ensures (search rules)
