use Rattle.std.proofs.Common.{◌≡◌, ◌≤◌, length}
use Rattle.smithy_transcode.specs.Wires.{wire_of}
use Rattle.smithy_transcode_c.specs.Bodies.{HasAnswers, begin_of}
use Rattle.smithy_transcode_c.proofs.bodies.answer_each.Given as goal

abbrev pub invariant-loop-i : goal.invariant-loop-i
invariant-loop-i l = record {
  answers : HasAnswers l.table l.meant.root.0 (wire_of l.meant.from) (wire_of l.meant.to)
      (record { ends = l.inputs.ends.now; bytes = l.inputs.bytes.now })
      (record { out_ends = l.fn.out_ends; statuses = l.fn.statuses; out = l.fn.out })
      (record { out_ends = l.out_ends; statuses = l.statuses; out = l.out })
      l.i l.at;
  begins : l.start ≡ begin_of l.inputs.ends.now l.i;
  counted : l.done ≡ l.i;
  within : l.at ≤ length l.out;
}
