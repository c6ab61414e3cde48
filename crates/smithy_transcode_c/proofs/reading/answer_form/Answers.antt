use Rattle.std.proofs.Common.{rules, ◌∙◌, sym}
use Rattle.smithy_transcode.specs.Wires.{wire_of}
use Rattle.smithy_transcode_c.specs.Calls.{target_wire}
use Rattle.smithy_transcode_c.specs.Views.{asked_of}
use Rattle.smithy_transcode_c.proofs.ReadingLemmas.{form_written}
use Rattle.smithy_transcode_c.proofs.reading.answer_form.Goals as goal

pub returns : goal.returns
returns c =
    let wire = rw c.in-Ok-Some.field-0-is at c.in-Ok-Some.ensures.wire in
    form_written c.args.table.now c.args.asked.now.root.now (target_wire (asked_of c.args.asked.now)) c.args.input.now c.args.out.now c.in-Ok.root.0 (wire_of c.in-Ok-Some.to)
    c.in-Ok-read_form.form c.in-Ok-write_body.body (record { named = c.in-Ok.ensures.root.0; structure = c.in-Ok.ensures.root.1; is_wire = sym wire })
    c.in-Ok-read_form.ensures c.in-Ok-write_body.ensures _ _ _ _ _ _ (c.as_bytes-action.ensures.value ∙ c.as_str.ensures.value)
    (c.as_bytes-version.ensures.value ∙ c.as_str-2.ensures.value) c.deref.ensures.value (search rules) c.hand_out_parts.ensures
