use Rattle.std.proofs.Common.{Some, subst}
use Rattle.smithy_cbor_values.specs.Standing.{mark_with}
use Rattle.smithy_cbor_values.specs.Private.NextInContainer.{IsEntryOrEnd}
use Rattle.smithy_cbor_values.specs.Private.Entries.{entry_or_over}
use Rattle.smithy_cbor_codec.proofs.EntryLemmas.{key_text}
use Rattle.smithy_cbor_codec.proofs.members.next_in_map.Goals as goal

pub returns-in_default-clause-found : goal.returns-in_default-clause-found
returns-in_default-clause-found c =
    let none = rw c.in_default.is at c.in_ok-key-in-Some-Entry.ensures.found in
    let entry = subst (λ next. IsEntryOrEnd c.args.input.now c.args.at c.args.due (Some next)) c.in-Some-Entry.field-0-is c.in-Some-Entry.ensures in (
      λ text e n h. none text e (key_text c.args.input.now c.args.at (mark_with c.args.due) text e n h),
      λ e over. entry_or_over c.args.input.now c.args.at (mark_with c.args.due) (mark_with c.in-Some-Entry.after) e entry over,
    )

pub returns-in-None-clause-found : goal.returns-in-None-clause-found
returns-in-None-clause-found c = (λ text e n h. c.in-None.ensures.0 n h.0, λ e over. c.in-None.ensures.1 e over)
