use Rattle.std.proofs.Common.{◌+◌, length, arith, sym, ◌∙◌}
use Rattle.std.specs.Cow.{cow_str_bytes}
use Rattle.smithy_form.specs.Private.Kept.{kept_leaves}
use Rattle.smithy_form.proofs.FoundEntries.{no_text, no_text_alone, text_alone}
use Rattle.smithy_form.proofs.PartAnswers.{are_none, are_some, found_inside, found_sorted, found_room}
use Rattle.smithy_form.proofs.entries.key_in.Goals as goal

pub returns-then-is_empty : goal.returns-then-is_empty
returns-then-is_empty c =
    let found = c.with_segment-keys.result.now in
    no_text c.args.name.now (kept_leaves c.args.at c.args.entry.now) (c.args.at + length c.args.name.now + 1) found
    (found_inside c.args.at c.as_bytes.result.now c.args.name.now found c.as_bytes.ensures.value c.args.entry.now c.with_segment-keys.ensures.inside)
    (are_none found (sym c.is_empty.ensures ∙ c.if-is_empty.true))

pub overflow_add-at : goal.overflow_add-at
overflow_add-at c =
    let found = c.with_segment-keys.result.now in
    let room =
    found_room c.args.at c.as_bytes.result.now c.args.name.now found c.as_bytes.ensures.value c.with_segment-keys.ensures.room
    (are_some found (sym c.is_empty.ensures ∙ c.if-is_empty.false)) in
    omega (arith, room)

pub overflow_add-at-2 : goal.overflow_add-at-2
overflow_add-at-2 c =
    let found = c.with_segment-keys.result.now in
    let room =
    found_room c.args.at c.as_bytes.result.now c.args.name.now found c.as_bytes.ensures.value c.with_segment-keys.ensures.room
    (are_some found (sym c.is_empty.ensures ∙ c.if-is_empty.false)) in
    omega (arith, room)

pub only_here-requires : goal.only_here-requires
only_here-requires c = record {
  sorted = found_sorted c.args.at c.as_bytes.result.now c.args.name.now c.with_segment-keys.result.now c.as_bytes.ensures.value c.with_segment-keys.ensures.sorted;
}

pub returns-in_err-pair : goal.returns-in_err-pair
returns-in_err-pair c =
    let found = c.with_segment-keys.result.now in
    let next = c.args.at + length c.args.name.now + 1 in
    rw c.from_residual.ensures
    (no_text_alone c.args.name.now (kept_leaves c.args.at c.args.entry.now) (kept_leaves next found)
    (found_inside c.args.at c.as_bytes.result.now c.args.name.now found c.as_bytes.ensures.value c.args.entry.now c.with_segment-keys.ensures.inside) c.in_err-pair.ensures)

pub returns : goal.returns
returns c =
    let found = c.with_segment-keys.result.now in
    let next = c.args.at + length c.args.name.now + 1 in
    text_alone c.args.name.now (kept_leaves c.args.at c.args.entry.now) (kept_leaves next found) (cow_str_bytes c.in_ok-pair.pair.now.text) c.as_str.result.now
    (found_inside c.args.at c.as_bytes.result.now c.args.name.now found c.as_bytes.ensures.value c.args.entry.now c.with_segment-keys.ensures.inside) c.in_ok-pair.ensures
    c.as_str.ensures.value c.as_str.utf8
