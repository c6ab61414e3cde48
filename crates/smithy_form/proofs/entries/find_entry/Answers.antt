use Rattle.std.proofs.Common.{◌≡◌, ◌≤◌, ◌+◌, length, decimal, arith, refl, sym, ap, ◌∙◌}
use Rattle.smithy_form.specs.Lookup.{inside}
use Rattle.smithy_form.specs.Private.Kept.{kept_leaves}
use Rattle.smithy_form.proofs.FoundEntries.{no_pairs, no_key, no_value, others, entry_there}
use Rattle.smithy_form.proofs.PartAnswers.{are_none, are_some, found_inside, found_sorted, found_room}
use Rattle.smithy_form.proofs.entries.find_entry.Goals as goal

pub returns-then-is_empty : goal.returns-then-is_empty
returns-then-is_empty c =
    let ls = kept_leaves c.args.at c.args.pairs.now in
    let segment = c.format-segment.result.now in
    let entry = c.with_segment-entry.result.now in
    let next = c.args.at + length segment + 1 in
    let is : kept_leaves next entry ≡ inside (decimal c.args.number) ls =
    found_inside c.args.at c.as_bytes.result.now segment entry c.as_bytes.ensures.value c.args.pairs.now c.with_segment-entry.ensures.inside
    ∙ ap (λ s. inside s ls) c.format-segment.ensures.text in
    no_pairs c.args.key_name.now c.args.value_name.now (inside (decimal c.args.number) ls) next entry is (are_none entry (sym c.is_empty.ensures ∙ c.if-is_empty.true))

pub overflow_add-inner : goal.overflow_add-inner
overflow_add-inner c =
    let entry = c.with_segment-entry.result.now in
    let room =
    found_room c.args.at c.as_bytes.result.now c.format-segment.result.now entry c.as_bytes.ensures.value c.with_segment-entry.ensures.room
    (are_some entry (sym c.is_empty.ensures ∙ c.if-is_empty.false)) in
    omega (arith, room)

pub overflow_add-inner-2 : goal.overflow_add-inner-2
overflow_add-inner-2 c =
    let entry = c.with_segment-entry.result.now in
    let room =
    found_room c.args.at c.as_bytes.result.now c.format-segment.result.now entry c.as_bytes.ensures.value c.with_segment-entry.ensures.room
    (are_some entry (sym c.is_empty.ensures ∙ c.if-is_empty.false)) in
    omega (arith, room)

pub key_in-requires : goal.key_in-requires
key_in-requires c = record {
  sorted = found_sorted c.args.at c.as_bytes.result.now c.format-segment.result.now c.with_segment-entry.result.now c.as_bytes.ensures.value c.with_segment-entry.ensures.sorted;
}

pub returns-in_err-key : goal.returns-in_err-key
returns-in_err-key c =
    let ls = kept_leaves c.args.at c.args.pairs.now in
    let segment = c.format-segment.result.now in
    let entry = c.with_segment-entry.result.now in
    let next = c.args.at + length segment + 1 in
    let is : kept_leaves next entry ≡ inside (decimal c.args.number) ls =
    found_inside c.args.at c.as_bytes.result.now segment entry c.as_bytes.ensures.value c.args.pairs.now c.with_segment-entry.ensures.inside
    ∙ ap (λ s. inside s ls) c.format-segment.ensures.text in
    rw c.from_residual.ensures (no_key c.args.key_name.now c.args.value_name.now (inside (decimal c.args.number) ls) next entry is c.in_err-key.ensures)

pub with_segment-values-requires : goal.with_segment-values-requires
with_segment-values-requires c = record {
  sorted = found_sorted c.args.at c.as_bytes.result.now c.format-segment.result.now c.with_segment-entry.result.now c.as_bytes.ensures.value c.with_segment-entry.ensures.sorted;
}

pub returns-then-is_empty-2 : goal.returns-then-is_empty-2
returns-then-is_empty-2 c =
    let ls = kept_leaves c.args.at c.args.pairs.now in
    let segment = c.format-segment.result.now in
    let entry = c.with_segment-entry.result.now in
    let values = c.with_segment-values.result.now in
    let next = c.args.at + length segment + 1 in
    let deep = next + length c.args.value_name.now + 1 in
    let is : kept_leaves next entry ≡ inside (decimal c.args.number) ls =
    found_inside c.args.at c.as_bytes.result.now segment entry c.as_bytes.ensures.value c.args.pairs.now c.with_segment-entry.ensures.inside
    ∙ ap (λ s. inside s ls) c.format-segment.ensures.text in
    let value_is = found_inside next c.as_bytes-2.result.now c.args.value_name.now values c.as_bytes-2.ensures.value entry c.with_segment-values.ensures.inside in
    no_value c.args.key_name.now c.args.value_name.now (inside (decimal c.args.number) ls) next entry is deep values value_is
    (are_none values (sym c.is_empty-2.ensures ∙ c.if-is_empty-2.true))

pub returns-then-values-entry : goal.returns-then-values-entry
returns-then-values-entry c =
    let ls = kept_leaves c.args.at c.args.pairs.now in
    let segment = c.format-segment.result.now in
    let entry = c.with_segment-entry.result.now in
    let values = c.with_segment-values.result.now in
    let next = c.args.at + length segment + 1 in
    let deep = next + length c.args.value_name.now + 1 in
    let is : kept_leaves next entry ≡ inside (decimal c.args.number) ls =
    found_inside c.args.at c.as_bytes.result.now segment entry c.as_bytes.ensures.value c.args.pairs.now c.with_segment-entry.ensures.inside
    ∙ ap (λ s. inside s ls) c.format-segment.ensures.text in
    let value_is = found_inside next c.as_bytes-2.result.now c.args.value_name.now values c.as_bytes-2.ensures.value entry c.with_segment-values.ensures.inside in
    others c.args.key_name.now c.args.value_name.now (inside (decimal c.args.number) ls) next entry is deep values value_is c.in_ok-key.key.now c.in_ok-key.ensures c.if-values-entry.true

pub overflow_add-result : goal.overflow_add-result
overflow_add-result c =
    let next = c.args.at + length c.format-segment.result.now + 1 in
    let values = c.with_segment-values.result.now in
    let room =
    found_room next c.as_bytes-2.result.now c.args.value_name.now values c.as_bytes-2.ensures.value c.with_segment-values.ensures.room
    (are_some values (sym c.is_empty-2.ensures ∙ c.if-is_empty-2.false)) in
    omega (arith, room)

pub overflow_add-result-2 : goal.overflow_add-result-2
overflow_add-result-2 c =
    let next = c.args.at + length c.format-segment.result.now + 1 in
    let values = c.with_segment-values.result.now in
    let room =
    found_room next c.as_bytes-2.result.now c.args.value_name.now values c.as_bytes-2.ensures.value c.with_segment-values.ensures.room
    (are_some values (sym c.is_empty-2.ensures ∙ c.if-is_empty-2.false)) in
    omega (arith, room)

pub returns : goal.returns
returns c =
    let ls = kept_leaves c.args.at c.args.pairs.now in
    let segment = c.format-segment.result.now in
    let entry = c.with_segment-entry.result.now in
    let values = c.with_segment-values.result.now in
    let next = c.args.at + length segment + 1 in
    let deep = next + length c.args.value_name.now + 1 in
    let is : kept_leaves next entry ≡ inside (decimal c.args.number) ls =
    found_inside c.args.at c.as_bytes.result.now segment entry c.as_bytes.ensures.value c.args.pairs.now c.with_segment-entry.ensures.inside
    ∙ ap (λ s. inside s ls) c.format-segment.ensures.text in
    let value_is = found_inside next c.as_bytes-2.result.now c.args.value_name.now values c.as_bytes-2.ensures.value entry c.with_segment-values.ensures.inside in
    let sorted = found_sorted next c.as_bytes-2.result.now c.args.value_name.now values c.as_bytes-2.ensures.value c.with_segment-values.ensures.sorted in
    let full = are_some values (sym c.is_empty-2.ensures ∙ c.if-is_empty-2.false) in
    let few : length entry ≤ length values + 1 = omega (arith, c.if-values-entry.false) in
    entry_there c.args.key_name.now c.args.value_name.now (inside (decimal c.args.number) ls) next entry is _ c.in_ok-key.ensures value_is sorted full few refl
