use Rattle.std.proofs.Common.{◌≡◌, ◌+◌, arith, sym, ◌∙◌, true}
use Rattle.std.specs.Int.{is_in_range}
use Rattle.std.proofs.lemmas.Bool.Decides.{nat_tests}
use Rattle.std.proofs.lemmas.Result.{err_from_is_err_and}
use Rattle.cbor_item.specs.HeadView.{head_read}
use Rattle.smithy_lint.proofs.CborEnds.{no_head, skipped, array_ends, map_ends, tag_ends, too_many, half_steps, half_ends, half_breaks, half_fails, half_smaller, entry_fails, pair_ends}
use Rattle.smithy_lint.proofs.cbor_end.+nest.Goals as goal

pub entries_end-returns-in-None : goal.entries_end-returns-in-None
entries_end-returns-in-None t c =
    half_breaks c.args.is_map c.args.due c.args.bytes.now c.args.at c.args.outer c.entries.due c.entries.at c.entries.invariant c.in-None.ensures

pub entries_end-returns-in-Some-End : goal.entries_end-returns-in-Some-End
entries_end-returns-in-Some-End t c =
    half_ends c.args.is_map c.args.due c.args.bytes.now c.args.at c.args.outer c.entries.due c.entries.at c.in-Some-End.end c.requires.shallow c.entries.invariant
    (rw c.in-Some-End.field-0-is at c.in-Some-End.ensures)

pub entries_end-returns-in_err-at-in-Some-Entry : goal.entries_end-returns-in_err-at-in-Some-Entry
entries_end-returns-in_err-at-in-Some-Entry t c =
    let p = err_from_is_err_and c.from_residual.result c.from_residual.ensures.1 in
    rw (p.1, p.2)
    (half_fails c.args.is_map c.args.due c.args.bytes.now c.args.at c.args.outer c.entries.due c.in-Some-Entry.left c.entries.at c.in_err-at-in-Some-Entry.field-0.0 c.entries.invariant
    (rw c.in-Some-Entry.field-0-is at c.in-Some-Entry.ensures) c.in_err-at-in-Some-Entry.ensures)

pub entries_end-entries-smaller : goal.entries_end-entries-smaller
entries_end-entries-smaller t c =
    half_smaller c.args.is_map c.args.bytes.now c.args.outer c.entries.at c.in_ok-at-in-Some-Entry.at c.in_ok-at-in-Some-Entry.ensures

pub entries_end-entries-preserved : goal.entries_end-entries-preserved
entries_end-entries-preserved t c =
    let (k, here, fits) = c.in_ok-at-in-Some-Entry.ensures in
    half_steps c.args.is_map c.args.due c.args.bytes.now c.args.at c.args.outer c.entries.due c.in-Some-Entry.left c.entries.at k c.in_ok-at-in-Some-Entry.at c.entries.invariant
    (rw c.in-Some-Entry.field-0-is at c.in-Some-Entry.ensures) here fits

pub entry_end-returns-in_err-end : goal.entry_end-returns-in_err-end
entry_end-returns-in_err-end t c =
    let p = err_from_is_err_and c.from_residual.result c.from_residual.ensures.1 in
    rw (p.1, p.2) (entry_fails c.args.is_map c.args.bytes.now c.args.at c.args.outer c.in_err-end.field-0.0 c.in_err-end.ensures)

pub entry_end-returns-then-is_map : goal.entry_end-returns-then-is_map
entry_end-returns-then-is_map t c =
    rw c.if-is_map.true
    (pair_ends c.args.bytes.now c.args.at c.args.outer c.in_ok-end.end c.item_end-then-is_map.result c.in_ok-end.ensures c.item_end-then-is_map.ensures)

pub item_end-returns-in_default : goal.item_end-returns-in_default
item_end-returns-in_default t c n e x = no_head c.args.bytes.now c.args.at c.read_head.result c.read_head.ensures c.in_default.not-Ok x.0 e x.1

pub item_end-returns-then-not-opens_items : goal.item_end-returns-then-not-opens_items
item_end-returns-then-not-opens_items t c =
    skipped c.args.bytes.now c.args.at c.args.outer (head_read c.in-Ok.head) c.skipped_end.result c.requires.shallow c.in-Ok.ensures.found
    (sym c.opens_items.ensures ∙ c.if-not-opens_items.true) c.skipped_end.ensures.found c.skipped_end.ensures.fault

pub item_end-returns-then-outer-ge-MAX_NESTING : goal.item_end-returns-then-outer-ge-MAX_NESTING
item_end-returns-then-outer-ge-MAX_NESTING t c =
    too_many c.args.bytes.now c.args.at c.args.outer (head_read c.in-Ok.head) c.in-Ok.ensures.found
    (sym c.opens_items.ensures ∙ c.if-not-opens_items.false) (omega (arith, c.if-outer-ge-MAX_NESTING.true))

pub item_end-returns-in-4 : goal.item_end-returns-in-4
item_end-returns-in-4 t c =
    array_ends c.args.bytes.now c.args.at c.args.outer (head_read c.in-Ok.head) c.entries_end.result (c.args.at + c.in-Ok.head.length) c.in-Ok.ensures.found
    (omega arith) c.in-4.is (rw c.from.ensures at c.entries_end.ensures)

pub item_end-returns-in-5 : goal.item_end-returns-in-5
item_end-returns-in-5 t c =
    map_ends c.args.bytes.now c.args.at c.args.outer (head_read c.in-Ok.head) c.entries_end-in-5.result (c.args.at + c.in-Ok.head.length) c.in-Ok.ensures.found
    (omega arith) c.in-5.is (rw c.from.ensures at c.entries_end-in-5.ensures)

pub item_end-returns-in_default-major : goal.item_end-returns-in_default-major
item_end-returns-in_default-major t c =
    tag_ends c.args.bytes.now c.args.at c.args.outer (head_read c.in-Ok.head) c.item_end.result (c.args.at + c.in-Ok.head.length) c.in-Ok.ensures.found
    (omega arith) (let type : is_in_range 4 6 c.in-Ok.head.major ≡ true = sym c.opens_items.ensures ∙ c.if-not-opens_items.false in grind (arith, nat_tests)) (rw c.from.ensures at c.item_end.ensures)
