use Rattle.std.proofs.Common.{◌≡◌, true, false, sym, ◌∙◌, inl}
use Rattle.std.specs.Cow.{cow_str_bytes}
use Rattle.smithy_shapes.specs.Site.{site_of, kind_at}
use Rattle.smithy_cbor_codec.specs.Private.PassedEntries.{passes_null}
use Rattle.smithy_cbor_codec.proofs.PassedEntryLemmas.{unmarked}
use Rattle.smithy_cbor_codec.proofs.members.entry_at.Goals as goal

pub returns-then-passes_null : goal.returns-then-passes_null
returns-then-passes_null c =
    let pair = rw (c.in-Some-Pair.is, c.in-Some-Pair.field-0-is) at c.in_ok-key.ensures.found in
    let passes : passes_null c.args.drops_nulls (kind_at (site_of c.args.schema.now)) c.as_str.result.now ≡ true = sym c.passes_null.ensures ∙ c.if-passes_null.true in
    record { text = cow_str_bytes c.in-Some-Pair.key; value = c.in-Some-Pair.value; key = pair; passed = inl (rw c.as_str.ensures.value at passes, c.in-Some.ensures.found) }

pub returns-in-Some : goal.returns-in-Some
returns-in-Some c =
    let pair = rw (c.in-Some-Pair.is, c.in-Some-Pair.field-0-is) at c.in_ok-key.ensures.found in
    let stays : passes_null c.args.drops_nulls (kind_at (site_of c.args.schema.now)) c.as_str.result.now ≡ false = sym c.passes_null.ensures ∙ c.if-passes_null.false in
    let kept : passes_null c.args.drops_nulls (kind_at (site_of c.args.schema.now)) (cow_str_bytes c.in-Some-Pair.key) ≡ false = rw c.as_str.ensures.value at stays in
    (pair, (unmarked c.args.drops_nulls (kind_at (site_of c.args.schema.now)) (cow_str_bytes c.in-Some-Pair.key) kept, λ e null. kept))
