use Rattle.std.proofs.Common.{arith}
use Rattle.smithy_shapes.specs.Site.{site_of, kind_at}
use Rattle.smithy_cbor_codec.proofs.PassedEntryLemmas.{passed_one, pass_place}
use Rattle.smithy_cbor_codec.proofs.members.next_present.Goals as goal

pub loop-end-smaller : goal.loop-end-smaller
loop-end-smaller c =
    let gone = rw (c.in-Some-Passed.is, c.in-Some-Passed.field-0-is) at c.in_ok-end.ensures in
    let place = pass_place c.args.drops_nulls (kind_at (site_of c.args.schema.now)) c.args.input.now c.args.depth c.loop-end.at c.loop-end.due c.in-Some-Passed.end c.in-Some-Passed.after gone in
    omega (arith, place.0, place.1)

pub loop-end-preserved : goal.loop-end-preserved
loop-end-preserved c =
    let gone = rw (c.in-Some-Passed.is, c.in-Some-Passed.field-0-is) at c.in_ok-end.ensures in
    let kind = kind_at (site_of c.args.schema.now) in
    let passes = c.loop-end.invariant.passes in
    record {
      within = (pass_place c.args.drops_nulls kind c.args.input.now c.args.depth c.loop-end.at c.loop-end.due c.in-Some-Passed.end c.in-Some-Passed.after gone).1;
      passes = passed_one c.args.drops_nulls kind c.args.input.now c.args.depth c.args.at c.args.due passes.0 c.loop-end.at c.loop-end.due passes.1 c.in-Some-Passed.end c.in-Some-Passed.after gone;
    }
