use Rattle.smithy_cbor_values.proofs.SizeLemmas.{array_size, map_size, no_size}
use Rattle.smithy_cbor_values.proofs.container_size.container_size_at.Goals as goal

pub returns-in-Some : goal.returns-in-Some
returns-in-Some c = array_size c.args.input.now c.args.at c.in-Some.array.inside c.in-Some.array.due _ c.in-Some.ensures.found c.size_within.ensures

pub returns-in_err-map : goal.returns-in_err-map
returns-in_err-map c =
    rw c.from_residual.ensures (no_size c.args.input.now c.args.at c.in_default.ensures.none c.in_err-map.ensures.none)

pub returns : goal.returns
returns c = map_size c.args.input.now c.args.at c.in_ok-map.map.inside c.in_ok-map.map.due _ c.in_ok-map.ensures.found c.size_within-2.ensures
