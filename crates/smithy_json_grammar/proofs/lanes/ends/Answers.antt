use Rattle.std.proofs.Common.{arith}
use Rattle.std.proofs.lemmas.Simd.{zip2_splat, zip2_splat_left}
use Rattle.smithy_json_grammar.proofs.LaneLemmas.{hit, below, lanes_mask, asked}
use Rattle.smithy_json_grammar.proofs.lanes.ends.Goals as goal

pub returns : goal.returns
returns g c =
    let v = c.args.bytes in
    let long = c.fits-bytes.0 in
    lanes_mask c.args.controls c.args.ascii v _ _ _ _ _ _ (omega (arith, long, c.requires)) c.fits-bytes.1 (zip2_splat hit v _ 34 long) (zip2_splat hit v _ 92 long) (zip2_splat below v _ 32 long) (zip2_splat_left below 127 _ v long)
    (asked c.args.controls v _ long) (asked c.args.ascii v _ long)
