use Rattle.std.proofs.Common.{◌≡◌, ◌++◌, length}
use Rattle.percent_encoding.specs.Percent.{percent_decode}
use Rattle.smithy_form.specs.Forms.{has_whole_escapes, spaced}
use Rattle.smithy_form.proofs.percent.decoded_bytes.Given as goal

-- what was decoded and what is left are the side
abbrev pub invariant-loop-rest : goal.invariant-loop-rest
invariant-loop-rest l = record {
  decoded : l.bytes.items ++ percent_decode (spaced l.rest) ≡ percent_decode (spaced l.side);
  whole : has_whole_escapes l.rest ≡ has_whole_escapes l.side;
}

abbrev pub decreases-loop-rest : goal.decreases-loop-rest
decreases-loop-rest l = length l.rest
