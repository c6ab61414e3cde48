use Rattle.std.proofs.Common.{append_assoc, arith}
use Rattle.itoa.proofs.Decimal.{decimal_pair}
use Rattle.smithy_json_codec.proofs.digits.push_short.Goals as goal

pub returns : goal.returns
returns c = rw (c.push_pair.ensures.digits, c.push_front-2.ensures.digits, decimal_pair c.args.n c.if-n-lt100.false (omega (arith, c.requires.below)), append_assoc)
