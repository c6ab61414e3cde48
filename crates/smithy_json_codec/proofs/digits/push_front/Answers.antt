use Rattle.std.proofs.lemmas.Fmt.{decimal_digit}
use Rattle.itoa.proofs.Decimal.{decimal_two}
use Rattle.smithy_json_codec.proofs.digits.push_front.Goals as goal

pub returns-then-n-ge10-clause-digits : goal.returns-then-n-ge10-clause-digits
returns-then-n-ge10-clause-digits c = rw (c.push_pair.ensures.digits, decimal_two c.args.n c.if-n-ge10.true c.requires.below)

pub returns-clause-digits : goal.returns-clause-digits
returns-clause-digits c = rw (c.push_reserved.ensures.items, c.digit.ensures, decimal_digit c.args.n c.if-n-ge10.false)
