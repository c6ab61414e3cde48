use Rattle.std.proofs.Common.{arith}
use Rattle.smithy_texts.proofs.Base64Laws.{are_bytes-is}
use Rattle.smithy_cbor_values.proofs.values.holds_bytes.Goals as goal

pub returns : goal.returns
returns c = are_bytes-is c.args.bytes.now (λ i. let fits = c.type_inv.bytes i in omega arith)
