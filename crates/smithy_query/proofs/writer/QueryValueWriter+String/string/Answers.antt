use Rattle.std.proofs.Common.{arith}
use Rattle.std.proofs.lemmas.List.Elements.{All-from_get_or}
use Rattle.percent_encoding.proofs.PercentLemmas.{IsByte}
use Rattle.smithy_query.proofs.SplitLemmas.{decode_text}
use Rattle.smithy_query.proofs.writer.QueryValueWriter+String.string.Goals as goal

pub returns-clause-decodes : goal.returns-clause-decodes
returns-clause-decodes c =
    let text = c.args.value.now in
    decode_text text (All-from_get_or IsByte text 0 (λ i within. omega (arith, c.type_inv.value i)))
