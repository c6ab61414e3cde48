-- The array under tag 4.
use Rattle.std.proofs.Common.{rules}
use Rattle.std.proofs.lemmas.Result.{IfOk-weaker}
use Rattle.smithy_cbor.proofs.DecimalLemmas.{decimal_there}
use Rattle.smithy_cbor.proofs.decimal.decimal_at.Goals as goal

pub returns : goal.returns
returns c =
    record {
      found = IfOk-weaker c.pair_at.result _ _
          (λ parts found. (found.0, decimal_there parts.0 found.0 c.args.input.now c.args.at c.in_ok-body.body parts.2 c.in_ok-body.ensures.found found.1, found.2)) c.pair_at.ensures.found;
      fits = c.pair_at.ensures.fits;
      refused = search rules;
    }
