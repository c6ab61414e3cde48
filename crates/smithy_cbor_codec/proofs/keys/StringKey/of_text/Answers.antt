use Rattle.smithy_cbor_codec.proofs.SpanLemmas.{owned_text}
use Rattle.smithy_cbor_codec.proofs.keys.StringKey.of_text.Goals as goal

pub returns : goal.returns
returns c = owned_text c.args._end c.args.text c.into_owned.result c.into_owned.ensures.ok
