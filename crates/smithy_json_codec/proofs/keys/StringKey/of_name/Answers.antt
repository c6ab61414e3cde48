use Rattle.smithy_json_codec.proofs.KeyLemmas.{owned_means}
use Rattle.smithy_json_codec.proofs.keys.StringKey.of_name.Goals as goal

pub returns : goal.returns
returns c = owned_means c.args._at c.args.raw.now c.owned_text.result c.owned_text.ensures
