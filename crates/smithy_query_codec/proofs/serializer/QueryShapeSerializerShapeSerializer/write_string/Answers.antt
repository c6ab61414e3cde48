use Rattle.std.proofs.Common.{arith}
use Rattle.std.proofs.lemmas.Grind.{common_steps}
use Rattle.smithy_query_codec.proofs.serializer.QueryShapeSerializerShapeSerializer.write_string.Goals as goal

pub write_key-requires : goal.write_key-requires
write_key-requires c = grind (arith, common_steps)
