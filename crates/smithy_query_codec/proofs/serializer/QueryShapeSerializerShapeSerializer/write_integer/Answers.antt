use Rattle.std.proofs.Common.{rules, arith}
use Rattle.std.proofs.lemmas.Grind.{common_steps}
use Rattle.smithy_query_codec.proofs.serializer.QueryShapeSerializerShapeSerializer.write_integer.Goals as goal

pub returns : goal.returns
returns c = record { failed = search rules; broken = search rules; ok = search rules; refused = grind (arith, common_steps) }
