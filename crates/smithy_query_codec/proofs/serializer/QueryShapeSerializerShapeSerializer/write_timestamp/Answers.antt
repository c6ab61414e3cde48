use Rattle.std.proofs.Common.{rules}
use Rattle.smithy_query_codec.proofs.serializer.QueryShapeSerializerShapeSerializer.write_timestamp.Goals as goal

pub returns : goal.returns
returns c = record { failed = search rules; broken = search rules; ok = search rules; refused = search rules }
