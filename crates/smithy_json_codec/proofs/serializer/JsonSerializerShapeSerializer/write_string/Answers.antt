use Rattle.std.proofs.Common.{arith, rules}
use Rattle.std.proofs.lemmas.Grind.{common_steps}
use Rattle.smithy_json_codec.proofs.serializer.JsonSerializerShapeSerializer.write_string.Goals as goal
use Rattle.smithy_json_codec.proofs.serializer.JsonSerializerShapeSerializer.write_string.Goals.{in_default-via-in-Some+in_default, in_default-via-in_default}

pub write_key-requires : goal.write_key-requires
write_key-requires c = grind (arith, common_steps)

pub returns-in_default : goal.returns-in_default
returns-in_default c = record {
  failed = search rules;
  broken = search rules;
  ok = search rules;
  refused = elim c.in_default.branch [
    | in_default-via-in-Some+in_default w ↦ grind (arith, common_steps)
    | in_default-via-in_default w ↦ grind (arith, common_steps)
  ];
}
