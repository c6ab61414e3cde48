use Rattle.std.proofs.Common.{refl}
use Rattle.smithy_json_values.specs.Codec.{held_grammar}
use Rattle.smithy_wire.specs.Node.{as_array, as_object}
use Rattle.smithy_lint.proofs.JsonNodes.{container_begun, null_begun, scalar_begun}
use Rattle.smithy_lint.proofs.json_body.JsonBodyBody.begins.Goals as goal

pub returns-in-Some : goal.returns-in-Some
returns-in-Some c = container_begun (held_grammar c.args.self.now.settings) c.args.self.now.bytes.now as_array c.args.at c.in-Some.inside _ refl c.in-Some.ensures.found

pub returns-in-Some-byte_end : goal.returns-in-Some-byte_end
returns-in-Some-byte_end c = container_begun (held_grammar c.args.self.now.settings) c.args.self.now.bytes.now as_object c.args.at c.in-Some-byte_end.inside _ refl c.in-Some-byte_end.ensures.found

pub returns-in-Some-null_end : goal.returns-in-Some-null_end
returns-in-Some-null_end c = null_begun (held_grammar c.args.self.now.settings) c.args.self.now.bytes.now c.args.at c.in-Some-null_end.end c.in-Some-null_end.ensures.found

pub returns-in-None : goal.returns-in-None
returns-in-None c = scalar_begun (held_grammar c.args.self.now.settings) c.args.self.now.bytes.now c.args.at c.in_default.ensures.none c.in_default-byte_end.ensures.none c.in-None.ensures.none
