use Rattle.std.proofs.Common.{rules}
use Rattle.smithy_shapes.specs.Site.{site_of}
use Rattle.smithy_protocol.proofs.CanonicalBodies.{query_canonical}
use Rattle.smithy_protocol.proofs.aws_query.form_request.Goals as goal

pub returns-clause-canonical : goal.returns-clause-canonical
returns-clause-canonical g c =
    query_canonical g.V.SerializableStruct.adds (site_of c.args.input_schema.now) c.args.input.now c.args.action.now c.args.version.now c.in_ok-request.request.body.items (search rules)
