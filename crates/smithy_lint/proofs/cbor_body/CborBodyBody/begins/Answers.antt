use Rattle.std.proofs.Common.{sym, ◌∙◌}
use Rattle.smithy_lint.proofs.CborBodies.{value_within, begins_null, begins_array, begins_map}
use Rattle.smithy_lint.proofs.cbor_body.CborBodyBody.begins.Goals as goal

pub is_null_at-requires : goal.is_null_at-requires
is_null_at-requires c = value_within c.args.self.now.bytes.now c.requires.there.0 c.args.at c.requires.there.1

pub returns-then-is_null_at : goal.returns-then-is_null_at
returns-then-is_null_at c = begins_null c.args.self.now.bytes.now c.args.at (sym c.is_null_at.ensures ∙ c.if-is_null_at.true)

pub array_at-requires : goal.array_at-requires
array_at-requires c = value_within c.args.self.now.bytes.now c.requires.there.0 c.args.at c.requires.there.1

pub returns-in-Some : goal.returns-in-Some
returns-in-Some c =
    begins_array c.args.self.now.bytes.now c.args.at c.in-Some.array.inside c.in-Some.array.due c.mark.result c.mark.ensures c.in-Some.ensures.found

pub map_at-requires : goal.map_at-requires
map_at-requires c = value_within c.args.self.now.bytes.now c.requires.there.0 c.args.at c.requires.there.1

pub returns-in-Some-map_at : goal.returns-in-Some-map_at
returns-in-Some-map_at c =
    begins_map c.args.self.now.bytes.now c.args.at c.in-Some-map_at.map.inside c.in-Some-map_at.map.due c.mark-in-Some-map_at.result c.mark-in-Some-map_at.ensures
    c.in-Some-map_at.ensures.found
