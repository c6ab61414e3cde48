use Rattle.std.proofs.Common.{◌≡◌, List, map, true, ap, subst, sym}
use Rattle.smithy_shapes.specs.Site.{site_of}
use Rattle.smithy_schema.specs.Writing.{Open, after_text}
use Rattle.smithy_wire.specs.OpenContainers.{opens_of}
use Rattle.smithy_query_codec.specs.Writing.{has_room}
use Rattle.smithy_query_codec.specs.Serializing.{mark_of, state_of, marks_of}
use Rattle.smithy_query_codec.proofs.LeafWriting.{leaf_written}
use Rattle.smithy_query_codec.proofs.serializer.QueryShapeSerializer.write_key.Goals as goal

pub returns-clause-ok : goal.returns-clause-ok
returns-clause-ok c =
    let self = c.args.self.now in
    let view = (site_of c.args.schema.now).view in
    let begun = c.begin.ensures.begun in
    let can : has_room (opens_of self.containers) self.count ≡ true =
    subst (λ (os : List Open). has_room os self.count ≡ true) (ap opens_of begun) (sym c.if-not-has_room.ensures) in
    leaf_written (state_of self) _ (state_of c.push_leaf.new.self) view c.args.key.now _ after_text _ _ _ _
    (ap (λ k. state_of (record self { containers = k })) begun) can c.in_ok-push_leaf.ensures.ok
    c.in_ok-pass_text.ensures.taken (ap (map mark_of) c.in_ok-pass_text.ensures.marks) (ap opens_of c.succeed.ensures) (ap marks_of c.succeed.ensures)
