use Rattle.std.proofs.Common.{◌≡◌, ◌&&◌, List, map, true, ap, subst, sym, arith}
use Rattle.std.proofs.lemmas.Grind.{common_steps}
use Rattle.smithy_shapes.specs.Site.{site_of}
use Rattle.smithy_schema.specs.Writing.{Open, after_value}
use Rattle.smithy_wire.specs.OpenContainers.{opens_of}
use Rattle.smithy_query_codec.specs.Writing.{is_placed, has_room}
use Rattle.smithy_query_codec.specs.Serializing.{mark_of, state_of, marks_of}
use Rattle.smithy_query_codec.proofs.LeafWriting.{leaf_written}
use Rattle.smithy_query_codec.proofs.serializer.QueryShapeSerializer.write_text.Goals as goal

pub returns-clause-ok : goal.returns-clause-ok
returns-clause-ok c =
    let self = c.args.self.now in
    let view = (site_of c.args.schema.now).view in
    let begun = c.begin.ensures.begun in
    let can : (is_placed (opens_of self.containers) view && has_room (opens_of self.containers) self.count) ≡ true =
    subst (λ (os : List Open). (is_placed os view && has_room os self.count) ≡ true) (ap opens_of begun) (rw (sym c.if-not-is_placed.ensures) (sym c.if-not-has_room.ensures)) in
    leaf_written (state_of self) _ (state_of c.push_leaf.new.self) view c.args.text.now _ after_value _ _ _ _
    (ap (λ k. state_of (record self { containers = k })) begun) can c.in_ok-push_leaf.ensures.ok
    c.in_ok-pass_value.ensures.taken (ap (map mark_of) c.in_ok-pass_value.ensures.marks) (ap opens_of c.succeed.ensures) (ap marks_of c.succeed.ensures)

pub push_leaf-requires : goal.push_leaf-requires
push_leaf-requires c = grind (arith, common_steps)
