use Rattle.std.proofs.Common.{map, ap, rules}
use Rattle.smithy_wire.specs.OpenContainers.{opens_of}
use Rattle.smithy_query_codec.specs.Serializing.{mark_of, state_of, marks_of}
use Rattle.smithy_query_codec.proofs.LeafWriting.{list_ended}
use Rattle.smithy_query_codec.proofs.serializer.QueryShapeSerializerShapeSerializer.end_list.Goals as goal

pub returns : goal.returns
returns c =
    let self = c.args.self.now in
    record {
      failed = search rules;
      broken = search rules;
      ok = list_ended (state_of self) (state_of (record self { containers = c.begin.new.self })) (state_of c.push_empty_leaf.new.self) (state_of c.restore.new.self)
          (mark_of c.in_ok-ended.ended) _ _ _ _
          (ap (λ k. state_of (record self { containers = k })) c.begin.ensures.begun) c.in_ok-ended.ensures.taken (ap (map mark_of) c.in_ok-ended.ensures.marks)
          c.in_ok-push_empty_leaf.ensures.ok c.restore.ensures.ok (ap opens_of c.succeed.ensures) (ap marks_of c.succeed.ensures);
      refused = search rules;
    }
