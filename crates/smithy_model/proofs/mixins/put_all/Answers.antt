use Rattle.std.proofs.Common.{◌∙◌, map}
use Rattle.smithy_model.specs.Mixins.{with_member}
use Rattle.smithy_model.specs.Views.{member_view}
use Rattle.smithy_model.proofs.Put.{fold_more, agree_next}
use Rattle.smithy_model.proofs.mixins.put_all.Goals as goal

pub loop-member-preserved : goal.loop-member-preserved
loop-member-preserved c =
    let first = map member_view c.args.members.now.items in
    let so_far = map member_view c.loop-member.members.items in
    let held = c.loop-member.invariant in
    record {
      put = c.in_ok-put.ensures.put
          ∙ fold_more with_member member_view first so_far c.args.more.now c.loop-member.member-index _ c.loop-member-test.true held.put;
      agree = agree_next member_view first so_far c.args.more.now c.loop-member.member-index _ c.loop-member.agrees c.both-agrees.result c.in_ok-put.field-0
          c.loop-member-test.true held.put held.agree c.in_ok-put.ensures.agrees c.both-agrees.ensures;
      places = c.in_ok-put.ensures.places;
    }
