use Rattle.std.proofs.Common.{arith, refl}
use Rattle.smithy_shapes.specs.Site.{site_of}
use Rattle.smithy_shapes.specs.MembersLeft.{members_left}
use Rattle.smithy_shapes.proofs.MembersLemmas.{none_left, one_left, one_fewer}
use Rattle.smithy_shapes.proofs.members_iter.MembersIterator.next.Goals as goal

pub returns-then-self-clause-steps : goal.returns-then-self-clause-steps
returns-then-self-clause-steps c =
    let old = c.args.self.now in
    let none = none_left (site_of old.schema) old.position (omega (arith, old.counted, c.if-self.true)) in
    (none, none)

pub returns-clause-steps : goal.returns-clause-steps
returns-clause-steps c =
    let old = c.args.self.now in
    one_left site_of (site_of old.schema) old.position c.member_at-member.result c.member_at-member.ensures (omega (arith, old.counted, old.not_past_end, c.if-self.false))

pub returns-clause-goes : goal.returns-clause-goes
returns-clause-goes c =
    let old = c.args.self.now in
    one_fewer site_of (site_of old.schema) old.position c.member_at-member.result c.member_at-member.ensures (omega (arith, old.counted, old.not_past_end, c.if-self.false)) members_left _ _ refl refl
