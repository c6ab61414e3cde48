use Rattle.smithy_value.specs.View.{view}
use Rattle.smithy_value.proofs.ReadViews.{member_views-insert}
use Rattle.smithy_value.proofs.value_trees.ValueTreesTrees.set_member.Goals as goal

pub returns-clause-ok : goal.returns-clause-ok
returns-clause-ok c = rw c.in_ok-insert.ensures.entries (member_views-insert view c.args.members.now.entries c.args.index c.args.value)
