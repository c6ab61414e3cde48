use Rattle.std.proofs.Common.{arith}
use Rattle.std.proofs.lemmas.Grind.{common_steps}
use Rattle.smithy_instants.proofs.written_date.push_http_date.Goals as goal

pub weekday_name-requires : goal.weekday_name-requires
weekday_name-requires c = grind (arith, common_steps)

pub push_two-requires : goal.push_two-requires
push_two-requires c = grind (arith, common_steps)

pub month_name-requires : goal.month_name-requires
month_name-requires c = grind (arith, common_steps)

pub push_four-requires : goal.push_four-requires
push_four-requires c = grind (arith, common_steps)

pub push_clock-requires : goal.push_clock-requires
push_clock-requires c = grind (arith, common_steps)
