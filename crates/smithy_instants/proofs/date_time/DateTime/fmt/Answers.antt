use Rattle.std.specs.String.{string_bytes}
use Rattle.smithy_instants.specs.declared.format.Format.TheVariants.{DateTime, DateTimeWithOffset, HttpDate, EpochSeconds}
use Rattle.smithy_instants.proofs.ReadBack.{reads_if_ok}
use Rattle.smithy_instants.proofs.date_time.DateTime.fmt.Goals as goal

pub returns-in-DateTime-clause-reads_back : goal.returns-in-DateTime-clause-reads_back
returns-in-DateTime-clause-reads_back c =
    let written = c.date_time_text in
    rw c.in-DateTime.is (reads_if_ok written.result string_bytes DateTime c.args.self.now written.ensures.instant written.ensures.writes.ok)

pub returns-in-DateTimeWithOffset-clause-reads_back : goal.returns-in-DateTimeWithOffset-clause-reads_back
returns-in-DateTimeWithOffset-clause-reads_back c =
    let written = c.date_time_text-in-DateTimeWithOffset in
    rw c.in-DateTimeWithOffset.is (reads_if_ok written.result string_bytes DateTimeWithOffset c.args.self.now written.ensures.instant written.ensures.writes.ok)

pub returns-in-HttpDate-clause-reads_back : goal.returns-in-HttpDate-clause-reads_back
returns-in-HttpDate-clause-reads_back c =
    let written = c.http_date_text in
    rw c.in-HttpDate.is (reads_if_ok written.result string_bytes HttpDate c.args.self.now written.ensures.instant written.ensures.writes.ok)

pub returns-in-EpochSeconds-clause-reads_back : goal.returns-in-EpochSeconds-clause-reads_back
returns-in-EpochSeconds-clause-reads_back c =
    let written = c.epoch_text in
    rw c.in-EpochSeconds.is (reads_if_ok written.result string_bytes EpochSeconds c.args.self.now written.ensures.instant written.ensures.ok)
