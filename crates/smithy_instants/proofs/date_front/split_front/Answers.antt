use Rattle.std.proofs.Common.{◌≤◌, length, true, false, sym, ap, subst, ◌∙◌}
use Rattle.smithy_instants.specs.Private.FrontLength.{date_time_length, http_date_length}
use Rattle.smithy_instants.proofs.DelimiterLemmas.{front_within, date_time_front, http_date_front}
use Rattle.smithy_instants.proofs.date_front.split_front.Goals as goal

pub returns-in_err-date_time_length-in-DateTime-clause-only : goal.returns-in_err-date_time_length-in-DateTime-clause-only
returns-in_err-date_time_length-in-DateTime-clause-only c = λ front rest d has.
    let within = front_within c.args.delim c.args.s.now front rest has.delimited in
    let size = date_time_front false c.args.delim c.args.s.now front rest d has.delimited (rw c.in-DateTime.is at has.means) in
    let text = c.as_bytes-text.ensures.value in
    let fits : date_time_length false c.args.s.now ≤ length c.args.s.now = subst (λ n. n ≤ length c.args.s.now) (sym size) within.fits in
    absurd (c.in_err-date_time_length-in-DateTime.ensures (rw text fits))

pub returns-in_ok-date_time_length-in-DateTime-clause-only : goal.returns-in_ok-date_time_length-in-DateTime-clause-only
returns-in_ok-date_time_length-in-DateTime-clause-only c = λ front rest d has.
    let size = date_time_front false c.args.delim c.args.s.now front rest d has.delimited (rw c.in-DateTime.is at has.means) in
    c.split_after.ensures.only front rest (sym size ∙ ap (date_time_length false) (sym c.as_bytes-text.ensures.value) ∙ sym c.in_ok-date_time_length-in-DateTime.ensures.1) has.is_text has.delimited

pub returns-in_err-date_time_length-in-DateTimeWithOffset-clause-only : goal.returns-in_err-date_time_length-in-DateTimeWithOffset-clause-only
returns-in_err-date_time_length-in-DateTimeWithOffset-clause-only c = λ front rest d has.
    let within = front_within c.args.delim c.args.s.now front rest has.delimited in
    let size = date_time_front true c.args.delim c.args.s.now front rest d has.delimited (rw c.in-DateTimeWithOffset.is at has.means) in
    let text = c.as_bytes-text.ensures.value in
    let fits : date_time_length true c.args.s.now ≤ length c.args.s.now = subst (λ n. n ≤ length c.args.s.now) (sym size) within.fits in
    absurd (c.in_err-date_time_length-in-DateTimeWithOffset.ensures (rw text fits))

pub returns-in_ok-date_time_length-in-DateTimeWithOffset-clause-only : goal.returns-in_ok-date_time_length-in-DateTimeWithOffset-clause-only
returns-in_ok-date_time_length-in-DateTimeWithOffset-clause-only c = λ front rest d has.
    let size = date_time_front true c.args.delim c.args.s.now front rest d has.delimited (rw c.in-DateTimeWithOffset.is at has.means) in
    c.split_after-in-DateTimeWithOffset.ensures.only front rest (sym size ∙ ap (date_time_length true) (sym c.as_bytes-text.ensures.value) ∙ sym c.in_ok-date_time_length-in-DateTimeWithOffset.ensures.1) has.is_text has.delimited

pub returns-in_err-http_date_length-in-HttpDate-clause-only : goal.returns-in_err-http_date_length-in-HttpDate-clause-only
returns-in_err-http_date_length-in-HttpDate-clause-only c = λ front rest d has.
    let within = front_within c.args.delim c.args.s.now front rest has.delimited in
    let size = http_date_front c.args.delim c.args.s.now front rest d has.delimited (rw c.in-HttpDate.is at has.means) in
    let text = c.as_bytes-text.ensures.value in
    let fits : http_date_length c.args.s.now ≤ length c.args.s.now = subst (λ n. n ≤ length c.args.s.now) (sym size) within.fits in
    absurd (c.in_err-http_date_length-in-HttpDate.ensures (rw text fits))

pub returns-in_ok-http_date_length-in-HttpDate-clause-only : goal.returns-in_ok-http_date_length-in-HttpDate-clause-only
returns-in_ok-http_date_length-in-HttpDate-clause-only c = λ front rest d has.
    let size = http_date_front c.args.delim c.args.s.now front rest d has.delimited (rw c.in-HttpDate.is at has.means) in
    c.split_after-in-HttpDate.ensures.only front rest (sym size ∙ ap (http_date_length) (sym c.as_bytes-text.ensures.value) ∙ sym c.in_ok-http_date_length-in-HttpDate.ensures.1) has.is_text has.delimited

pub returns-in-EpochSeconds-clause-only : goal.returns-in-EpochSeconds-clause-only
returns-in-EpochSeconds-clause-only c = λ front rest d has. c.split_first.ensures.only front rest (rw c.in-EpochSeconds.is at has.in_time) has.delimited
