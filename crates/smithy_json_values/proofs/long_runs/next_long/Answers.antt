use Rattle.smithy_json_values.proofs.LongRuns.{next_is}
use Rattle.smithy_json_values.proofs.long_runs.next_long.Goals as goal

pub returns : goal.returns
returns c =
    next_is c.args.input.now c.args.at c.in_ok-place.place c.skip_blanks-start.result c.args.entered c.in_ok-place.ensures.separated c.skip_blanks-start.ensures
    c.if-start-input.false c.if-input-start-eq93.false c.read_long.result c.read_long.ensures.found
