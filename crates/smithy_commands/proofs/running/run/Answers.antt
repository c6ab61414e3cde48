use Rattle.smithy_commands.proofs.running.run.Goals as goal

pub returns : goal.returns
returns g c = record {
  status = c.status_of-status.result;
  has_code = c.code.ensures;
  says = c.status_of-status.ensures;
  err_is_untouched = c.report.ensures.untouched;
  err_took_the_line = c.report.ensures.line;
}
