use Rattle.std.proofs.Common.{◌∙◌}
use Rattle.smithy_form.proofs.PercentForms.{coded_found}
use Rattle.smithy_form.proofs.percent.has_coded.Goals as goal

pub returns : goal.returns
returns c = c.is_some.ensures ∙ coded_found c.args.side.now c.memchr2.result c.memchr2.ensures
