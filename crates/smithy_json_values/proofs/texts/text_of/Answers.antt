use Rattle.std.proofs.Common.{ap, ◌∙◌, sym}
use Rattle.std.specs.Result.{result_ok}
use Rattle.smithy_json_values.proofs.TextLemmas.{without_escape}
use Rattle.smithy_json_values.proofs.texts.text_of.Goals as goal

pub returns-then-not-is_escaped-clause-text : goal.returns-then-not-is_escaped-clause-text
returns-then-not-is_escaped-clause-text c = ap result_ok (without_escape c.args.raw.now (sym c.requires ∙ c.if-not-is_escaped.true))
