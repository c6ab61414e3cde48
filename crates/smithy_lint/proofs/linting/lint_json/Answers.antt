use Rattle.std.proofs.Common.{sym, ◌∙◌}
use Rattle.smithy_transcode.specs.Wires.{json}
use Rattle.smithy_lint.proofs.Lintings.{emptied, filled, empty_json, text_lints, refused}
use Rattle.smithy_lint.proofs.linting.lint_json.Goals as goal

pub returns-then-is_empty : goal.returns-then-is_empty
returns-then-is_empty c =
    empty_json c.args.shapes.now c.args.root.0 c.args.use_json_name c.args.integral c.args.body.now c.requires.root (emptied c.args.body.now (sym c.is_empty.ensures ∙ c.if-is_empty.true)) c.new.result c.new.ensures.items

pub returns-in-Err : goal.returns-in-Err
returns-in-Err c =
    refused c.args.shapes.now c.args.root.0 (json c.args.use_json_name c.args.integral) c.args.body.now c.in-Err.error c.in-Err.ensures.refused
    (filled c.args.body.now (sym c.is_empty.ensures ∙ c.if-is_empty.false))

pub returns-in-Ok-findings_of : goal.returns-in-Ok-findings_of
returns-in-Ok-findings_of c =
    text_lints c.args.shapes.now c.args.root.0 c.args.use_json_name c.args.integral c.args.body.now c.in-Ok.text c.in-Ok.ensures.ok c.in-Ok-findings_of.found c.in-Ok-findings_of.ensures
