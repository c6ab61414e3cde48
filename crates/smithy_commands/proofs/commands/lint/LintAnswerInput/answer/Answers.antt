use Rattle.std.proofs.Common.{map as mapped}
use Rattle.smithy_lint.specs.View.{found_of}
use Rattle.smithy_commands.specs.Lint.{lint_view}
use Rattle.smithy_commands.proofs.LintLemmas.{findings_given, found_tells}
use Rattle.smithy_commands.proofs.commands.lint.LintAnswerInput.answer.Goals as goal

pub returns-clause-given : goal.returns-clause-given
returns-clause-given c =
    let command = lint_view c.args.self.now in
    let table = c.args.table.now in
    let root = c.args.root.0 in
    let input = c.args.input.now in
    let findings = c.in_ok-findings.findings in
    let told = rw c.in_ok-wire.ensures at c.in_ok-findings.ensures in
    let is = rw c.deref.ensures.value at c.status_of.ensures in
    let lines = rw c.deref-2.ensures.value at c.in_ok-lines_of.ensures in (
      rw is (found_tells command table root input (mapped found_of findings.items)),
      findings_given command table root input findings c.status_of.result c.in_ok-lines_of.field-0.items told is lines,
    )
