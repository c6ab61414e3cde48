use Rattle.std.proofs.Common.{map as mapped, drop}
use Rattle.std.proofs.lemmas.List.{drop_all}
use Rattle.smithy_lint.specs.View.{found_of}
use Rattle.smithy_commands.proofs.FindingLines.{begun, line_written, all_written}
use Rattle.smithy_commands.proofs.commands.lint.lines_of.Goals as goal

pub loop-finding-init : goal.loop-finding-init
loop-finding-init c = begun c.args.table.now c.args.root.0 (mapped found_of c.args.findings.now) c.new-lines.result.items c.new-lines.ensures.items

pub loop-finding-preserved : goal.loop-finding-preserved
loop-finding-preserved c =
    let path = c.deref.ensures.value in
    let text = c.in_ok-path_text.ensures in
    let bytes = c.as_bytes.ensures.value in
    let first = c.in_ok-extend_from_slice.ensures.items in
    let word = c.word.ensures in
    let letters = c.as_bytes-in-loop-finding.ensures.value in
    let third = c.in_ok-extend_from_slice-3.ensures.items in
    line_written c.args.table.now c.args.root.0 found_of c.args.findings.now c.loop-finding.finding-index c.finding-item.result _ c.loop-finding.lines.items
    c.extend_from_slice.new.self.items c.extend_from_slice-in-loop-finding.new.self.items c.extend_from_slice-in-loop-finding-2.new.self.items
    c.extend_from_slice-in-loop-finding-3.new.self.items c.loop-finding-test.true c.finding-item.is c.loop-finding.invariant
    (cc (path, text, bytes, first)) c.in_ok-extend_from_slice-2.ensures.items (cc (word, letters, third)) c.in_ok-extend_from_slice-4.ensures.items

pub returns : goal.returns
returns c =
    all_written c.args.table.now c.args.root.0 found_of (drop c.loop-finding.finding-index c.args.findings.now) _ c.loop-finding.lines.items
    (drop_all c.loop-finding.finding-index c.args.findings.now c.loop-finding-test.false) c.loop-finding.invariant
