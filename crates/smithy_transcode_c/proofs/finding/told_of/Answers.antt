use Rattle.std.proofs.Common.{drop, length}
use Rattle.std.proofs.lemmas.List.{drop_all}
use Rattle.smithy_lint.specs.Findings.{Found}
use Rattle.smithy_lint.specs.View.{found_of}
use Rattle.smithy_transcode_c.specs.Finding.{path_of_finding}
use Rattle.smithy_transcode_c.specs.Numbers.{kind_number}
use Rattle.smithy_transcode_c.proofs.FindingLemmas.{number_told, text_told, all_numbers, all_texts}
use Rattle.smithy_transcode_c.proofs.finding.told_of.Goals as goal

pub loop-finding-preserved : goal.loop-finding-preserved
loop-finding-preserved c =
    let table = c.args.table.now in
    let root = c.args.root.0 in
    let all = c.args.findings.now in
    let i = c.loop-finding.finding-index in
    let f = c.finding-item.result in
    let within = c.loop-finding-test.true in
    let is = c.finding-item.is in
    let path = c.deref.ensures.value in
    let text = c.in_ok-path.ensures in
    record {
      lens = number_told found_of all i f (λ f. length (path_of_finding table root f)) _ c.loop-finding.all.lens.items c.push.new.self.items within is
          c.loop-finding.invariant.lens (cc (path, text, c.len.ensures, c.in_ok-push.ensures.items));
      kinds = number_told found_of all i f (λ (f : Found). kind_number f.kind) _ c.loop-finding.all.kinds.items c.push-in-loop-finding.new.self.items within is
          c.loop-finding.invariant.kinds (cc (c.kind_number.ensures, c.in_ok-push-2.ensures.items));
      texts = text_told found_of all i f (path_of_finding table root) _ c.loop-finding.all.texts.items c.extend_from_slice.new.self.items within is
          c.loop-finding.invariant.texts (cc (path, text, c.as_bytes.ensures.value, c.in_ok-extend_from_slice.ensures.items));
    }

pub returns-clause-lens : goal.returns-clause-lens
returns-clause-lens c =
    all_numbers found_of (λ f. length (path_of_finding c.args.table.now c.args.root.0 f)) (drop c.loop-finding.finding-index c.args.findings.now) _ _
    (drop_all c.loop-finding.finding-index c.args.findings.now c.loop-finding-test.false) c.loop-finding.invariant.lens

pub returns-clause-kinds : goal.returns-clause-kinds
returns-clause-kinds c =
    all_numbers found_of (λ (f : Found). kind_number f.kind) (drop c.loop-finding.finding-index c.args.findings.now) _ _
    (drop_all c.loop-finding.finding-index c.args.findings.now c.loop-finding-test.false) c.loop-finding.invariant.kinds

pub returns-clause-texts : goal.returns-clause-texts
returns-clause-texts c =
    all_texts found_of (path_of_finding c.args.table.now c.args.root.0) (drop c.loop-finding.finding-index c.args.findings.now) _ _
    (drop_all c.loop-finding.finding-index c.args.findings.now c.loop-finding-test.false) c.loop-finding.invariant.texts
