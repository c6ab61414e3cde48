use Rattle.std.proofs.Common.{◌≡◌, ◌++◌, map as mapped, drop}
use Rattle.smithy_lint.specs.View.{found_of}
use Rattle.smithy_transcode_c.specs.Finding.{told}
use Rattle.smithy_transcode_c.proofs.finding.told_of.Given as goal

-- what is told and the findings that are left make all
abbrev pub invariant-loop-finding : goal.invariant-loop-finding
invariant-loop-finding l = record {
  lens : (told l.table l.fn.root.0 (mapped found_of l.findings)).lens
      ≡ l.all.lens.items ++ (told l.table l.fn.root.0 (mapped found_of (drop l.finding-index l.findings))).lens;
  kinds : (told l.table l.fn.root.0 (mapped found_of l.findings)).kinds
      ≡ l.all.kinds.items ++ (told l.table l.fn.root.0 (mapped found_of (drop l.finding-index l.findings))).kinds;
  texts : (told l.table l.fn.root.0 (mapped found_of l.findings)).out
      ≡ l.all.texts.items ++ (told l.table l.fn.root.0 (mapped found_of (drop l.finding-index l.findings))).out;
}
