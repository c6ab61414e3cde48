use Rattle.std.proofs.Common.{sym, ap, ◌∙◌, rules, tests, map, ◌+◌}
use Rattle.std.proofs.lemmas.List.{length_push}
use Rattle.std.specs.Bool.{◌==◌}
use Rattle.std.specs.List.{slice_split}
use Rattle.std.specs.Str.{byte}
use Rattle.std.proofs.lemmas.Iterator.Splits.{YieldsList-from_slice_split}
use Rattle.std.proofs.lemmas.Iterator.Consumers.{YieldsList-turn, YieldsList-end, YieldsList-so_far}
use Rattle.smithy_declarations.specs.TableText.{bad_line}
use Rattle.smithy_declarations.specs.DeclViews.{decl_of}
use Rattle.smithy_declarations.proofs.TableTextLemmas.{after_parts, good_part, bad_part}
use Rattle.smithy_declarations.proofs.table_text.TableText.read.Goals as goal

pub returns-then-not-branch-clause-refused : goal.returns-then-not-branch-clause-refused
returns-then-not-branch-clause-refused c =
    let lines = YieldsList-from_slice_split _ (λ b. b == byte "\n") c.args.text.now (cc) (cc) (cc) (λ x b q k. search (rules, tests)) in
    let turn = YieldsList-turn lines c.loop-line.yielded _ c.loop-line.yielded_by _ _ c.in-Some.line c.in-Some.is c.next.ensures.steps in
    let seen = YieldsList-so_far lines c.loop-line.yielded _ c.loop-line.yielded_by in
    let here = rw c.if-not-branch.true at c.in_ok-read_line.ensures in
    bad_part (slice_split (λ b. b == byte "\n") c.args.text.now) c.loop-line.yielded c.in-Some.line.now (map decl_of c.loop-line.decls.items) seen turn.0 turn.1 c.loop-line.invariant.so_far
    (rw (← c.without_return.ensures) here) ∙ ap (λ n. bad_line (n + 1)) (sym c.loop-line.invariant.counted)

pub loop-line-preserved : goal.loop-line-preserved
loop-line-preserved c =
    let here = rw c.if-not-branch.false at c.in_ok-read_line.ensures in
    record {
      can_next = search rules;
      is_finite = tt;
      counted = ap (λ n. n + 1) c.loop-line.invariant.counted ∙ sym (length_push c.loop-line.yielded c.in-Some.line);
      so_far = good_part c.loop-line.yielded c.in-Some.line (map decl_of c.loop-line.decls.items) (map decl_of c.read_line.new.decls.items) c.loop-line.invariant.so_far
          (rw (← c.without_return.ensures) here);
    }

pub returns-clause-read : goal.returns-clause-read
returns-clause-read c =
    let lines = YieldsList-from_slice_split _ (λ b. b == byte "\n") c.args.text.now (cc) (cc) (cc) (λ x b q k. search (rules, tests)) in
    let end = YieldsList-end lines c.loop-line.yielded _ c.loop-line.yielded_by _ _ c.in-None.is c.next.ensures.steps in
    ap after_parts (sym end.0) ∙ c.loop-line.invariant.so_far
