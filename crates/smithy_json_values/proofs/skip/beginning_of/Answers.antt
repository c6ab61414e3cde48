use Rattle.std.proofs.Common.{◌+◌, subst}
use Rattle.smithy_json_values.specs.LexicalGrammar.{is_skipped_in}
use Rattle.smithy_json_values.specs.Codec.{held_grammar}
use Rattle.smithy_json_values.specs.Standing.{Lies, IsByte}
use Rattle.smithy_json_values.proofs.FirstBytePlaces.{first_lies}
use Rattle.smithy_json_values.proofs.NodeFirstBytes.{nothing_lies, node_before, node_behind}
use Rattle.smithy_json_values.proofs.skip.beginning_of.Goals as goal

pub returns-in_err-first : goal.returns-in_err-first
returns-in_err-first c =
    rw c.from_residual.ensures (nothing_lies (held_grammar c.args.settings.now) (is_skipped_in (held_grammar c.args.settings.now)) c.args.input.now c.args.at c.in_err-first.ensures.none)

pub returns-then-first-eq91 : goal.returns-then-first-eq91
returns-then-first-eq91 c =
    subst (λ b. Lies (IsByte b) c.args.input.now c.args.at (c.in_ok-first.start + 1)) c.if-first-eq91.true
    (first_lies c.args.input.now c.args.at c.in_ok-first.first c.in_ok-first.start c.in_ok-first.ensures.found)

pub returns-then-first-eq123 : goal.returns-then-first-eq123
returns-then-first-eq123 c =
    subst (λ b. Lies (IsByte b) c.args.input.now c.args.at (c.in_ok-first.start + 1)) c.if-first-eq123.true
    (first_lies c.args.input.now c.args.at c.in_ok-first.first c.in_ok-first.start c.in_ok-first.ensures.found)

pub returns-in_err-end : goal.returns-in_err-end
returns-in_err-end c =
    let here = c.in_ok-first.ensures.found in
    rw c.from_residual-in_err-end.ensures (λ d x e h.
    c.in_err-end.ensures.none d x e (node_behind c.args.input.now c.args.at c.in_ok-first.first c.in_ok-first.start here (held_grammar c.args.settings.now) (is_skipped_in (held_grammar c.args.settings.now)) d x e h))

pub returns : goal.returns
returns c =
    let found = c.in_ok-end.ensures.found in
    record {
      node = found.node;
      lies = node_before c.args.input.now c.args.at c.in_ok-first.first c.in_ok-first.start c.in_ok-first.ensures.found (held_grammar c.args.settings.now) (is_skipped_in (held_grammar c.args.settings.now)) 1
          found.node c.in_ok-end.end found.lies;
      flat = found.flat;
    }
