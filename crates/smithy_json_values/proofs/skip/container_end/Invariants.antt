use Rattle.std.proofs.Common.{◌≡◌, ◌+◌, ◌-◌, ◌*◌, ◌≤◌, length, cond}
use Rattle.smithy_json_values.specs.LexicalGrammar.{is_skipped_in}
use Rattle.smithy_json_values.specs.Codec.{held_grammar}
use Rattle.smithy_json_values.proofs.OpenContainers.{IsOnTheWay, stack_of}
use Rattle.smithy_json_values.proofs.OpenersLemmas.{OpensInAll}
use Rattle.smithy_json_values.proofs.DeepestLemmas.{HasCome}
use Rattle.smithy_json_values.proofs.skip.container_end.Given as goal

-- the value ends where what is left ends: the open containers, and a value first where one is due;
-- its bytes open as many brackets at once as are open here, together with those to come; and what has
-- come in each open container is whole
abbrev pub invariant-loop-due : goal.invariant-loop-due
invariant-loop-due l = record {
  within : l.at ≤ length l.input.bytes.now;
  room : length l.is_object ≡ 512;
  shallow : l.depth + l.open ≤ l.input.settings.max_depth;
  way : IsOnTheWay (held_grammar l.input.settings) l.input.settings.max_depth l.depth (stack_of l.is_object l.open) l.due l.entered l.input.bytes.now l.fn.at l.at;
  opens : OpensInAll l.input.bytes.now l.fn.at l.open l.at;
  come : HasCome (held_grammar l.input.settings) (is_skipped_in (held_grammar l.input.settings)) (stack_of l.is_object l.open) l.due l.entered l.input.bytes.now l.fn.at l.at;
}

-- each step goes ahead, but that to the first element of a list, where a value is due then
abbrev pub decreases-loop-due : goal.decreases-loop-due
decreases-loop-due l = 2 * (length l.input.bytes.now - l.at) + cond l.due 0 1
