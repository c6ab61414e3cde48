use Rattle.smithy_json_grammar.proofs.HeldNumberLemmas.{parses_natural, refuses_natural}
use Rattle.smithy_json_grammar.proofs.held_number.natural_number.Goals as goal

pub returns-in-Ok : goal.returns-in-Ok
returns-in-Ok c = parses_natural c.args.text.now c.requires.some c.requires.no_minus c.requires.no_plus c.in-Ok.value c.in-Ok.ensures.value.0

pub returns-in-Err : goal.returns-in-Err
returns-in-Err c = refuses_natural c.args.text.now c.requires.some c.requires.no_minus c.requires.no_plus c.in-Err.ensures.value.0
