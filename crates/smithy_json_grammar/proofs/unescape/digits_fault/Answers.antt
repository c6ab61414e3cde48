use Rattle.smithy_json_grammar.proofs.UnescapeLemmas.{digits_fault-utf8, digits_fault-other}
use Rattle.smithy_json_grammar.proofs.unescape.digits_fault.Goals as goal

pub returns-in-Ok : goal.returns-in-Ok
returns-in-Ok c = digits_fault-utf8 c.args.digits.now c.in-Ok.ensures.cases.1

pub returns-in-Err : goal.returns-in-Err
returns-in-Err c = digits_fault-other c.args.digits.now c.in-Err.ensures.cases.0
