use Rattle.smithy_json_grammar.proofs.LenientTextLemmas.{plain_is, no_plain}
use Rattle.smithy_json_grammar.proofs.quoted_text.is_plain_text.Goals as goal

pub returns-in-Ok : goal.returns-in-Ok
returns-in-Ok c = plain_is c.args.bytes.now c.has_no_controls.result c.in-Ok.ensures.cases.1 c.has_no_controls.ensures

pub returns-in-Err : goal.returns-in-Err
returns-in-Err c = no_plain c.args.bytes.now c.in-Err.ensures.cases.0
