use Rattle.std.proofs.Common.{ap, sym, ◌∙◌, Some}
use Rattle.cbor_item.specs.Item.{text_string}
use Rattle.smithy_cbor_values.proofs.TextLemmas.{joined_is, no_text_at}
use Rattle.smithy_cbor_values.proofs.values.text_at.Goals as goal

pub returns-in-Ok-clause-found : goal.returns-in-Ok-clause-found
returns-in-Ok-clause-found c =
    let text = c.in-Ok.ensures.found in
    record {
      found = text_string text.extent text.chunks;
      stands = text.stands;
      is = joined_is text.chunks text.utf8 ∙ ap Some (sym text.joined);
    }

pub returns-in_default-clause-found : goal.returns-in_default-clause-found
returns-in_default-clause-found c = no_text_at c.args.input.now c.args.at c.in-Err.error c.in_default.not-NoMemory c.in-Err.ensures.fault
