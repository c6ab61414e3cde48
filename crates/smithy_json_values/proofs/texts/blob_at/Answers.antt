use Rattle.std.proofs.Common.{◌∙◌}
use Rattle.smithy_json_values.specs.Codec.{held_grammar}
use Rattle.smithy_json_values.proofs.TextLemmas.{no_blob_lies}
use Rattle.smithy_json_values.proofs.texts.blob_at.Goals as goal

pub returns-in_default : goal.returns-in_default
returns-in_default c = λ blob e h. c.in_default.ensures.none h.raw e h.lies

pub returns-in_default-2 : goal.returns-in_default-2
returns-in_default-2 c =
    no_blob_lies (held_grammar c.args.settings.now) c.args.input.now c.args.at c.in-Some.string.text.now _ c.in-Some.ensures.found (c.in_ok-blob.ensures ∙ c.in_default-2.is)
