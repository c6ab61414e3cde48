use Rattle.std.proofs.Common.{ap, ◌∙◌, option_map}
use Rattle.std.specs.Cow.{cow_str_bytes}
use Rattle.smithy_json_values.specs.Codec.{held_grammar}
use Rattle.smithy_json_values.proofs.TextLemmas.{no_text_lies}
use Rattle.smithy_json_values.proofs.texts.text_piece_at.Goals as goal

pub returns-in_default-clause-found : goal.returns-in_default-clause-found
returns-in_default-clause-found c = λ text e h. c.in_default.ensures.none h.raw e h.lies

pub returns-in_default-2-clause-found : goal.returns-in_default-2-clause-found
returns-in_default-2-clause-found c =
    no_text_lies (held_grammar c.args.settings.now) c.args.input.now c.args.at c.in-Some.string.text.now _ c.in-Some.ensures.found (c.in_ok-text.ensures.text ∙ ap (option_map cow_str_bytes) c.in_default-2.is)
