use Rattle.std.proofs.Common.{refl, ◌∙◌, ap, option_map}
use Rattle.std.specs.Cow.{cow_str_bytes}
use Rattle.smithy_json_values.specs.Codec.{held_settings}
use Rattle.smithy_json_values.specs.LexicalGrammar.{grammar_of}
use Rattle.smithy_json_values.specs.Scalar.{a_number, a_string}
use Rattle.smithy_json_values.specs.Private.NumberSorts.{kind_of_sort}
use Rattle.smithy_json_values.proofs.NumberSorts.{big_lies, lies_big}
use Rattle.smithy_json_values.proofs.NumberTexts.{no_number_text}
use Rattle.smithy_json_values.proofs.TextLemmas.{no_text_lies}
use Rattle.smithy_json_values.proofs.numbers.number_text_at.Goals as goal

pub returns-in-Some : goal.returns-in-Some
returns-in-Some c = record {
  found = a_number _;
  lies = big_lies (held_settings c.args.settings.now) c.args.sort c.requires.big c.args.input.now c.args.at _ _ c.in-Some.ensures.found;
  is = refl;
}

pub returns-in_default-string_at : goal.returns-in_default-string_at
returns-in_default-string_at c =
    let s = held_settings c.args.settings.now in
    let kind = kind_of_sort c.args.sort in
    no_number_text (grammar_of s) kind c.args.input.now c.args.at
    (λ raw e lies. c.in_default.ensures.none raw e (lies_big s c.args.sort c.requires.big c.args.input.now c.args.at raw e lies))
    (λ raw e lies text is. c.in_default-string_at.ensures.none raw e lies)

pub returns-in_default-2 : goal.returns-in_default-2
returns-in_default-2 c =
    let s = held_settings c.args.settings.now in
    let kind = kind_of_sort c.args.sort in
    let none = c.in_ok-text.ensures.text ∙ ap (option_map cow_str_bytes) c.in_default-2.is in
    no_number_text (grammar_of s) kind c.args.input.now c.args.at
    (λ raw e lies. c.in_default.ensures.none raw e (lies_big s c.args.sort c.requires.big c.args.input.now c.args.at raw e lies))
    (λ raw e lies text is.
    no_text_lies (grammar_of s) c.args.input.now c.args.at c.in-Some-string_at.string.text.now _ c.in-Some-string_at.ensures.found none text e
    (record { raw = raw; lies = lies; is = is }))

pub returns : goal.returns
returns c = record {
  found = a_string _;
  lies = c.in-Some-string_at.ensures.found;
  is = c.in_ok-text.ensures.text ∙ ap (option_map cow_str_bytes) c.in-Some-2.is;
}
