use Rattle.std.proofs.Common.{◌≡◌, sym, ◌∙◌, ap, option_map}
use Rattle.std.specs.Cow.{cow_str_bytes}
use Rattle.smithy_instants.specs.DateText.{date_of}
use Rattle.smithy_json_grammar.specs.Unescape.{unescaped}
use Rattle.smithy_declarations.specs.declared.shape_type.Scalar.TheVariants as scalars
use Rattle.smithy_shapes.specs.Lemmas.Options.{same_some}
use Rattle.smithy_json_values.specs.Codec.{held_settings}
use Rattle.smithy_json_values.specs.LexicalGrammar.{grammar_of}
use Rattle.smithy_json_values.specs.Scalar.{a_string}
use Rattle.smithy_json_values.proofs.InstantPlaces.{no_strings, date_lies, no_date_lies}
use Rattle.smithy_json_values.proofs.GrammarReads.{one_in_grammar}
use Rattle.smithy_json_values.proofs.TextLemmas.{no_text_lies}
use Rattle.smithy_json_values.proofs.instants.date_at.Goals as goal

pub returns-in_default : goal.returns-in_default
returns-in_default c =
    let s = held_settings c.args.settings.now in
    no_strings (grammar_of s) s c.args.time c.args.input.now c.args.at (sym c.string_form.ensures ∙ c.in_default.is)

pub returns-in_default-string_at : goal.returns-in_default-string_at
returns-in_default-string_at c =
    let s = held_settings c.args.settings.now in
    no_date_lies (grammar_of s) s c.args.time c.args.input.now c.args.at c.in-Some.form (sym c.string_form.ensures ∙ c.in-Some.is)
    (λ raw e lies text is. absurd (c.in_default-string_at.ensures.none raw e lies))

pub returns-in-Ok : goal.returns-in-Ok
returns-in-Ok c =
    let s = held_settings c.args.settings.now in
    let told = c.in_ok-text.ensures.text ∙ ap (option_map cow_str_bytes) c.in-Some-2.is in
    let read = c.in-Ok.ensures ∙ ap (date_of c.in-Some.form) c.as_str.ensures.value in
    date_lies (grammar_of s) s c.args.time c.args.input.now c.args.at c.in-Some.form (sym c.string_form.ensures ∙ c.in-Some.is) _ c.in-Some-string_at.string.text.now _ c.in-Ok.instant
    c.in-Some-string_at.ensures.found told (sym read)

pub returns : goal.returns
returns c =
    let s = held_settings c.args.settings.now in
    let told = c.in_ok-text.ensures.text ∙ ap (option_map cow_str_bytes) c.in-Some-2.is in
    let read = c.in-Err.ensures ∙ ap (date_of c.in-Some.form) c.as_str.ensures.value in
    no_date_lies (grammar_of s) s c.args.time c.args.input.now c.args.at c.in-Some.form (sym c.string_form.ensures ∙ c.in-Some.is) (λ other e lies text is.
    let raw = c.in-Some-string_at.string.text.now in
    let same = one_in_grammar (grammar_of s) scalars.Timestamp c.args.input.now (a_string other) (a_string raw) c.args.at e _ lies c.in-Some-string_at.ensures.found in
    let raws : other ≡ raw = cc in
    ap (date_of c.in-Some.form) (same_some text _ (sym is ∙ ap unescaped raws ∙ told)) ∙ sym read)

pub returns-in_default-2 : goal.returns-in_default-2
returns-in_default-2 c =
    let s = held_settings c.args.settings.now in
    let none = c.in_ok-text.ensures.text ∙ ap (option_map cow_str_bytes) c.in_default-2.is in
    no_date_lies (grammar_of s) s c.args.time c.args.input.now c.args.at c.in-Some.form (sym c.string_form.ensures ∙ c.in-Some.is) (λ raw e lies text is.
    absurd (no_text_lies (grammar_of s) c.args.input.now c.args.at c.in-Some-string_at.string.text.now _ c.in-Some-string_at.ensures.found none text e
    (record { raw = raw; lies = lies; is = is })))
