use Rattle.std.proofs.Common.{◌≡◌, ◌∙◌, ap, sym, option_map, string_bytes, true, false}
use Rattle.smithy_json_values.proofs.PlacedTextLemmas.{placed_means}
use Rattle.smithy_json_values.proofs.texts.span_of.Goals as goal

pub returns-then-not-is_escaped-clause-text : goal.returns-then-not-is_escaped-clause-text
returns-then-not-is_escaped-clause-text c = placed_means c.args.raw.now c.args.at (sym c.requires ∙ c.if-not-is_escaped.true) c.utf8.raw

pub returns-then-not-is_escaped-clause-borrowed : goal.returns-then-not-is_escaped-clause-borrowed
returns-then-not-is_escaped-clause-borrowed c = (λ named. sym c.requires ∙ c.if-not-is_escaped.true, λ plain. tt)

pub returns-in_default-clause-text : goal.returns-in_default-clause-text
returns-in_default-clause-text c = λ input a e stands. (c.in_ok-text.ensures ∙ ap (option_map string_bytes) c.in_default.is, tt, tt)

pub returns-clause-text : goal.returns-clause-text
returns-clause-text c = λ input a e stands. (c.in_ok-text.ensures ∙ ap (option_map string_bytes) c.in-Some.is, tt, tt)

pub returns-clause-borrowed : goal.returns-clause-borrowed
returns-clause-borrowed c = (λ none. absurd none, λ plain. let both : true ≡ false = sym c.if-not-is_escaped.false ∙ (c.requires ∙ plain) in cc)
