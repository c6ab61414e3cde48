use Rattle.std.proofs.Common.{Some, None, ap, sym, ◌∙◌}
use Rattle.std.specs.Cow.{cow_str_bytes}
use Rattle.smithy_declarations.specs.declared.shape_type.Scalar.TheVariants as scalars
use Rattle.smithy_json_values.specs.Codec.{held_settings, held_grammar}
use Rattle.smithy_json_values.specs.LexicalGrammar.{grammar_of}
use Rattle.smithy_json_values.proofs.NumberSorts.{skipped_number}
use Rattle.smithy_lint.proofs.JsonNodes.{wire_is_standard}
use Rattle.smithy_lint.specs.Private.Verdicts.{unless}
use Rattle.smithy_lint.proofs.JsonScalars.{leaf_in, document_boolean, no_boolean, document_number, document_text}
use Rattle.smithy_lint.proofs.json_body.JsonBodyBody.document_finding.Goals as goal

pub returns-then-is_some : goal.returns-then-is_some
returns-then-is_some c =
    let b = c.args.self.now in
    let g = held_grammar b.settings in
    let i = b.bytes.now in
    λ x e v. document_boolean g i c.args.at e x v.0.0 c.boolean_at.result (sym c.is_some.ensures ∙ c.if-is_some.true) c.boolean_at.ensures.found

pub returns-in_default : goal.returns-in_default
returns-in_default c =
    let b = c.args.self.now in
    let g = held_grammar b.settings in
    let i = b.bytes.now in
    let standard = ap grammar_of b.standard ∙ wire_is_standard b.settings.use_json_name b.settings.allow_integral_float_numbers in
    λ x e v.
    c.unless.ensures ∙ ap unless c.is_some-in_default.ensures
    ∙ document_text g i c.args.at e x v.0.0 cow_str_bytes c.in_ok-text.text c.in_ok-text.ensures.found (leaf_in g standard i scalars.String c.args._depth x c.args.at e v).1
    (no_boolean c.boolean_at.result _ (sym c.is_some.ensures ∙ c.if-is_some.false) c.boolean_at.ensures.none)
    (λ raw f lies. c.in_default.ensures.none raw f (skipped_number (held_settings b.settings) i c.args.at raw f lies)) v.0.1

pub returns-in-Some-number_of_text : goal.returns-in-Some-number_of_text
returns-in-Some-number_of_text c =
    let b = c.args.self.now in
    let g = held_grammar b.settings in
    let i = b.bytes.now in
    λ x e v. document_number g i c.args.at e x v.0.0 c.in-Some.raw.now c.in-Some.field-0-1 c.in-Some.ensures.found.0 (Some c.in-Some-number_of_text.field-0) (sym c.number_of_text.ensures ∙ c.in-Some-number_of_text.is)

pub returns-in-None : goal.returns-in-None
returns-in-None c =
    let b = c.args.self.now in
    let g = held_grammar b.settings in
    let i = b.bytes.now in
    λ x e v. document_number g i c.args.at e x v.0.0 c.in-Some.raw.now c.in-Some.field-0-1 c.in-Some.ensures.found.0 None (sym c.number_of_text.ensures ∙ c.in-None.is)
