use Rattle.std.proofs.Common.{ap, ◌∙◌, lit≤}
use Rattle.std.specs.Cow.{cow_str_bytes}
use Rattle.smithy_declarations.specs.declared.shape_type.Scalar.TheVariants as scalars
use Rattle.smithy_declarations.specs.Value.{text, bytes, whole, decimal, scalar_value}
use Rattle.smithy_texts.specs.Numeral.{number as number_of}
use Rattle.smithy_texts.specs.Decimal.{mantissa, net_exponent}
use Rattle.smithy_json_values.specs.Codec.{held_settings, held_grammar}
use Rattle.smithy_json_values.specs.LexicalGrammar.{grammar_of}
use Rattle.smithy_lint.proofs.JsonNodes.{wire_is_standard}
use Rattle.smithy_lint.specs.Private.Verdicts.{unless}
use Rattle.smithy_lint.proofs.JsonScalars.{leaf_in, boolean_verdict, whole_verdict, long_verdict, text_verdict, blob_verdict, big_verdict, instant_verdict}
use Rattle.smithy_lint.proofs.json_body.JsonBodyBody.scalar_finding.Goals as goal

pub returns-in-Boolean : goal.returns-in-Boolean
returns-in-Boolean c =
    let b = c.args.self.now in
    let g = held_grammar b.settings in
    let i = b.bytes.now in
    let standard = ap grammar_of b.standard ∙ wire_is_standard b.settings.use_json_name b.settings.allow_integral_float_numbers in
    let o = held_settings b.settings in
    rw c.in-Boolean.is
    (λ x e v. c.unless.ensures ∙ ap unless c.is_some.ensures ∙ boolean_verdict g i c.args.at e x v.0.0 c.boolean_at.result c.boolean_at.ensures.found c.boolean_at.ensures.none)

pub returns-in-Byte : goal.returns-in-Byte
returns-in-Byte c =
    let b = c.args.self.now in
    let g = held_grammar b.settings in
    let i = b.bytes.now in
    let standard = ap grammar_of b.standard ∙ wire_is_standard b.settings.use_json_name b.settings.allow_integral_float_numbers in
    let o = held_settings b.settings in
    rw c.in-Byte.is
    (λ x e v. c.unless-in-Byte.ensures ∙ ap unless c.is_some-in-Byte.ensures ∙ whole_verdict g i c.args.at e x v.0.0 o (leaf_in g standard i scalars.Long c.args._depth x c.args.at e v).1 8 (lit≤ tt) c.integer_at.result c.integer_at.ensures.found c.integer_at.ensures.none c.byte_found.result c.byte_found.ensures.some c.byte_found.ensures.none)

pub returns-in-Short : goal.returns-in-Short
returns-in-Short c =
    let b = c.args.self.now in
    let g = held_grammar b.settings in
    let i = b.bytes.now in
    let standard = ap grammar_of b.standard ∙ wire_is_standard b.settings.use_json_name b.settings.allow_integral_float_numbers in
    let o = held_settings b.settings in
    rw c.in-Short.is
    (λ x e v. c.unless-in-Short.ensures ∙ ap unless c.is_some-in-Short.ensures ∙ whole_verdict g i c.args.at e x v.0.0 o (leaf_in g standard i scalars.Long c.args._depth x c.args.at e v).1 16 (lit≤ tt) c.integer_at-in-Short.result c.integer_at-in-Short.ensures.found c.integer_at-in-Short.ensures.none c.short_found.result c.short_found.ensures.some c.short_found.ensures.none)

pub returns-in-Integer : goal.returns-in-Integer
returns-in-Integer c =
    let b = c.args.self.now in
    let g = held_grammar b.settings in
    let i = b.bytes.now in
    let standard = ap grammar_of b.standard ∙ wire_is_standard b.settings.use_json_name b.settings.allow_integral_float_numbers in
    let o = held_settings b.settings in
    rw c.in-Integer.is
    (λ x e v. c.unless-in-Integer.ensures ∙ ap unless c.is_some-in-Integer.ensures ∙ whole_verdict g i c.args.at e x v.0.0 o (leaf_in g standard i scalars.Long c.args._depth x c.args.at e v).1 32 (lit≤ tt) c.integer_at-in-Integer.result c.integer_at-in-Integer.ensures.found c.integer_at-in-Integer.ensures.none c.integer_found.result c.integer_found.ensures.some c.integer_found.ensures.none)

pub returns-in-Long : goal.returns-in-Long
returns-in-Long c =
    let b = c.args.self.now in
    let g = held_grammar b.settings in
    let i = b.bytes.now in
    let standard = ap grammar_of b.standard ∙ wire_is_standard b.settings.use_json_name b.settings.allow_integral_float_numbers in
    let o = held_settings b.settings in
    rw c.in-Long.is
    (λ x e v. c.unless-in-Long.ensures ∙ ap unless c.is_some-in-Long.ensures ∙ long_verdict g i c.args.at e x v.0.0 o (leaf_in g standard i scalars.Long c.args._depth x c.args.at e v).1 c.integer_at-in-Long.result c.integer_at-in-Long.ensures.found c.integer_at-in-Long.ensures.none)

pub returns-in_ok-text_piece_at-in-String : goal.returns-in_ok-text_piece_at-in-String
returns-in_ok-text_piece_at-in-String c =
    let b = c.args.self.now in
    let g = held_grammar b.settings in
    let i = b.bytes.now in
    let standard = ap grammar_of b.standard ∙ wire_is_standard b.settings.use_json_name b.settings.allow_integral_float_numbers in
    let o = held_settings b.settings in
    rw c.in-String.is
    (λ x e v. c.unless-in-String.ensures ∙ ap unless c.is_some-in-String.ensures ∙ text_verdict g i c.args.at e x v.0.0 (λ s. scalar_value (text s)) cow_str_bytes _ c.in_ok-text_piece_at-in-String.ensures.found (leaf_in g standard i scalars.String c.args._depth x c.args.at e v).1)

pub returns-in_ok-blob_at-in-Blob : goal.returns-in_ok-blob_at-in-Blob
returns-in_ok-blob_at-in-Blob c =
    let b = c.args.self.now in
    let g = held_grammar b.settings in
    let i = b.bytes.now in
    let standard = ap grammar_of b.standard ∙ wire_is_standard b.settings.use_json_name b.settings.allow_integral_float_numbers in
    let o = held_settings b.settings in
    rw c.in-Blob.is
    (λ x e v. c.unless-in-Blob.ensures ∙ ap unless c.is_some-in-Blob.ensures ∙ blob_verdict g i c.args.at e x v.0.0 (λ s. scalar_value (bytes s)) _ c.in_ok-blob_at-in-Blob.ensures (leaf_in g standard i scalars.Blob c.args._depth x c.args.at e v).1)

pub returns-in_ok-found-in-Timestamp : goal.returns-in_ok-found-in-Timestamp
returns-in_ok-found-in-Timestamp c =
    let b = c.args.self.now in
    let g = held_grammar b.settings in
    let i = b.bytes.now in
    let standard = ap grammar_of b.standard ∙ wire_is_standard b.settings.use_json_name b.settings.allow_integral_float_numbers in
    let o = held_settings b.settings in
    rw c.in-Timestamp.is
    (λ x e v. c.finding_of.ensures ∙ instant_verdict g i c.args.at e x v.0.0 o c.args.time _ c.in_ok-found-in-Timestamp.ensures (leaf_in g standard i scalars.Timestamp c.args._depth x c.args.at e v).1)

pub returns-in_ok-found-in-BigInteger : goal.returns-in_ok-found-in-BigInteger
returns-in_ok-found-in-BigInteger c =
    let b = c.args.self.now in
    let g = held_grammar b.settings in
    let i = b.bytes.now in
    let standard = ap grammar_of b.standard ∙ wire_is_standard b.settings.use_json_name b.settings.allow_integral_float_numbers in
    let o = held_settings b.settings in
    rw c.in-BigInteger.is
    (λ x e v. c.finding_of-in-BigInteger.ensures ∙ big_verdict g i c.args.at e x v.0.0 scalars.BigInteger (λ n. whole (number_of n)) _ c.in_ok-found-in-BigInteger.ensures.found (leaf_in g standard i scalars.BigInteger c.args._depth x c.args.at e v).1)

pub returns-in_ok-found-in-BigDecimal : goal.returns-in_ok-found-in-BigDecimal
returns-in_ok-found-in-BigDecimal c =
    let b = c.args.self.now in
    let g = held_grammar b.settings in
    let i = b.bytes.now in
    let standard = ap grammar_of b.standard ∙ wire_is_standard b.settings.use_json_name b.settings.allow_integral_float_numbers in
    let o = held_settings b.settings in
    rw c.in-BigDecimal.is
    (λ x e v. c.finding_of-in-BigDecimal.ensures ∙ big_verdict g i c.args.at e x v.0.0 scalars.BigDecimal (λ n. decimal (mantissa n) (net_exponent n)) _ c.in_ok-found-in-BigDecimal.ensures.found (leaf_in g standard i scalars.BigDecimal c.args._depth x c.args.at e v).1)
