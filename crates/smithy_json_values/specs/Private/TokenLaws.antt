-- The laws of reading by tokens, for every grammar of them, and that what stands is a value of its place where the strings that are
-- read are UTF-8.
use Rattle.std.specs.Prelude.{◌≡◌, ℕ, List, Bool, true, false, Some, None, IsUtf8, if◌then◌else◌, refl}
use Rattle.std.proofs.Common.{◌∙◌, ap}
use Rattle.std.proofs.lemmas.Bool.{and_parts}
use Rattle.std.proofs.lemmas.Str.{IsUtf8-from_is_utf8}
use Rattle.std.specs.Str.{is_utf8}
use Rattle.smithy_types.specs.Document.{Document, whole_document}
use Rattle.smithy_types.specs.declared.number.Number.{Number}
use Rattle.smithy_declarations.specs.declared.place.Place.{Place}
use Rattle.smithy_declarations.specs.declared.shape_type.Scalar.{Scalar}
use Rattle.smithy_declarations.specs.Documents.{document_nesting, DocumentFits}
use Rattle.smithy_shapes.specs.Fits.{Fits}
use Rattle.smithy_shapes.specs.Limits.{Limits}
use Rattle.smithy_shapes.specs.Lemmas.Options.{same_some, chosen}
use Rattle.smithy_schema.specs.Reading.{Mark, IsLawful, IsBelow, CountsOpeners}
use Rattle.smithy_declarations.specs.Table.{Table, scalar, kind_of}
use Rattle.smithy_declarations.specs.Value.{Value, null_element}
use Rattle.smithy_json.proofs.TextLemmas.{unescaped_is_utf8}
use Rattle.smithy_declarations.specs.declared.shape_type.Scalar.TheVariants as scalars
use Rattle.smithy_json_values.specs.Settings.{Settings, kept, without_limits}
use Rattle.smithy_json_values.specs.Scalar.{JsonScalar, a_boolean, a_number, a_string, text_of, says as says_as, document_says}
use Rattle.smithy_json_values.specs.Standing.{json_frames, standard_rules}
use Rattle.smithy_json_values.specs.LexicalGrammar.{LexicalGrammar, grammar_of, rfc_8259, reads_text, are_chars, escapes_are_valid, in_grammar, frames_of, token_rules, token_relations}
use Rattle.smithy_json_values.specs.Private.DocumentNodes.{says_document}
use Rattle.smithy_json_values.specs.Private.Fits.{HoldsUtf8, says_fits}
use Rattle.smithy_json_values.specs.Private.Wire.{tokens_are_wire, json_bounds_openers}
use Rattle.smithy_wire.proofs.Bounds.{settled_means}
use Rattle.smithy_wire.specs.Node.{as_object}
use Rattle.smithy_wire.specs.Rules.{Answer, means, no_meaning, settled}
use Rattle.smithy_wire.specs.Wire.{RulesFit}
use Rattle.smithy_wire.specs.Laws as wire

-- ---- for every grammar

pub lawful : (g : LexicalGrammar) (c : Settings) → IsLawful (token_relations g c)
lawful g c = wire.lawful (frames_of g) (token_rules g c) (tokens_are_wire g.is_strict)

-- a framing that isn't strict has structures without brackets, so no brackets are counted there
counts_where : (strict : Bool) → (g : LexicalGrammar) (c : Settings) → g.is_strict ≡ strict → strict ≡ true → CountsOpeners (token_relations g c)
counts_where true g c is strict = wire.counts_openers (frames_of g) (token_rules g c) (rw is json_bounds_openers)
counts_where false g c is strict = cc

pub counts : (g : LexicalGrammar) (c : Settings) → g.is_strict ≡ true → CountsOpeners (token_relations g c)
counts g c strict = counts_where true g c strict refl

pub above : (g : LexicalGrammar) (c : Settings) → IsBelow (token_relations g c) (token_relations g (without_limits c))
above g c = wire.lifted_is_above (frames_of g) (token_rules g c)

-- ---- what stands is a value of its place, where the strings that are read are UTF-8

abbrev pub ReadsUtf8 : LexicalGrammar → Type 0
ReadsUtf8 g = (raw : List ℕ) → g.is_text raw ≡ true → IsUtf8 raw

by_test : {A : Type 0} (limits : Limits) (nil : A) (test : Bool) (a : Answer A) (v : A) → settled limits nil (if test then a else no_meaning) ≡ Some v
    → (test ≡ true) × (settled limits nil a ≡ Some v)
by_test limits nil true a v h = (refl, h)
by_test limits nil false a v h = absurd (let no : None ≡ Some v = h in cc)

answer_by_test : {A : Type 0} (test : Bool) (a : Answer A) (v : A) → (if test then a else no_meaning) ≡ means v → (test ≡ true) × (a ≡ means v)
answer_by_test true a v h = (refl, h)
answer_by_test false a v h = cc

module _ (g : LexicalGrammar) (utf8 : ReadsUtf8 g) where
  holds_utf8 : (s : Scalar) (x : JsonScalar) → in_grammar g s x ≡ true → HoldsUtf8 x
  holds_utf8 s (a_boolean b) h = tt
  holds_utf8 s (a_number raw) h = tt
  holds_utf8 s (a_string raw) h = utf8 raw h

  module _ (c : Settings) where
    says : (i : List ℕ) (d : ℕ) (x : JsonScalar) (a e : ℕ) → (frames_of g).scalar i d x a e → (t : Table) (p : Place) (s : Scalar) (v : Value)
        → kind_of t p ≡ scalar s → c.limits ≡ kept → settled c.limits null_element ((token_rules g c).says s p.time x) ≡ Some v → Fits t p v
    says i d x a e lies t p s v kind keeps h =
        let there = by_test c.limits null_element (in_grammar g s x) (says_as c s p.time x) v h in
        says_fits x (holds_utf8 s x there.0) t p s v kind c p.time (settled_means c.limits null_element (says_as c s p.time x) v keeps there.1)

    documents : (i : List ℕ) (d : ℕ) (x : JsonScalar) (a e : ℕ) → (frames_of g).scalar i d x a e
        → (says : JsonScalar → Answer (Document Number)) (v : Document Number) → (token_rules g c).documents ≡ Some says → says x ≡ means v
        → DocumentFits (whole_document v) × (document_nesting v ≡ 1)
    documents i d x a e lies says v carried h =
        let same = same_some (λ y. if in_grammar g scalars.BigDecimal y then document_says y else no_meaning) says carried in
        let there = answer_by_test (in_grammar g scalars.BigDecimal x) (document_says x) v (ap (λ f. f x) same ∙ h) in
        says_document x (holds_utf8 scalars.BigDecimal x there.0) v there.1

    keys : (i : List ℕ) (b : ℕ) (m : Mark) (key : JsonScalar) (e : ℕ) (n : Mark) (text : List ℕ) → (frames_of g).entry as_object i b m (Some key) e n
        → (token_rules g c).text_of key ≡ Some text → IsUtf8 text
    keys i b m key e n text (raw, is, mark, names) h =
        let same : key ≡ a_string raw = same_some key (a_string raw) is in
        let there = chosen (in_grammar g scalars.String (a_string raw)) (text_of (a_string raw)) text (rw same at h) in
        unescaped_is_utf8 raw text (utf8 raw there.0) there.1

    -- what scalars mean is of their kind, and keys are texts
    pub rules_fit : RulesFit (frames_of g) (token_rules g c)
    rules_fit = record { says_fits = says; document_fits = documents; key_fits = keys }

-- ---- the grammars of settings, and that of RFC 8259

read_is_utf8 : (strict : Bool) (raw : List ℕ) → reads_text strict raw ≡ true → IsUtf8 raw
read_is_utf8 true raw h = IsUtf8-from_is_utf8 raw (and_parts (is_utf8 raw) (are_chars raw) h).0
read_is_utf8 false raw h = IsUtf8-from_is_utf8 raw (and_parts (is_utf8 raw) (escapes_are_valid raw) h).0

pub fit_by_settings : (c : Settings) → RulesFit (frames_of (grammar_of c)) (token_rules (grammar_of c) c)
fit_by_settings c = rules_fit (grammar_of c) (read_is_utf8 c.enforce_strictness) c

pub fit_by_standard : (c : Settings) → RulesFit json_frames (standard_rules c)
fit_by_standard c = rules_fit rfc_8259 (read_is_utf8 true) c
