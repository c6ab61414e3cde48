-- What JSON writes for documents: it means them, can be written, and is their canonical text.
use Rattle.std.proofs.Common.{◌≡◌, ℕ, ℤ, pos, negsuc, List, [], ◌∷◌, ◌++◌, Bool, true, false, Some, None, refl, ap, ◌∙◌, append_assoc, arith, decimal}
use Rattle.std.specs.Prelude.{◌||◌, if◌then◌else◌, option_map, option_and_then, IsUtf8}
use Rattle.smithy_declarations.specs.declared.place.Place.{Place}
use Rattle.smithy_declarations.specs.Table.{is_document_place}
use Rattle.std.specs.Fmt.{signed_decimal}
use Rattle.std.proofs.lemmas.Bool.Decides.{nat_tests}
use Rattle.smithy_types.specs.Document.{Document, null, boolean, number, text, array, object, Documents, no_documents, item, Properties, no_properties, property, whole_document, is_document_number}
use Rattle.smithy_types.specs.Number.{whole_number}
use Rattle.smithy_types.specs.declared.number.Number.{Number}
use Rattle.smithy_types.specs.declared.number.Number.TheVariants.{PosInt, NegInt}
use Rattle.smithy_texts.specs.Numeral.{begins_with}
use Rattle.smithy_texts.specs.Ranges.{fits_signed}
use Rattle.smithy_declarations.specs.declared.shape_type.Scalar.TheVariants as scalars
use Rattle.smithy_declarations.specs.Value as values
use Rattle.smithy_json_grammar.specs.Ascii.{minus_sign, begin_array, end_array, begin_object, end_object}
use Rattle.smithy_json.specs.DocumentText.{elements_text_by, properties_text_by}
use Rattle.smithy_json.specs.Escape.{escaped}
use Rattle.smithy_json_grammar.specs.HeldNumber.{held_as, number_of}
use Rattle.smithy_json.proofs.DecimalLemmas.{decimal_is_number, decimal_writes}
use Rattle.smithy_json.proofs.QuotedLemmas.{quoted_is_string, unescaped_of_escaped}
use Rattle.smithy_json_codec.specs.Canonical.{document_text}
use Rattle.smithy_json.specs.ValueTexts.{name_text}
use Rattle.smithy_json_values.specs.LexicalGrammar.{rfc_8259, in_grammar}
use Rattle.smithy_json_values.specs.Scalar.{JsonScalar, a_number, a_string, held_says, document_says}
use Rattle.smithy_json_values.specs.Settings.{Settings}
use Rattle.smithy_json_values.specs.Standing.{standard_rules}
use Rattle.smithy_json_values.specs.Private.TokenGrammar.{said_in}
use Rattle.smithy_json_codec.proofs.WrittenLeaves.{json_leaves}
use Rattle.smithy_json_codec.proofs.WrittenPlaces.{separator, json_writes}
use Rattle.smithy_wire.specs.Node.{as_array, as_object}
use Rattle.smithy_wire.specs.Rules.{Answer, means, no_meaning, answer_of}
use Rattle.smithy_wire.specs.Written.{document_node, document_nodes, property_nodes, ReadsDocuments}
use Rattle.smithy_wire.specs.Writes.{WritesDocuments, bytes_of, nodes_bytes}

-- ---- the canonical text

-- what parts an entry from the one before, the entry, those behind it, and the end of their container
entry_is : (parting key child more rest : List ℕ) (last : ℕ) → more ++ last ∷ [] ≡ rest
    → (parting ++ (key ++ (child ++ more))) ++ last ∷ [] ≡ (parting ++ key) ++ (child ++ rest)
entry_is parting key child more rest last same = rw (← same) (simp append_assoc)

module _ (c : Settings) where
  mutual
    -- what is written for a document is its canonical text
    pub document_bytes : (d : Document ℤ) → document_text d ≡ bytes_of json_writes (document_node (json_leaves c) d)
    document_bytes null = refl
    document_bytes (boolean true) = refl
    document_bytes (boolean false) = refl
    document_bytes (number n) = refl
    document_bytes (text s) = refl
    document_bytes (array ds) = ap (λ rest. begin_array ∷ rest) (elements_bytes true ds)
    document_bytes (object ps) = ap (λ rest. begin_object ∷ rest) (properties_bytes true ps)

    elements_bytes : (is_first : Bool) (ds : Documents ℤ)
        → elements_text_by signed_decimal (separator is_first) ds ++ end_array ∷ [] ≡ nodes_bytes json_writes as_array is_first (document_nodes (json_leaves c) ds)
    elements_bytes is_first no_documents = refl
    elements_bytes is_first (item d ds) =
        rw (← document_bytes d)
        (entry_is (separator is_first) [] (document_text d) (elements_text_by signed_decimal (separator false) ds) _ end_array (elements_bytes false ds))

    properties_bytes : (is_first : Bool) (ps : Properties ℤ)
        → properties_text_by signed_decimal (separator is_first) ps ++ end_object ∷ [] ≡ nodes_bytes json_writes as_object is_first (property_nodes (json_leaves c) ps)
    properties_bytes is_first no_properties = refl
    properties_bytes is_first (property name d ps) =
        rw (← document_bytes d)
        (entry_is (separator is_first) (name_text name) (document_text d) (properties_text_by signed_decimal (separator false) ps) _ end_object (properties_bytes false ps))

-- ---- what has no parts

-- a number of 64 bits, with a sign or without one, fits 128 bits
number_fits : (n : ℤ) → is_document_number n ≡ true → fits_signed 128 n ≡ true
number_fits (pos n) h = grind (arith, nat_tests)
number_fits (negsuc n) h = grind (arith, nat_tests)

-- whichever variant the written number is read in
positive_held : (n : ℕ) (is_negative : Bool) → whole_number (if is_negative then NegInt (pos n) else PosInt n) ≡ pos n
positive_held n true = refl
positive_held n false = refl

held_is : (n : ℤ) → whole_number (held_as (signed_decimal n) n) ≡ n
held_is (pos n) = positive_held n (begins_with minus_sign (decimal n))
held_is (negsuc n) = refl

number_is_held : (n : ℤ) → is_document_number n ≡ true → number_of (signed_decimal n) ≡ Some (held_as (signed_decimal n) n)
number_is_held n fits =
    ap (option_and_then (λ z. if is_document_number z then Some (held_as (signed_decimal n) z) else None)) (decimal_writes n (number_fits n fits))
    ∙ ap (λ b. if b then Some (held_as (signed_decimal n) n) else None) fits

number_means : (n : ℤ) → is_document_number n ≡ true
    → (d : Document Number) × (document_says (a_number (signed_decimal n)) ≡ means d) × (whole_document d ≡ number n)
number_means n fits = (number (held_as (signed_decimal n) n), ap held_says (number_is_held n fits), ap number (held_is n))

-- what a scalar is as a document, where it is in the grammar
abbrev says : JsonScalar → Answer (Document Number)
says x = if in_grammar rfc_8259 scalars.BigDecimal x then document_says x else no_meaning

written_number : (n : ℤ) → is_document_number n ≡ true → (d : Document Number) × (says (a_number (signed_decimal n)) ≡ means d) × (whole_document d ≡ number n)
written_number n fits =
    let is = number_means n fits in
    let leaf = a_number (signed_decimal n) in
    (is.0, said_in scalars.BigDecimal leaf (document_says leaf) no_meaning (decimal_is_number n (number_fits n fits)) ∙ is.1, is.2)

written_text : (s : List ℕ) → IsUtf8 s → says (a_string (escaped s)) ≡ means (text s)
written_text s utf8 =
    let leaf = a_string (escaped s) in
    said_in scalars.BigDecimal leaf (document_says leaf) no_meaning (quoted_is_string s utf8).1 ∙ ap (λ o. answer_of (option_map text o)) (unescaped_of_escaped s)

document_is_kept : (c : Settings) (p : Place) → is_document_place p ≡ true → (standard_rules c).keeps_null (Some p) ≡ true
document_is_kept c p is = by c.dispatch_null_members
  where
    by : (on : Bool) → (on || is_document_place p) ≡ true
    by true = refl
    by false = is

-- a null of a member that is a document is a document, and what was written means what it was written for
pub json_reads_documents : (c : Settings) → ReadsDocuments (json_leaves c) (standard_rules c)
json_reads_documents c = record {
  says = says;
  carried = refl;
  null_is_kept = λ p is. document_is_kept c p is;
  boolean_means = λ b. refl;
  number_means = written_number;
  text_means = written_text;
}

boolean_is : (c : Settings) (b : Bool) → json_writes.IsScalar ((json_leaves c).leaf_of scalars.Boolean None (values.boolean b))
boolean_is c true = refl
boolean_is c false = refl

pub json_writes_documents : (c : Settings) → WritesDocuments json_writes (json_leaves c)
json_writes_documents c = record {
  boolean_is = boolean_is c;
  number_is = λ n fits. (refl, decimal_is_number n (number_fits n fits));
  text_is = λ s utf8. quoted_is_string s utf8;
}
