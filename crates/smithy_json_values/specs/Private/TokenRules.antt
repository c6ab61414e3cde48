-- Tokens of the grammar of RFC 8259 mean what they mean by the rules without tests.
use Rattle.std.specs.Prelude.{◌≡◌, ◌&&◌, ℕ, suc, List, ◌∷◌, Bool, true, Option, Some, None, option_map, option_and_then, if◌then◌else◌, refl}
use Rattle.std.specs.Option.{option_map_or}
use Rattle.std.proofs.Common.{◌∙◌, ap}
use Rattle.std.proofs.lemmas.Bool.{and_parts}
use Rattle.smithy_types.specs.Document.{Document, null, array, object, item, properties_by, with_pair, whole_document}
use Rattle.smithy_types.specs.declared.number.Number.{Number}
use Rattle.smithy_declarations.specs.declared.place.Place.{Place}
use Rattle.smithy_declarations.specs.declared.shape_type.TimestampFormat.{TimestampFormat}
use Rattle.smithy_shapes.specs.Container.{Entry, container_of}
use Rattle.smithy_declarations.specs.Table.{Table, Kind, scalar, kind_of, place_in, where_document}
use Rattle.smithy_declarations.specs.Value.{Value, document_value, null_element}
use Rattle.smithy_declarations.specs.declared.shape_type.Scalar.{Scalar}
use Rattle.smithy_declarations.specs.declared.shape_type.Scalar.TheVariants as scalars
use Rattle.smithy_json_values.specs.Settings.{Settings}
use Rattle.smithy_json_values.specs.Scalar.{JsonScalar, text_of, document_says}
use Rattle.smithy_json_values.specs.Meaning.{rules_of}
use Rattle.smithy_json_values.specs.LexicalGrammar.{rfc_8259, in_grammar, is_skipped_in, token_rules}
use Rattle.smithy_json_values.specs.Private.TokenGrammar.{good_in}
use Rattle.smithy_wire.specs.Node.{Form, as_array, as_object, Node, null_node, leaf, container, missing, Nodes, no_nodes, node, all_pass, nodes_pass, is_null}
use Rattle.smithy_wire.specs.Rules.{Answer, no_meaning, settled, Rules, at_depth, may_skip, key_text, position_in, is_absent}
use Rattle.smithy_wire.specs.Documents.{document_of, elements_of, pairs_of, document_meaning}
use Rattle.smithy_wire.specs.Meaning.{leaf_meaning, is_in, entry_at, meaning, entries}

then_same : {A B : Type 0} (o : Option A) (f g : A → Option B) → ((a : A) → f a ≡ g a) → option_and_then f o ≡ option_and_then g o
then_same None f g same = refl
then_same (Some a) f g same = same a

module _ (c : Settings) where
  abbrev r : Rules JsonScalar
  r = token_rules rfc_8259 c

  abbrev u : Rules JsonScalar
  u = rules_of c

  abbrev says : JsonScalar → Answer (Document Number)
  says x = if in_grammar rfc_8259 scalars.BigDecimal x then document_says x else no_meaning

  abbrev good : JsonScalar → Bool
  good = is_skipped_in rfc_8259

  same_says : {A : Type 0} (s : Scalar) (x : JsonScalar) (a : Answer A) → good x ≡ true → (if in_grammar rfc_8259 s x then a else no_meaning) ≡ a
  same_says s x a h = ap (λ b. if b then a else no_meaning) (good_in s x h)

  same_key : (f : Form) (key : Option JsonScalar) → option_map_or good key true ≡ true → key_text r f key ≡ key_text u f key
  same_key as_array key h = refl
  same_key as_object None h = refl
  same_key as_object (Some x) h = ap (λ b. if b then text_of x else None) (good_in scalars.String x h)

  mutual
    all_there : (x : Node JsonScalar) → all_pass good x ≡ true → all_pass (λ y. true) x ≡ true
    all_there null_node h = refl
    all_there (leaf x) h = refl
    all_there (container f xs) h = nodes_there xs h
    all_there missing h = h

    nodes_there : (xs : Nodes JsonScalar) → nodes_pass good xs ≡ true → nodes_pass (λ y. true) xs ≡ true
    nodes_there no_nodes h = refl
    nodes_there (node None x xs) h =
        let parts = and_parts (all_pass good x) (nodes_pass good xs) h in rw (all_there x parts.0, nodes_there xs parts.1) refl
    nodes_there (node (Some k) x xs) h =
        let parts = and_parts (good k && all_pass good x) (nodes_pass good xs) h in
        rw (all_there x (and_parts (good k) (all_pass good x) parts.0).1, nodes_there xs parts.1) refl

  -- where a document is due
  mutual
    pub same_document : (d : ℕ) (x : Node JsonScalar) → all_pass good x ≡ true → document_of r says d x ≡ document_of u document_says d x
    same_document d null_node h = refl
    same_document d (leaf x) h = ap (λ a. at_depth u (suc d) (settled c.limits null a)) (same_says scalars.BigDecimal x (document_says x) h)
    same_document d (container as_array xs) h = ap (λ es. at_depth u (suc d) (option_map array es)) (same_elements (suc d) xs h)
    same_document d (container as_object xs) h =
        ap (λ pairs. at_depth u (suc d) (option_map (λ pairs. object (properties_by pairs)) pairs)) (same_pairs (suc d) xs h)
    same_document d missing h = refl

    same_elements : (d : ℕ) (xs : Nodes JsonScalar) → nodes_pass good xs ≡ true → elements_of r says d xs ≡ elements_of u document_says d xs
    same_elements d no_nodes h = refl
    same_elements d (node key x xs) h =
        let parts = and_parts (option_map_or good key true && all_pass good x) (nodes_pass good xs) h in
        let own = and_parts (option_map_or good key true) (all_pass good x) parts.0 in
        ap (λ es. option_and_then (λ d. option_map (item d) es) (document_of r says d x)) (same_elements d xs parts.1)
        ∙ ap (option_and_then (λ e. option_map (item e) (elements_of u document_says d xs))) (same_document d x own.1)

    same_pairs : (d : ℕ) (xs : Nodes JsonScalar) → nodes_pass good xs ≡ true → pairs_of r says d xs ≡ pairs_of u document_says d xs
    same_pairs d no_nodes h = refl
    same_pairs d (node key x xs) h =
        let parts = and_parts (option_map_or good key true && all_pass good x) (nodes_pass good xs) h in
        let own = and_parts (option_map_or good key true) (all_pass good x) parts.0 in
        ap (λ text. with_pair text (document_of r says d x) (pairs_of r says d xs)) (same_key as_object key own.0)
        ∙ ap (λ y. with_pair (key_text u as_object key) y (pairs_of r says d xs)) (same_document d x own.1)
        ∙ ap (with_pair (key_text u as_object key) (document_of u document_says d x)) (same_pairs d xs parts.1)

  same_document_meaning : (d : ℕ) (x : Node JsonScalar) → all_pass good x ≡ true → document_meaning r d x ≡ document_meaning u d x
  same_document_meaning d x h = ap (option_map (λ y. document_value (whole_document y))) (same_document d x h)

  -- at any place
  same_leaf : (k : Kind) (time : Option TimestampFormat) (x : JsonScalar) → good x ≡ true → leaf_meaning r k time x ≡ leaf_meaning u k time x
  same_leaf (scalar s) time x h = ap (settled c.limits null_element) (same_says s x (u.says s time x) h)
  same_leaf _ time x h = refl

  same_where : (k : Kind) (a b o p : Option Value) → a ≡ b → o ≡ p → where_document k a o ≡ where_document k b p
  same_where k a b o p h j = ap (λ x. where_document k x o) h ∙ ap (where_document k b) j

  module _ (t : Table) (k : Kind) (f : Form) (d : ℕ) (key : Option JsonScalar) (x : Node JsonScalar) where
    abbrev entry : Option (List ℕ) → Option Value → Bool → Entry
    entry text means skippable = record {
      key = text;
      position = position_in u k text;
      meaning = means;
      is_absent = is_absent u k text x;
      is_skippable = skippable;
      is_null = is_null x;
    }

    abbrev place : Option (List ℕ) → Option Place
    place text = place_in k (position_in u k text)

    same_entry : option_map_or good key true ≡ true → all_pass good x ≡ true → ((q : Place) → meaning r t q d x ≡ meaning u t q d x)
        → entry_at r k f d key x (λ q. meaning r t q d x) ≡ entry_at u k f d key x (λ q. meaning u t q d x)
    same_entry name h same =
        let skips : may_skip r d x ≡ may_skip u d x = rw (h, all_there x h) refl in
        ap (λ text. entry text (option_and_then (λ q. meaning r t q d x) (place text)) (may_skip r d x)) (same_key f key name)
        ∙ ap (λ v. entry (key_text u f key) v (may_skip r d x)) (then_same (place (key_text u f key)) (λ q. meaning r t q d x) (λ q. meaning u t q d x) same)
        ∙ ap (entry (key_text u f key) (option_and_then (λ q. meaning u t q d x) (place (key_text u f key)))) skips

  mutual
    pub same_meaning : (t : Table) (p : Place) (d : ℕ) (x : Node JsonScalar) → all_pass good x ≡ true → meaning r t p d x ≡ meaning u t p d x
    same_meaning t p d null_node h = refl
    same_meaning t p d (leaf x) h =
        same_where (kind_of t p) (document_meaning r d (leaf x)) (document_meaning u d (leaf x)) _ _ (same_document_meaning d (leaf x) h) (same_leaf (kind_of t p) p.time x h)
    same_meaning t p d (container f xs) h =
        same_where (kind_of t p) (document_meaning r d (container f xs)) (document_meaning u d (container f xs)) _ _ (same_document_meaning d (container f xs) h)
        (ap (λ es. at_depth u (suc d) (if is_in (kind_of t p) f then container_of (kind_of t p) es else None)) (same_entries t p f (suc d) xs h))
    same_meaning t p d missing h = refl

    same_entries : (t : Table) (p : Place) (f : Form) (d : ℕ) (xs : Nodes JsonScalar) → nodes_pass good xs ≡ true → entries r t p f d xs ≡ entries u t p f d xs
    same_entries t p f d no_nodes h = refl
    same_entries t p f d (node key x xs) h =
        let parts = and_parts (option_map_or good key true && all_pass good x) (nodes_pass good xs) h in
        let own = and_parts (option_map_or good key true) (all_pass good x) parts.0 in
        let one = same_entry t (kind_of t p) f d key x own.0 own.1 (λ q. same_meaning t q d x own.1) in
        ap (λ e. e ∷ entries r t p f d xs) one ∙ ap (λ es. entry_at u (kind_of t p) f d key x (λ q. meaning u t q d x) ∷ es) (same_entries t p f d xs parts.1)
