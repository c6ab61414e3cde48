-- A tree means as a document what its node means under the rules of JSON, and so do documents at a place.
use Rattle.std.specs.Prelude.{◌≡◌, ◌↔◌, ◌≤◌, ℕ, ℤ, zero, suc, pos, neg_ℤ, List, [], ◌∷◌, Bool, true, false, ◌==◌, drop, Option, Some, None, cond, option_map, option_and_then, refl, unsigned_abs, if◌then◌else◌}
use Rattle.std.proofs.Common.{◌∙◌, ap, subst, arith}
use Rattle.smithy_types.specs.Document.{Document, null, text, array, object, item, whole_document, properties_by, with_pair, is_document_number}
use Rattle.smithy_types.specs.Document as documents
use Rattle.smithy_types.specs.Number.{whole_number}
use Rattle.smithy_types.specs.declared.number.Number.{Number}
use Rattle.smithy_types.specs.declared.number.Number.TheVariants.{PosInt, NegInt}
use Rattle.smithy_declarations.specs.declared.place.Place.{Place}
use Rattle.smithy_declarations.specs.Documents.{document_nesting, DocumentFits}
use Rattle.smithy_shapes.specs.Limits.{Limits, kept, lifted, is_within}
use Rattle.smithy_declarations.specs.Table.{Table, document, kind_of}
use Rattle.smithy_declarations.specs.Value.{Value, document_value}
use Rattle.smithy_shapes.specs.Lemmas.Options.{same_some, step_apart, chosen, made}
use Rattle.smithy_json_grammar.specs.Ascii.{minus_sign}
use Rattle.smithy_json.specs.DocumentMeaning.{at_depth, number_meaning, document_meaning, elements_meaning, members_meaning}
use Rattle.smithy_json_grammar.specs.HeldNumber.{held_as, number_of}
use Rattle.smithy_json_grammar.specs.Number.{natural_number, whole_number as written_number}
use Rattle.smithy_json_grammar.specs.Tree as tree
use Rattle.smithy_json_grammar.specs.Tree.{Json, Elements, no_elements, element, Members, no_members, member}
use Rattle.smithy_json_grammar.specs.Unescape.{unescaped}
use Rattle.smithy_json_values.specs.Settings.{Settings}
use Rattle.smithy_json_values.specs.LexicalGrammar.{LexicalGrammar, frames_of, token_rules, token_relations, NodeLies}
use Rattle.smithy_json_values.specs.Scalar.{JsonScalar, a_boolean, a_number, a_string, held_says, document_says}
use Rattle.smithy_json_values.specs.Meaning.{node_of, element_nodes, member_nodes, rules_of, json_meaning}
use Rattle.smithy_json_values.specs.Documents.{is_read_in, says_in, document_in, MeetsOtherNumber, depth_limit, DocumentStands, NoDocumentStands}
use Rattle.smithy_json_values.specs.Deepest.{has_come, EntriesLie, IsDueInside}
use Rattle.smithy_json_values.specs.Private.Skipping.{ValueBegins}
use Rattle.smithy_json_values.specs.Private.BytePlaces.{separated_ahead}
use Rattle.smithy_json_values.specs.Private.TokenPlaces.{names_ahead}
use Rattle.smithy_json_values.specs.Private.Wire.{tokens_are_wire}
use Rattle.smithy_json_values.specs.Private.NodeDepths.{lies_with, ends_inside}
use Rattle.smithy_json_values.specs.Private.Fits.{HoldsUtf8, text_is_utf8}
use Rattle.smithy_wire.specs.Node.{Node}
use Rattle.smithy_wire.specs.Rules.{means, no_meaning, settled, answer_of}
use Rattle.smithy_wire.specs.Documents.{document_of, elements_of, pairs_of}
use Rattle.smithy_wire.specs.Readers.{settled_answer, document_stands, stands_node, part_uncarried}
use Rattle.smithy_wire.specs.Wire.{IsWire}
use Rattle.smithy_wire.specs.Lemmas.Places.{means_document}
use Rattle.smithy_wire.specs.Lemmas.Nodes.{lies_behind, not_back}
use Rattle.smithy_wire.proofs.Bounds.{answer_means}

-- the limit of documents under some settings
abbrev pub limit : Settings → Option ℕ
limit c = depth_limit c.limits c.max_depth

-- ---- a tree and its node

same_depth : {A : Type 0} (limits : Limits) (greatest depth : ℕ) (v : Option A) → cond (is_within limits greatest depth) v None ≡ at_depth (depth_limit limits greatest) depth v
same_depth kept greatest depth v = refl
same_depth lifted greatest depth v = refl

same_number : (limits : Limits) (greatest : ℕ) (o : Option Number) → settled limits null (held_says o) ≡ number_meaning (depth_limit limits greatest) o
same_number kept greatest None = refl
same_number lifted greatest None = refl
same_number limits greatest (Some n) = refl

module _ (c : Settings) where
  abbrev here : ℕ → Node JsonScalar → Option (Document Number)
  here depth x = document_of (rules_of c) document_says depth x

  abbrev there : ℕ → Json → Option (Document Number)
  there depth x = document_meaning (limit c) depth x

  deep : {A : Type 0} (depth : ℕ) (v u : Option A) → v ≡ u → cond (is_within c.limits c.max_depth depth) v None ≡ at_depth (limit c) depth u
  deep depth v u same = same_depth c.limits c.max_depth depth v ∙ ap (at_depth (limit c) depth) same

  mutual
    pub same_document : (depth : ℕ) (x : Json) → here depth (node_of x) ≡ there depth x
    same_document depth tree.null = deep (suc depth) (Some null) (Some null) refl
    same_document depth (tree.boolean b) = deep (suc depth) (Some (documents.boolean b)) (Some (documents.boolean b)) refl
    same_document depth (tree.number raw) =
        deep (suc depth) (settled c.limits null (held_says (number_of raw))) (number_meaning (limit c) (number_of raw)) (same_number c.limits c.max_depth (number_of raw))
    same_document depth (tree.string raw) =
        let o = option_map text (unescaped raw) in
        deep (suc depth) (settled c.limits null (answer_of o)) o (settled_answer c.limits null o)
    same_document depth (tree.array es) =
        deep (suc depth) (option_map array (elements_of (rules_of c) document_says (suc depth) (element_nodes es))) (option_map array (elements_meaning (limit c) (suc depth) es))
        (ap (option_map array) (same_elements (suc depth) es))
    same_document depth (tree.object ms) =
        let whole = λ (pairs : List (List ℕ × Document Number)). object (properties_by pairs) in
        deep (suc depth) (option_map whole (pairs_of (rules_of c) document_says (suc depth) (member_nodes ms))) (option_map whole (members_meaning (limit c) (suc depth) ms))
        (ap (option_map whole) (same_members (suc depth) ms))

    same_elements : (depth : ℕ) (es : Elements) → elements_of (rules_of c) document_says depth (element_nodes es) ≡ elements_meaning (limit c) depth es
    same_elements depth no_elements = refl
    same_elements depth (element x es) =
        ap (option_and_then (λ d. option_map (item d) (elements_of (rules_of c) document_says depth (element_nodes es)))) (same_document depth x)
        ∙ ap (λ o. option_and_then (λ d. option_map (item d) o) (there depth x)) (same_elements depth es)

    same_members : (depth : ℕ) (ms : Members) → pairs_of (rules_of c) document_says depth (member_nodes ms) ≡ members_meaning (limit c) depth ms
    same_members depth no_members = refl
    same_members depth (member raw x ms) =
        ap (λ o. with_pair (unescaped raw) o (pairs_of (rules_of c) document_says depth (member_nodes ms))) (same_document depth x)
        ∙ ap (with_pair (unescaped raw) (there depth x)) (same_members depth ms)

-- ---- what is due in a document lies ahead

module _ (g : LexicalGrammar) (test : JsonScalar → Bool) (i : List ℕ) where
  begins_ahead : (k entered : Bool) (b c : ℕ) → ValueBegins test i b k entered c → b ≤ c
  begins_ahead true entered b c h = omega (arith, names_ahead i entered b h.0 c h.1)
  begins_ahead false entered b c h = separated_ahead i entered b c h.0

  wire : IsWire (frames_of g)
  wire = tokens_are_wire g.is_strict

  value_ahead : (x : Node JsonScalar) (c p : ℕ) → NodeLies g test 1 x i c p → c ≤ p
  value_ahead x c p h = not_back (frames_of g) wire i c p (lies_behind (frames_of g) wire i 1 x c p h.0).0

  entries_ahead : (k : Bool) (count b r : ℕ) → EntriesLie g test k count i b r → b ≤ r
  entries_ahead k zero b r h = omega (arith, h)
  entries_ahead k (suc count) b r (q, c, x, entries, begins, lies) =
      omega (arith, entries_ahead k count b q entries, begins_ahead k (has_come count) q c begins, value_ahead x c r lies)

  due_ahead : (ks : List Bool) (a p : ℕ) → IsDueInside g test ks i a p → a ≤ p
  due_ahead [] a p h = omega (arith, h)
  due_ahead (k ∷ ks) a p (q, b, count, r, outer, opens, entries, begins) =
      omega (arith, due_ahead ks a q outer, opens.0, entries_ahead k count b r entries, begins_ahead k (has_come count) r p begins)

-- ---- documents at a place

module _ (g : LexicalGrammar) (c : Settings) (i : List ℕ) (d a : ℕ) where
  stands_lies : (x : Document Number) (e : ℕ) → (token_relations g c).documents i d a x e → DocumentStands g c d i a x e
  stands_lies x e (y, lies, held, follows) =
      (record { node = y; lies = lies_with g i d 1 y a e (ends_inside g.is_strict d (drop e i) follows) lies; means = held }, follows)

  lies_stands : (x : Document Number) (e : ℕ) → DocumentStands g c d i a x e → (token_relations g c).documents i d a x e
  lies_stands x e (there, follows) = (there.node, lies_with g i 1 d there.node a e follows there.lies, there.means, follows)

  -- from a to e stands a document where a node lies that means it, and behind it what may follow a container
  pub documents_are : (x : Document Number) (e : ℕ) → (token_relations g c).documents i d a x e ↔ DocumentStands g c d i a x e
  documents_are x e = (stands_lies x e, lies_stands x e)

  module _ (t : Table) (p : Place) (kind : kind_of t p ≡ document) where
    -- where a document stands at a place of documents, its value stands there
    pub value_stands : (x : Document Number) (e : ℕ) → DocumentStands g c d i a x e
        → (token_relations g c).stands i t p d a (document_value (whole_document x)) e × (token_relations g c).documents i d a x e
    value_stands x e there =
        let h = lies_stands x e there in
        document_stands (frames_of g) (token_rules g c) i t p kind d (says_in g) refl a h.0 x e h.1 h.2 h.3

    -- where no document stands at a place of documents, no value does
    pub no_value_stands : NoDocumentStands g c d i a → (v : Value) (e : ℕ) → (token_relations g c).stands i t p d a v e → ⊥
    no_value_stands none v e stands =
        let y = stands_node (frames_of g) (token_rules g c) i t p kind d a v e stands in
        let x = made (λ u. document_value (whole_document u)) (document_in g c d y.0) v y.2 in
        none x.0 e (stands_lies x.0 e (y.0, y.1, x.1, y.3))

    -- a number that no document holds isn't carried
    pub other_is_uncarried : MeetsOtherNumber g i a → (e : ℕ) × (token_relations g c).uncarried i t p d a e
    other_is_uncarried h =
        let other = h.other in (
          other.e,
          part_uncarried (frames_of g) (token_rules g c) i t p kind d (says_in g) refl a 0 h.at (a_number other.raw) other.e
              (due_ahead g (is_read_in g) i h.containers a h.at h.due) other.lies.0
              (ap (λ b. if b then document_says (a_number other.raw) else no_meaning) other.lies.1 ∙ ap held_says other.not_held),
        )

-- at a place of documents a tree means what it means as a document, and of each number the whole number alone
pub means_document_of : (c : Settings) (t : Table) (p : Place) → kind_of t p ≡ document → (d : ℕ) (x : Json)
    → json_meaning c t p d x ≡ option_map (λ u. document_value (whole_document u)) (document_meaning (limit c) d x)
means_document_of c t p kind d x =
    means_document (rules_of c) t p d (node_of x) kind
    ∙ ap (option_map (λ u. document_value (whole_document u))) (same_document c d x)

-- ---- what a scalar is as a document

whole_pos : (z : ℤ) (o : Option ℕ) → option_map pos o ≡ Some z → pos (unsigned_abs z) ≡ z
whole_pos z None h = cc
whole_pos z (Some n) h = let same : pos n ≡ z = same_some (pos n) z h in subst (λ y. pos (unsigned_abs y) ≡ y) same refl

-- a number that is held is the whole number of its text
held_whole : (raw : List ℕ) (z : ℤ) → written_number raw ≡ Some z → whole_number (held_as raw z) ≡ z
held_whole [] z h = cc
held_whole (b ∷ more) z h = by (b == minus_sign) h
  where
    by : (m : Bool) → (if m then option_map (λ n. neg_ℤ (pos n)) (natural_number more) else option_map pos (natural_number (b ∷ more))) ≡ Some z
        → whole_number (if m then NegInt z else PosInt (unsigned_abs z)) ≡ z
    by true h = refl
    by false h = whole_pos z (natural_number (b ∷ more)) h

number_fits : (raw : List ℕ) (n : Number) → number_of raw ≡ Some n → DocumentFits (whole_document (documents.number n))
number_fits raw n h =
    let z = step_apart (written_number raw) (λ z. if is_document_number z then Some (held_as raw z) else None) n h in
    let size = chosen (is_document_number z.0) (Some (held_as raw z.0)) n z.2 in
    let same : held_as raw z.0 ≡ n = same_some (held_as raw z.0) n size.1 in
    subst (λ m. is_document_number (whole_number m) ≡ true) same (rw (held_whole raw z.0 z.1) size.0)

held_means : (o : Option Number) (v : Document Number) → held_says o ≡ means v → (n : Number) × (o ≡ Some n) × (documents.number n ≡ v)
held_means None v h = cc
held_means (Some n) v h = (n, refl, cc)

-- what a scalar is as a document has no parts, and can be a value
pub says_document : (x : JsonScalar) → HoldsUtf8 x → (v : Document Number) → document_says x ≡ means v
    → DocumentFits (whole_document v) × (document_nesting v ≡ 1)
says_document (a_boolean b) holds v h =
    let same : documents.boolean b ≡ v = cc in
    subst (λ u. DocumentFits (whole_document u) × (document_nesting u ≡ 1)) same (tt, refl)
says_document (a_number raw) holds v h =
    let n = held_means (number_of raw) v h in
    subst (λ u. DocumentFits (whole_document u) × (document_nesting u ≡ 1)) n.2 (number_fits raw n.0 n.1, refl)
says_document (a_string raw) holds v h =
    let s = made text (unescaped raw) v (answer_means (option_map text (unescaped raw)) v h) in
    subst (λ u. DocumentFits (whole_document u) × (document_nesting u ≡ 1)) s.2 (text_is_utf8 (a_string raw) holds s.0 s.1, refl)
