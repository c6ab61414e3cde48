-- How a document's value begins: scalars mean documents, and where none is found, none lies.
use Rattle.std.proofs.Common.{◌≡◌, ◌+◌, ◌∙◌, ℕ, suc, List, [], Bool, true, false, Option, Some, None, option_map, Result, Ok, Err, refl, sym, ap, arith, inl, inr, if◌then◌else◌}
use Rattle.std.specs.Option.{option_map_or}
use Rattle.smithy_types.specs.Document.{Document, null, boolean, number, text, array, object, Documents, item, properties_by}
use Rattle.smithy_types.specs.declared.number.Number.{Number}
use Rattle.smithy_schema.specs.Reading.{Mark}
use Rattle.smithy_declarations.specs.declared.shape_type.Scalar.TheVariants as scalars
use Rattle.smithy_shapes.specs.Limits.{Limits}
use Rattle.smithy_shapes.specs.Lemmas.Options.{chosen, made, step_apart}
use Rattle.smithy_json_grammar.specs.Ascii.{quotation_mark, begin_array, begin_object}
use Rattle.smithy_json_grammar.specs.Unescape.{unescaped}
use Rattle.smithy_json.proofs.DocumentLemmas.{some_of_pair}
use Rattle.smithy_json_values.specs.declared.documents.DocumentFault.TheVariants as faults
use Rattle.smithy_json_values.specs.declared.documents.scalars.BeginFault.{BeginFault}
use Rattle.smithy_json_values.specs.declared.documents.scalars.BeginFault.TheVariants.{NoValue, NotCarried, NoMemory}
use Rattle.smithy_json_values.specs.declared.documents.scalars.Begun.{Begun}
use Rattle.smithy_json_values.specs.declared.documents.scalars.Begun.TheVariants.{Scalar, Container}
use Rattle.smithy_json_values.specs.Settings.{Settings, kept, without_limits}
use Rattle.smithy_json_values.specs.Scalar.{JsonScalar, a_boolean, a_number, a_string, document_says, held_says}
use Rattle.smithy_json_values.specs.LexicalGrammar.{LexicalGrammar, frames_of, token_rules, LiesInGrammar, NodeLies}
use Rattle.smithy_json_values.specs.Tokens.{IsToken}
use Rattle.smithy_json_values.specs.Documents.{is_read_in, says_in, document_in, DocumentLies, NoDocumentLies, OtherNumberLies, ValueOpens}
use Rattle.smithy_json_values.specs.Private.NextInContainer.{IsFirstByte}
use Rattle.smithy_json_values.specs.Private.ScalarAtPlace.{TextLies}
use Rattle.smithy_json_values.specs.Private.Skipping.{NoValueLies}
use Rattle.smithy_json_values.specs.Private.OpenDocuments.{ScalarMeans, HeldNumberLies, BeginsDocument, RefusesDocument, begin_fault}
use Rattle.smithy_json_values.proofs.FirstBytePlaces.{first_lies}
use Rattle.smithy_json_values.proofs.NodeFirstBytes.{BeginsWith, begins_with_byte, node_before, node_behind}
use Rattle.smithy_json_values.proofs.ValueFirstByte.{lies_before}
use Rattle.smithy_json_values.proofs.OpenContainers.{grammar_is_wire, parts_node}
use Rattle.smithy_json_values.proofs.OpenDocumentLemmas.{Allows, within_allowed, depth_allowed}
use Rattle.smithy_wire.specs.Documents.{elements_of, pairs_of}
use Rattle.smithy_wire.specs.Frames.{Lies as LiesAsNode, NodesLie}
use Rattle.smithy_wire.specs.Lemmas.Nodes.{one_node}
use Rattle.smithy_wire.specs.Node.{as_array, as_object, Node, null_node, leaf, container, missing, Nodes, no_nodes, node, all_pass, nodes_pass}
use Rattle.smithy_wire.specs.Readers.{settled_answer}
use Rattle.smithy_wire.specs.Rules.{Answer, no_meaning, settled, at_depth, key_text}

-- ---- what means something is in the grammar

said : {A : Type 0} (limits : Limits) (nil : A) (test : Bool) (a : Answer A) (v : A) → settled limits nil (if test then a else no_meaning) ≡ Some v
    → (test ≡ true) × (settled limits nil a ≡ Some v)
said limits nil true a v h = (refl, h)
said limits nil false a v h = absurd (let no : None ≡ Some v = h in cc)

module _ (g : LexicalGrammar) (c : Settings) where
  -- a scalar that means a document, where it may stand as deep
  leaf_means : (n : ℕ) (x : JsonScalar) (d : Document Number) → document_in g c n (leaf x) ≡ Some d
      → Allows c (suc n) × (is_read_in g x ≡ true) × (settled c.limits null (document_says x) ≡ Some d)
  leaf_means n x d h =
      let may = depth_allowed g c (suc n) (settled c.limits null (says_in g x)) d h in
      let told = said c.limits null (is_read_in g x) (document_says x) d may.1 in (may.0, told.0, told.1)

  key_passes : (key : Option JsonScalar) (name : List ℕ) → key_text (token_rules g c) as_object key ≡ Some name → option_map_or (is_read_in g) key true ≡ true
  key_passes None name h = refl
  key_passes (Some (a_boolean b)) name h = refl
  key_passes (Some (a_number raw)) name h = absurd (no_text (g.is_integer raw) h)
    where
      no_text : (b : Bool) → (if b then None else None) ≡ Some name → ⊥
      no_text true h = cc
      no_text false h = cc
  key_passes (Some (a_string raw)) name h = (chosen (g.is_text raw) (unescaped raw) name h).0

  module _ (i : List ℕ) where
    mutual
      pub document_passes : (d n : ℕ) (x : Node JsonScalar) (a e : ℕ) (u : Document Number) → LiesAsNode (frames_of g) i d x a e → document_in g c n x ≡ Some u
          → all_pass (is_read_in g) x ≡ true
      document_passes d n null_node a e u lies h = refl
      document_passes d n (leaf x) a e u lies h = (leaf_means n x u h).1
      document_passes d n (container as_array xs) a e u (b, m, opens, lie, follows) h =
          let es = elements_of (token_rules g c) (says_in g) (suc n) xs in
          let inside = made array es u (depth_allowed g c (suc n) (option_map array es) u h).1 in
          elements_pass (suc d) (suc n) xs b m e inside.0 lie inside.1
      document_passes d n (container as_object xs) a e u (b, m, opens, lie, follows) h =
          let whole = λ (pairs : List (List ℕ × Document Number)). object (properties_by pairs) in
          let ps = pairs_of (token_rules g c) (says_in g) (suc n) xs in
          let inside = made whole ps u (depth_allowed g c (suc n) (option_map whole ps) u h).1 in
          pairs_pass (suc d) (suc n) xs b m e inside.0 lie inside.1
      document_passes d n missing a e u lies h = cc

      elements_pass : (d n : ℕ) (xs : Nodes JsonScalar) (b : ℕ) (m : Mark) (e : ℕ) (us : Documents Number) → NodesLie (frames_of g) as_array i d xs b m e
          → elements_of (token_rules g c) (says_in g) n xs ≡ Some us → nodes_pass (is_read_in g) xs ≡ true
      elements_pass d n no_nodes b m e us lie h = refl
      elements_pass d n (node key x xs) b m e us (p, o, f, entry, lies, lie) h =
          let es = elements_of (token_rules g c) (says_in g) n xs in
          let one = step_apart (document_in g c n x) (λ u. option_map (item u) es) us h in
          let rest = made (item one.0) es us one.2 in
          parts_node (is_read_in g) key x xs (rw entry.0 refl) (document_passes d n x p f one.0 lies one.1) (elements_pass d n xs f o e rest.0 lie rest.1)

      pairs_pass : (d n : ℕ) (xs : Nodes JsonScalar) (b : ℕ) (m : Mark) (e : ℕ) (us : List (List ℕ × Document Number)) → NodesLie (frames_of g) as_object i d xs b m e
          → pairs_of (token_rules g c) (says_in g) n xs ≡ Some us → nodes_pass (is_read_in g) xs ≡ true
      pairs_pass d n no_nodes b m e us lie h = refl
      pairs_pass d n (node key x xs) b m e us (p, o, f, entry, lies, lie) h =
          let ps = pairs_of (token_rules g c) (says_in g) n xs in
          let one = some_of_pair (key_text (token_rules g c) as_object key) (document_in g c n x) ps us h in
          parts_node (is_read_in g) key x xs (key_passes key one.0 one.3) (document_passes d n x p f one.1 lies one.4) (pairs_pass d n xs f o e one.2 lie one.5)

  pub document_node : (n : ℕ) (i : List ℕ) (a : ℕ) (d : Document Number) (e : ℕ) → (h : DocumentLies g c n i a d e) → NodeLies g (is_read_in g) 1 h.node i a e
  document_node n i a d e h = (h.lies, document_passes i 1 n h.node a e d h.lies h.means)

  -- what means something may stand as deep as it does
  pub meaning_allowed : (n : ℕ) (x : Node JsonScalar) (d : Document Number) → document_in g c n x ≡ Some d → Allows c (suc n)
  meaning_allowed n null_node d h = (depth_allowed g c (suc n) (Some null) d h).0
  meaning_allowed n (leaf x) d h = (leaf_means n x d h).0
  meaning_allowed n (container as_array xs) d h =
      (depth_allowed g c (suc n) (option_map array (elements_of (token_rules g c) (says_in g) (suc n) xs)) d h).0
  meaning_allowed n (container as_object xs) d h =
      (depth_allowed g c (suc n) (option_map (λ pairs. object (properties_by pairs)) (pairs_of (token_rules g c) (says_in g) (suc n) xs)) d h).0
  meaning_allowed n missing d h = cc

-- ---- where no document lies

abbrev pub NoDocument : LexicalGrammar → List ℕ → ℕ → Type 0
NoDocument g i a = (c : Settings) (depth : ℕ) → NoDocumentLies g c depth i a

pub no_node_no_document : (g : LexicalGrammar) (i : List ℕ) (a : ℕ) → NoValueLies g (is_read_in g) i a → NoDocument g i a
no_node_no_document g i a none c depth d e h = none 1 h.node e (document_node g c depth i a d e h)

-- ---- a number that no document holds

other_no_document : (g : LexicalGrammar) (c : Settings) (depth : ℕ) (i : List ℕ) (a : ℕ) → c.limits ≡ kept → OtherNumberLies g i a → NoDocumentLies g c depth i a
other_no_document g c depth i a keeps h d e there =
    let same = (one_node (frames_of g) (grammar_is_wire g) i 1 (leaf (a_number h.raw)) there.node a h.e e h.lies.0 there.lies).0 in
    let means = (leaf_means g c depth (a_number h.raw) d (ap (document_in g c depth) same ∙ there.means)).2 in
    let none : None ≡ Some d = sym (ap (λ l. settled l null (document_says (a_number h.raw))) keeps ∙ ap (λ o. settled kept null (held_says o)) h.not_held) ∙ means in
    cc

-- what keeps a value from beginning keeps a document from lying there
pub begins_refuses : (g : LexicalGrammar) (c : Settings) (depth : ℕ) (i : List ℕ) (a : ℕ) → c.limits ≡ kept → (f : BeginFault) → BeginsDocument g i a (Err f)
    → RefusesDocument g c depth i a (begin_fault f)
begins_refuses g c depth i a keeps NoValue h = (h (without_limits c) depth, h c depth)
begins_refuses g c depth i a keeps NotCarried h = (record { containers = []; at = a; due = refl; other = h }, other_no_document g c depth i a keeps h)
begins_refuses g c depth i a keeps NoMemory h = tt

-- ---- behind blanks

module _ (g : LexicalGrammar) (i : List ℕ) (at b start : ℕ) (here : IsFirstByte i at b start) where
  -- how a value begins at the first byte, it begins before the blanks
  pub begins_before : (r : Result Begun BeginFault) → BeginsDocument g i start r → BeginsDocument g i at r
  begins_before (Ok (Scalar d e)) h = record { node = h.node; lies = node_before i at b start here g (is_read_in g) 1 h.node e h.lies; flat = h.flat; means = h.means }
  begins_before (Ok (Container kind inside)) h = lies_before i at b start here _ inside h
  begins_before (Err NoValue) h = λ c depth d e there.
      let moved = node_behind i at b start here g (is_read_in g) 1 there.node e (document_node g c depth i at d e there) in
      h c depth d e (record { node = there.node; lies = moved.0; means = there.means })
  begins_before (Err NotCarried) h = record {
    raw = h.raw;
    e = h.e;
    lies = ((lies_before i at b start here (IsToken (a_number h.raw)) h.e h.lies.0.0, h.lies.0.1, h.lies.0.2), h.lies.1);
    not_held = h.not_held;
  }
  begins_before (Err NoMemory) h = tt

-- ---- inside of as many containers as there may be

module _ (g : LexicalGrammar) (c : Settings) (keeps : c.limits ≡ kept) (i : List ℕ) (a : ℕ) where
  none_at_limit : NoDocumentLies g c c.max_depth i a
  none_at_limit d e h =
      let may = within_allowed c keeps (suc c.max_depth) (meaning_allowed g c c.max_depth h.node d h.means) in omega (arith, may)

  too_deep_at_limit : ValueOpens g (is_read_in g) i a → RefusesDocument g c c.max_depth i a faults.TooDeep
  too_deep_at_limit opens =
      (record { containers = []; at = a; due = refl; opens = opens; deepest = omega arith }, omega arith, none_at_limit)

  -- where a value begins
  pub begun_at_limit : (b : Begun) → BeginsDocument g i a (Ok b) → RefusesDocument g c c.max_depth i a faults.TooDeep
  begun_at_limit (Scalar d e) h = too_deep_at_limit (inr (e, record { node = h.node; lies = h.lies; flat = h.flat }))
  begun_at_limit (Container kind inside) h = too_deep_at_limit (inl (kind, inside, h))

-- ---- scalars

module _ (g : LexicalGrammar) (i : List ℕ) (a : ℕ) where
  says_so : (x : JsonScalar) (e : ℕ) → LiesInGrammar g scalars.BigDecimal x i a e → says_in g x ≡ document_says x
  says_so x e h = ap (λ b. if b then document_says x else no_meaning) h.1

  -- a scalar that means a document under any limits
  scalar_means : (x : JsonScalar) (d : Document Number) (e : ℕ) → LiesInGrammar g scalars.BigDecimal x i a e
      → ((limits : Limits) → settled limits null (document_says x) ≡ Some d) → ScalarMeans g i a d e
  scalar_means x d e lies means = record {
    node = leaf x;
    lies = lies;
    flat = refl;
    means = λ c depth.
        ap (λ s. at_depth (token_rules g c) (suc depth) (settled c.limits null s)) (says_so x e lies)
        ∙ ap (at_depth (token_rules g c) (suc depth)) (means c.limits);
  }

  pub null_means : (e : ℕ) → (frames_of g).null i 0 a e → ScalarMeans g i a null e
  null_means e lies = record { node = null_node; lies = (lies, refl); flat = refl; means = λ c depth. refl }

  pub boolean_means : (b : Bool) (e : ℕ) → (frames_of g).scalar i 0 (a_boolean b) a e → ScalarMeans g i a (boolean b) e
  boolean_means b e lies = scalar_means (a_boolean b) (boolean b) e (lies, refl) (λ limits. refl)

  pub number_means : (n : Number) (e : ℕ) → HeldNumberLies g i a n e → ScalarMeans g i a (number n) e
  number_means n e h =
      scalar_means (a_number h.raw) (number n) e h.lies (λ limits. ap (λ o. settled limits null (held_says o)) h.is)

  pub text_means : (s : List ℕ) (e : ℕ) → TextLies g i a s e → ScalarMeans g i a (text s) e
  text_means s e h =
      scalar_means (a_string h.raw) (text s) e h.lies
      (λ limits. settled_answer limits null (option_map text (unescaped h.raw)) ∙ ap (option_map text) h.is)

  -- where a string begins that has no text
  pub no_text_no_document : (start : ℕ) → IsFirstByte i a quotation_mark start → ((s : List ℕ) (e : ℕ) → TextLies g i a s e → ⊥) → NoDocument g i a
  no_text_no_document start here none c depth d e h =
      go h.node (begins_with_byte g (is_read_in g) i a quotation_mark (start + 1) here.plain (first_lies i a quotation_mark start here) 1 h.node e (document_node g c depth i a d e h))
      h.lies h.means
    where
      go : (x : Node JsonScalar) → BeginsWith x quotation_mark → LiesAsNode (frames_of g) i 1 x a e → document_in g c depth x ≡ Some d → ⊥
      go null_node begins lies means = let no : ◌≡◌ {A = ℕ} quotation_mark 0x6e = begins in omega arith
      go (leaf (a_boolean true)) begins lies means = let no : ◌≡◌ {A = ℕ} quotation_mark 0x74 = begins in omega arith
      go (leaf (a_boolean false)) begins lies means = let no : ◌≡◌ {A = ℕ} quotation_mark 0x66 = begins in omega arith
      go (leaf (a_number raw)) begins lies means = let no : false ≡ true = begins in cc
      go (leaf (a_string raw)) begins lies means =
          let told = leaf_means g c depth (a_string raw) d means in
          let s = made text (unescaped raw) d (sym (settled_answer c.limits null (option_map text (unescaped raw))) ∙ told.2) in
          none s.0 e (record { raw = raw; lies = (lies, told.1); is = s.1 })
      go (container as_array xs) begins lies means = let no : ◌≡◌ {A = ℕ} quotation_mark begin_array = begins in omega arith
      go (container as_object xs) begins lies means = let no : ◌≡◌ {A = ℕ} quotation_mark begin_object = begins in omega arith
      go missing begins lies means = begins
