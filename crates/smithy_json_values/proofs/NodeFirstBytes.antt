-- The first byte behind its white space tells which node lies at a place.
use Rattle.std.proofs.Common.{◌≤◌, ◌≡◌, ◌∙◌, ℕ, List, [], ◌∷◌, ◌++◌, drop, Bool, true, false, length, refl, sym, ap, arith, subst}
use Rattle.std.proofs.lemmas.List.{length-drop, length-append}
use Rattle.smithy_json_grammar.specs.Ascii.{quotation_mark, is_ws}
use Rattle.smithy_json_grammar.specs.Grammar.{IsWs}
use Rattle.smithy_json_values.specs.Scalar.{JsonScalar, a_boolean, a_number, a_string}
use Rattle.smithy_json_values.specs.Spans.{Lies, IsByte, without_ws, begins_with_null, opening}
use Rattle.smithy_json_values.specs.Tokens.{is_numeric, IsToken}
use Rattle.smithy_json_values.specs.LexicalGrammar.{LexicalGrammar, NodeLies}
use Rattle.smithy_json_values.specs.Private.Lexical.{first}
use Rattle.smithy_json_values.specs.Private.BytePlaces.{past_byte}
use Rattle.smithy_json_values.specs.Private.TokenPlaces.{past_token, token_begins, IsNullToken, past_null, null_token_begins}
use Rattle.smithy_json_values.specs.Private.ValueSorts.{json_sort, opens_sort}
use Rattle.smithy_json_values.specs.Private.NextInContainer.{IsFirstByte}
use Rattle.smithy_json_values.specs.Private.Skipping.{NoValueLies}
use Rattle.smithy_json_values.proofs.FirstBytePlaces.{without_all}
use Rattle.smithy_json_values.proofs.ValueFirstByte.{lies_before, rest_there}
use Rattle.smithy_wire.specs.Node.{Form, as_array, as_object, Node, null_node, leaf, container, missing}
use Rattle.smithy_wire.specs.Wire.{a_scalar, a_container, no_value}

-- the bytes of the node begin with this byte
abbrev pub BeginsWith : Node JsonScalar → ℕ → Type 0
BeginsWith null_node b = b ≡ 0x6e
BeginsWith (leaf (a_boolean true)) b = b ≡ 0x74
BeginsWith (leaf (a_boolean false)) b = b ≡ 0x66
BeginsWith (leaf (a_number raw)) b = is_numeric b ≡ true
BeginsWith (leaf (a_string raw)) b = b ≡ quotation_mark
BeginsWith (container f xs) b = b ≡ opening f
BeginsWith missing b = ⊥

token_begins_with : (x : JsonScalar) (s r : List ℕ) → IsToken x s → BeginsWith (leaf x) (first (s ++ r))
token_begins_with (a_boolean true) s r h = rw h refl
token_begins_with (a_boolean false) s r h = rw h refl
token_begins_with (a_number []) s r h = absurd h.1
token_begins_with (a_number (b ∷ raw)) s r h = rw h.0 h.1.0
token_begins_with (a_string raw) s r h = rw h.0 refl

pub is_plain_opening : (f : Form) → is_ws (opening f) ≡ false
is_plain_opening as_array = refl
is_plain_opening as_object = refl

module _ (g : LexicalGrammar) (test : JsonScalar → Bool) (i : List ℕ) (at : ℕ) where
  -- where this byte comes first, each node that lies there begins with it
  pub begins_with_byte : (b inside : ℕ) → is_ws b ≡ false → Lies (IsByte b) i at inside → (d : ℕ) (x : Node JsonScalar) (e : ℕ)
      → NodeLies g test d x i at e → BeginsWith x b
  begins_with_byte b inside plain here d x e h = go x h
    where
      front : without_ws (drop at i) ≡ b ∷ drop inside i
      front = past_byte b (drop at i) (drop inside i) plain here.2

      go : (x : Node JsonScalar) → NodeLies g test d x i at e → BeginsWith x b
      go null_node h = ap first (sym front ∙ past_null (drop at i) (drop e i) h.0.0.2)
      go (leaf x) h =
          let token = h.0.0.2 in
          subst (λ s. BeginsWith (leaf x) (first s)) (sym (past_token x (drop at i) (drop e i) token) ∙ front) (token_begins_with x token.1 (drop e i) token.4)
      go (container f xs) ((c, m, opens, lie, follows), passes) =
          ap first (sym front ∙ past_byte (opening f) (drop at i) (drop c i) (is_plain_opening f) opens.1.2)
      go missing h = let no : false ≡ true = h.1 in cc

  -- where only white space is left, no node lies
  pub nothing_lies : IsWs (drop at i) → NoValueLies g test i at
  nothing_lies ws d x e h = go x h
    where
      empty : without_ws (drop at i) ≡ []
      empty = without_all (drop at i) ws

      go : (x : Node JsonScalar) → NodeLies g test d x i at e → ⊥
      go null_node h = let no : false ≡ true = ap begins_with_null (sym empty) ∙ null_token_begins i at e h.0.0 h.0.1 in cc
      go (leaf x) h = let no : no_value ≡ a_scalar = ap json_sort (sym empty) ∙ token_begins i x at e h.0.0 in cc
      go (container f xs) ((c, m, opens, lie, follows), passes) =
          let no : no_value ≡ a_container f = ap json_sort (sym empty) ∙ opens_sort f i at c opens.1 in cc
      go missing h = let no : false ≡ true = h.1 in cc

-- ---- from the first byte on

module _ (i : List ℕ) (at b start : ℕ) (here : IsFirstByte i at b start) where
  -- what lies behind the white space, and doesn't begin with any, lies from the first byte on
  lies_after : (P : List ℕ → Type 0) (e : ℕ) → (h : Lies P i at e) → without_ws (drop at i) ≡ h.2.1 ++ drop e i → Lies P i start e
  lies_after P e h plain =
      let left : drop start i ≡ h.2.1 ++ drop e i = sym (rest_there i at b start here) ∙ plain in
      let n = ap length left in
      let ordered : start ≤ e = omega (arith, n, length-append h.2.1 (drop e i), length-drop start i, length-drop e i, h.1, here.within) in
      (ordered, h.1, ([], h.2.1, left, tt, h.2.4))

  module _ (g : LexicalGrammar) (test : JsonScalar → Bool) where
    pub node_behind : (d : ℕ) (x : Node JsonScalar) (e : ℕ) → NodeLies g test d x i at e → NodeLies g test d x i start e
    node_behind d null_node e h = ((lies_after IsNullToken e h.0.0 (rw h.0.0.2.4 (past_null (drop at i) (drop e i) h.0.0.2)), h.0.1, h.0.2), h.1)
    node_behind d (leaf x) e h = ((lies_after (IsToken x) e h.0.0 (past_token x (drop at i) (drop e i) h.0.0.2), h.0.1, h.0.2), h.1)
    node_behind d (container f xs) e ((c, m, opens, lie, follows), passes) =
        let bracket = lies_after (IsByte (opening f)) c opens.1
        (past_byte (opening f) (drop at i) (drop c i) (is_plain_opening f) opens.1.2 ∙ ap (λ s. s ++ drop c i) (sym opens.1.2.4)) in
        ((c, m, (opens.0, bracket), lie, follows), passes)
    node_behind d missing e h = let no : false ≡ true = h.1 in cc

    -- and what lies from there on lies from before the white space on
    pub node_before : (d : ℕ) (x : Node JsonScalar) (e : ℕ) → NodeLies g test d x i start e → NodeLies g test d x i at e
    node_before d null_node e h = ((lies_before i at b start here IsNullToken e h.0.0, h.0.1, h.0.2), h.1)
    node_before d (leaf x) e h = ((lies_before i at b start here (IsToken x) e h.0.0, h.0.1, h.0.2), h.1)
    node_before d (container f xs) e ((c, m, opens, lie, follows), passes) =
        ((c, m, (opens.0, lies_before i at b start here (IsByte (opening f)) c opens.1), lie, follows), passes)
    node_before d missing e h = let no : false ≡ true = h.1 in cc
