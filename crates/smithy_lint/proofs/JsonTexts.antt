-- When a body is a JSON text that is gone through, and what is found in it.
use Rattle.std.specs.Prelude.{◌≡◌, ◌≤◌, ◌<◌, ◌↔◌, ◌&&◌, ℕ, length, drop, List, [], Bool, true, Some, is_some, refl}
use Rattle.std.proofs.Common.{sym, ◌∙◌, ap, arith, subst, inl, inr}
use Rattle.std.proofs.lemmas.Bool.{and_parts}
use Rattle.smithy_declarations.specs.declared.place.Place.{Place}
use Rattle.smithy_declarations.specs.Table.{Table}
use Rattle.smithy_declarations.specs.Value.{Value}
use Rattle.smithy_shapes.specs.Limits.{kept}
use Rattle.smithy_json_grammar.specs.Standing.{IsRunAt}
use Rattle.smithy_json_grammar.specs.Ascii.{is_ws}
use Rattle.smithy_json_grammar.specs.Tree.{Json, nesting}
use Rattle.smithy_json_grammar.specs.Grammar.{IsWs, IsJsonText}
use Rattle.smithy_json_values.specs.Settings.{Settings}
use Rattle.smithy_json_values.specs.Scalar.{JsonScalar}
use Rattle.smithy_json_values.specs.Meaning.{node_of, rules_of, json_meaning}
use Rattle.smithy_json_values.specs.Spelling.{json_spells}
use Rattle.smithy_json_values.specs.LexicalGrammar.{LexicalGrammar, rfc_8259, is_skipped_in, NodeLies}
use Rattle.smithy_json_values.specs.Private.Skipping.{SkipsTo}
use Rattle.smithy_json_values.specs.Private.NodePlaces.{tree_lies, lies_tree, same_nesting}
use Rattle.smithy_json_values.specs.Private.Wire.{json_is_wire}
use Rattle.smithy_json_values.specs.Deepest.{OpensTooDeep}
use Rattle.smithy_json_values.specs.Openers.{outside}
use Rattle.smithy_json_values.proofs.FirstBytePlaces.{reaches_end, ends_there}
use Rattle.smithy_json_values.proofs.SpellingLemmas.{text_lies, lies_text, one_text}
use Rattle.smithy_json_values.specs.Private.ValuePlaces.{tree_ahead}
use Rattle.smithy_wire.specs.Node.{Node, nesting as node_nesting}
use Rattle.smithy_wire.specs.Lemmas.Nodes.{one_node}
use Rattle.smithy_transcode.specs.Wires.{json}
use Rattle.smithy_lint.specs.Findings.{Found, findings, all_known}
use Rattle.smithy_lint.proofs.Law.{is_clean}
use Rattle.smithy_lint.specs.Lint.{IsTextWithin}
use Rattle.smithy_lint.specs.declared.linting.LintError.TheVariants.{TooNested}
use Rattle.smithy_lint.specs.Private.JsonPlaces.{ValueLies}
use Rattle.smithy_lint.specs.Private.Opening.{IsRefusedFor}
use Rattle.smithy_lint.proofs.Whole.{nothing_found}
use Rattle.smithy_lint.proofs.CborClean.{clean_is_empty, some_there}
use Rattle.smithy_lint.proofs.JsonDepth.{opens_more, rise_is_counted}

-- ---- the first pass

-- what lies at the start, with only white space behind it, is the node of a tree whose text the body is
pub text_of_node : (i : List ℕ) (y : Node JsonScalar) (e : ℕ) → NodeLies rfc_8259 (is_skipped_in rfc_8259) 0 y i 0 e → IsWs (drop e i)
    → (x : Json) × IsJsonText x i × (node_of x ≡ y)
text_of_node i y e lies ws =
    let tree = lies_tree 0 y i 0 e lies.1 lies.0 in
    (tree.0, lies_text i tree.0 e tree.1 ws, tree.2)

-- and the node of the tree of a text lies at its start
pub node_of_text : (i : List ℕ) (x : Json) → IsJsonText x i → (e : ℕ) × NodeLies rfc_8259 (is_skipped_in rfc_8259) 0 (node_of x) i 0 e × IsWs (drop e i)
node_of_text i x text =
    let there = text_lies i x text in
    (there.0, tree_lies 0 x i 0 there.0 there.1, there.2)

module _ (b n : Bool) (i : List ℕ) where
  -- no value lies at the start
  pub no_value : ((any e : ℕ) → SkipsTo rfc_8259 any 0 i 0 e → ⊥) → (most : ℕ) → IsTextWithin (json b n) most i → ⊥
  no_value none most (x, text, nests) =
      let there = node_of_text i x text in
      none (node_nesting (node_of x)) there.0 (record { node = node_of x; lies = there.1; shallow = omega arith })

  -- or more comes behind it
  pub more_behind : (end start : ℕ) → SkipsTo rfc_8259 512 0 i 0 end → IsRunAt is_ws i end start → start < length i → (most : ℕ) → IsTextWithin (json b n) most i → ⊥
  more_behind end start skips run short most (x, text, nests) =
      let there = node_of_text i x text in
      let same = (one_node _ json_is_wire i 0 (node_of x) skips.node 0 there.0 end there.1.0 skips.lies.0).1 in
      let last = ends_there i end start run (subst (λ e. IsWs (drop e i)) same there.2) in
      omega (arith, last, short)

  -- or a container opens too deep
  pub too_nested : ((e : ℕ) → SkipsTo rfc_8259 512 0 i 0 e → ⊥) → OpensTooDeep rfc_8259 512 0 i 0 → IsRefusedFor (json b n) i TooNested
  too_nested refused deep = (
    λ t.
        let there = node_of_text i t.0 t.1 in
        refused there.0 (record { node = node_of t.0; lies = there.1; shallow = omega (arith, same_nesting t.0, t.2) }),
    omega (arith, opens_more rfc_8259 i 512 deep, rise_is_counted outside i),
  )

-- the same by the grammar and the depth of some settings that are these
module _ (l : LexicalGrammar) (deepest : ℕ) (same : l ≡ rfc_8259) (is : deepest ≡ 512) (b n : Bool) (i : List ℕ) where
  as_standard : (P : LexicalGrammar → ℕ → Type 0) → P l deepest → P rfc_8259 512
  as_standard P h = subst (λ (p : LexicalGrammar × ℕ). P p.0 p.1) (λ j. (same j, is j)) h

  pub refuses_no_value : ((any e : ℕ) → SkipsTo l any 0 i 0 e → ⊥) → (most : ℕ) → IsTextWithin (json b n) most i → ⊥
  refuses_no_value none = no_value b n i (as_standard (λ g d. (any e : ℕ) → SkipsTo g any 0 i 0 e → ⊥) none)

  pub refuses_more : (end start : ℕ) → SkipsTo l deepest 0 i 0 end → IsRunAt is_ws i end start → start < length i → (most : ℕ) → IsTextWithin (json b n) most i → ⊥
  refuses_more end start skips = more_behind b n i end start (as_standard (λ g d. SkipsTo g d 0 i 0 end) skips)

  pub refuses_nested : ((e : ℕ) → SkipsTo l deepest 0 i 0 e → ⊥) → OpensTooDeep l deepest 0 i 0 → IsRefusedFor (json b n) i TooNested
  refuses_nested refused deep =
      too_nested b n i (as_standard (λ g d. (e : ℕ) → SkipsTo g d 0 i 0 e → ⊥) refused) (as_standard (λ g d. OpensTooDeep g d 0 i 0) deep)

  -- what is gone through is the text of a tree whose node lies at the start
  pub holds_tree : (end start : ℕ) → SkipsTo l deepest 0 i 0 end → IsRunAt is_ws i end start → (start < length i → ⊥)
      → (x : Json) × IsJsonText x i × (nesting x ≤ 512) × ValueLies rfc_8259 i 0 (node_of x) 0 end
  holds_tree end start skips run none =
      let s = as_standard (λ g d. SkipsTo g d 0 i 0 end) skips in
      let last : start ≡ length i = omega (arith, run.within, none) in
      let (x, text, node) = text_of_node i s.node end s.lies (reaches_end i end start run last) in
      let low : node_nesting (node_of x) ≤ 512 = subst (λ (y : Node JsonScalar). node_nesting y ≤ 512) (sym node) (omega (arith, s.shallow)) in (
        x,
        text,
        omega (arith, low, same_nesting x),
        (subst (λ (y : Node JsonScalar). NodeLies rfc_8259 (is_skipped_in rfc_8259) 0 y i 0 end) (sym node) s.lies, omega (arith, low)),
      )

-- nothing is the text of a tree
pub no_text : (x : Json) → IsJsonText x [] → ⊥
no_text x text =
    let there = text_lies [] x text in
    omega (arith, tree_ahead 0 x [] 0 there.0 there.1, there.1.0.1)

-- ---- what is found in a text

module _ (c : Settings) (keeps : c.limits ≡ kept) (t : Table) (p : Place) (body : List ℕ) where
  abbrev AllKnown : Type 0
  AllKnown = (x : Json) → IsJsonText x body → all_known (rules_of c) t p (node_of x) ≡ true

  -- the law of findings for a text
  pub text_clean : (x : Json) (l : List Found) → IsJsonText x body → l ≡ findings (rules_of c) t p 0 [] (node_of x)
      → (l ≡ []) ↔ (((v : Value) × json_spells c t p body v) × AllKnown)
  text_clean x l text is = (out, back)
    where
      law : is_clean l ≡ (is_some (json_meaning c t p 0 x) && all_known (rules_of c) t p (node_of x))
      law = ap is_clean is ∙ nothing_found JsonScalar (rules_of c) keeps t p 0 [] (node_of x)

      out : l ≡ [] → ((v : Value) × json_spells c t p body v) × AllKnown
      out none =
          let both = and_parts (is_some (json_meaning c t p 0 x)) (all_known (rules_of c) t p (node_of x)) (sym law ∙ ap is_clean none) in
          let (v, means) = some_there (json_meaning c t p 0 x) both.0 in
          ((v, inl (x, text, means)), λ y other. ap (λ z. all_known (rules_of c) t p (node_of z)) (one_text body y x other text) ∙ both.1)

      clean : (v : Value) → json_meaning c t p 0 x ≡ Some v → all_known (rules_of c) t p (node_of x) ≡ true → l ≡ []
      clean v means known = clean_is_empty l (law ∙ rw (means, known) refl)

      back : ((v : Value) × json_spells c t p body v) × AllKnown → l ≡ []
      back ((v, inl (y, other, means)), knows) = clean v (ap (json_meaning c t p 0) (one_text body x y text other) ∙ means) (knows x text)
      back ((v, inr (empty, kind, deep, is)), knows) = absurd (no_text x (subst (IsJsonText x) empty text))
